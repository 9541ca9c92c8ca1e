-- `step::step` meets its contract: what is refused changes nothing, and what is not is the step's by value.
use mathlib.Core.Path.{sym, ◌∙◌}
use Rattle.map.specs.Memory.{base}
use Rattle.outcome.proofs.Numbering.{refuses}
use Rattle.update.proofs.Refuses.{refused_call, accepted_call}
use Rattle.step.proofs.step.Goals as goal

pub returns-in-Ok-clause-left : goal.returns-in-Ok-clause-left
returns-in-Ok-clause-left c =
    accepted_call base _ _ _ _ _ _ _ _ _ _ c.in-Ok.ensures c.step_granted.ensures.left

pub returns-in-Err-clause-left : goal.returns-in-Err-clause-left
returns-in-Err-clause-left c =
    refused_call base _ _ _ _ _ _ _ _ _ _ _ c.refused.ensures (c.number.ensures ∙ c.in-Err.ensures)
    (λ z. refuses _ (sym c.number.ensures ∙ z))
