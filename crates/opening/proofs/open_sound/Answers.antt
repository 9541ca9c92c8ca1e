-- `opening::open_sound` meets its contract: of a memory that nothing refuses the notice alone is judged.
use mathlib.Core.Path.{◌∙◌, sym}
use Rattle.map.specs.Memory.{base}
use Rattle.update.proofs.Refuses.{refused_call}
use Rattle.outcome.proofs.Numbering.{refuses}
use Rattle.opening.proofs.Placed.{judged}
use Rattle.opening.proofs.open_sound.Goals as goal

pub returns-in-Err-clause-left : goal.returns-in-Err-clause-left
returns-in-Err-clause-left c =
    refused_call base _ _ _ _ _ _ _ _ _ _ _ c.refused.ensures
    (c.number.ensures ∙ c.in-Err.ensures ∙ sym (judged base _ _ _ _ _ _ _ c.requires)) (λ z. refuses _ (sym c.number.ensures ∙ z))
