-- `step::step_lent` meets its contract: of a memory that nothing refuses, what is asked alone is judged.
use mathlib.Core.Path.{refl, sym, ap, ◌∙◌}
use native.Mathlib.Omega.{arith}
use Rattle.map.specs.Memory.{base}
use Rattle.map.proofs.Longs.{are_long_lem}
use Rattle.map.specs.Slices.{lent_in}
use Rattle.update.specs.UpdateCall.{left_of}
use Rattle.update.specs.Steps.{refused_with}
use Rattle.update.specs.declared.Returned.{Returned}
use Rattle.update.proofs.Refuses.{map_long, refused_call, accepted_call}
use Rattle.outcome.proofs.Numbering.{refuses}
use Rattle.step.proofs.Judged.{judged}
use Rattle.step.proofs.step_lent.Goals as goal

pub asked_refusal-requires : goal.asked_refusal-requires
asked_refusal-requires c =
    (omega arith, (are_long_lem base _ (map_long base _ _ _ _ c.requires)).links)

pub step_granted-got-requires : goal.step_granted-got-requires
step_granted-got-requires c = judged base _ _ _ _ _ c.requires ∙ sym c.in-Ok.ensures

pub returns-in-Ok-clause-left : goal.returns-in-Ok-clause-left
returns-in-Ok-clause-left c =
    accepted_call base _ _ _ _ _ _ _ _ _ _ (c.in-Ok.ensures ∙ sym (judged base _ _ _ _ _ c.requires))
    c.step_granted-got.ensures.left

pub returns-in-Err-clause-left : goal.returns-in-Err-clause-left
returns-in-Err-clause-left c =
    ap (λ (r : Returned). left_of r.report c.args.rec.now c.args.links.now (lent_in c.args.room.now)) c.refused.ensures
    ∙ refused_call base _ _ _ _ _ _ _ _ _ _ (refused_with c.number.result c.args.rec.now) refl
    (c.number.ensures ∙ c.in-Err.ensures ∙ sym (judged base _ _ _ _ _ c.requires)) (λ z. refuses _ (sym c.number.ensures ∙ z))
