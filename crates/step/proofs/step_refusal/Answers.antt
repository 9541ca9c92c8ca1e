-- `step::step_refusal` meets its contract: a refusal of the memory comes before one of what is asked.
use mathlib.Core.Path.{sym, ◌∙◌}
use native.Mathlib.Omega.{arith}
use Rattle.std.proofs.lemmas.Result.{err_from_is_err_and}
use Rattle.map.specs.Memory.{base}
use Rattle.map.proofs.Longs.{are_long_lem}
use Rattle.update.proofs.Refuses.{refused_by-map, map_long}
use Rattle.outcome.proofs.Numbering.{refuses}
use Rattle.step.proofs.Judged.{judged}
use Rattle.step.proofs.step_refusal.Goals as goal

pub returns-in_err-room_refusal : goal.returns-in_err-room_refusal
returns-in_err-room_refusal c =
    let p = err_from_is_err_and c.from_residual.result c.from_residual.ensures.1 in
    rw (p.1, p.2) (refused_by-map base _ _ _ _ _ _ c.in_err-room_refusal.ensures (refuses _))

pub asked_refusal-requires : goal.asked_refusal-requires
asked_refusal-requires c =
    (omega arith, (are_long_lem base _ (map_long base _ _ _ _ (sym c.in_ok-room_refusal.ensures))).links)

pub returns : goal.returns
returns c = c.asked_refusal.ensures ∙ sym (judged base _ _ _ _ _ (sym c.in_ok-room_refusal.ensures))
