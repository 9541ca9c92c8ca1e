-- `summary::summarise` meets its contract: refused, nothing is changed; without a refusal the totals are the network's, and there is a pair to divide by.
use Prim.Native.Nat.{◌<◌}
use native.Mathlib.Omega.{arith}
use Rattle.std.proofs.lemmas.Result.{err_from_is_err_and}
use Rattle.map.specs.Memory.{base}
use Rattle.map.proofs.Theorems.{base_shape}
use Rattle.layers.proofs.Ends.{yards_hold_ends}
use Rattle.summary.proofs.Leaving.{are_near}
use Rattle.summary.proofs.Accepts.{granted, some_pair, summary_refused, summary_accepted}
use Rattle.summary.proofs.summarise.Goals as goal
use Rattle.summary.proofs.summarise.Goals.{After-total_over-t}

pub returns-in_err-summary_refusal-clause-left : goal.returns-in_err-summary_refusal-clause-left
returns-in_err-summary_refusal-clause-left c =
    let p = err_from_is_err_and c.from_residual.result c.from_residual.ensures.1 in
    rw (p.1, p.2) (summary_refused base _ _ _ _ c.in_err-summary_refusal.ensures)

pub total_over-t-requires : goal.total_over-t-requires
total_over-t-requires c =
    let g = granted base _ _ _ _ _ _ base_shape c.in_ok-summary_refusal.ensures in (
      g.long,
      g.room,
      are_near 4 _ _ _ c.keep_delivering.ensures base_shape.most g.net,
      yards_hold_ends 4 _ _ (omega arith) _ g.net.sound,
    )

-- there is a pair
paired : (c : After-total_over-t) → 0 < c.total_over-t.result.pairs
paired c =
    some_pair base _ _ _ _ base_shape c.in_ok-summary_refusal.ensures c.keep_delivering.ensures c.total_over-t.ensures.left

pub nonzero_div-result : goal.nonzero_div-result
nonzero_div-result c =
    omega (arith, paired (goal.at.nonzero_div-result c).After-total_over-t)

pub nonzero_rem-result : goal.nonzero_rem-result
nonzero_rem-result c =
    omega (arith, paired (goal.at.nonzero_rem-result c).After-total_over-t)

pub returns-clause-left : goal.returns-clause-left
returns-clause-left c =
    summary_accepted base _ _ _ _ base_shape c.in_ok-summary_refusal.ensures c.keep_delivering.ensures c.total_over-t.ensures.left
