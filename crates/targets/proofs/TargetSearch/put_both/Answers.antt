-- `targets::TargetSearch::put_both` meets its contract. The loop's invariant (Partners.antt): the first w words are put.
use native.Mathlib.Omega.{arith}
use Rattle.targets.proofs.Partners.{put_none, put_more, both_word}
use Rattle.targets.proofs.TargetSearch.put_both.Goals as goal

pub loop-w-preserved : goal.loop-w-preserved
loop-w-preserved c =
    let small = (c.type_inv.targets c.loop-w.w).fits in
    put_more _ _ _ _ _ _ c.loop-w.invariant (omega arith) (omega arith) (both_word _ _ _ _ (omega arith) small)

pub loop-w-init : goal.loop-w-init
loop-w-init c = search put_none
