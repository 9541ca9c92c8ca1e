-- `targets::TargetHops::sum_above` meets its contract. The loop's invariant (Rows.antt): the targets above u in the first w words.
use native.Mathlib.Omega.{arith}
use Rattle.targets.proofs.Rows.{summed_first, summed_more, summed_sum, summed_pairs}
use Rattle.targets.proofs.TargetHops.sum_above.Goals as goal

pub loop-w-init : goal.loop-w-init
loop-w-init c =
    summed_first _ _ _ _ c.requires c.above-x.ensures c.sum_of_word-sum.ensures.is c.sum_of_word-sum.ensures.few c.count-pairs.ensures

pub returns : goal.returns
returns c =
    (summed_sum _ _ _ _ c.loop-w.invariant (omega arith), summed_pairs _ _ _ _ c.loop-w.invariant (omega arith))

pub loop-w-preserved : goal.loop-w-preserved
loop-w-preserved c = search summed_more
