-- `bounds::relax` meets its contract. The loop's invariant (Relaxing.antt): the codes below v are relaxed, the others as they were.
use Rattle.bounds.proofs.Relaxing.{relax_none, topped_none, relax_more, top_more}
use native.Mathlib.Omega.{arith}
use Rattle.bounds.proofs.relax.Goals as goal

pub loop-v-preserved : goal.loop-v-preserved
loop-v-preserved c =
    let v = c.loop-v.invariant in (
      relax_more _ _ _ _ _ _ _ _ _ _ _ _ v.0 _ _ _ c.gap-below.ensures.0 c.skip_taken.ensures c.rank_left-left.ensures
          (omega arith) (omega arith) (omega arith),
      top_more _ _ _ _ _ _ _ _ _ _ _ _ v.0 _ _ _ c.gap-below.ensures.0 c.skip_taken.ensures c.rank_left-left.ensures
          _ _ _ v.1 c.bound_left.ensures (omega (arith, c.max-top.ensures)) (omega (arith, c.max-top.ensures)),
    )

pub loop-v-init : goal.loop-v-init
loop-v-init c = search (relax_none, topped_none)
