-- `stale_pairs::whole::put_rings` meets its contract. The loop's invariant (Balls.antt): the codes passed stand in the row behind their hop's.
use native.Mathlib.Omega.{arith}
use Rattle.stale_pairs.proofs.Balls.{row_within, ring_start, ring_fits, ring_put, ring_skip}
use Rattle.stale_pairs.proofs.whole.put_rings.Goals as goal
use Rattle.stale_pairs.proofs.whole.put_rings.Goals.{then-h-most, else-h-most}

pub loop-v-init : goal.loop-v-init
loop-v-init c = ring_start _ _ _ _ c.requires.4

pub row_set-requires : goal.row_set-requires
row_set-requires c =
    let long = c.loop-v.auto.balls in
    record { row = row_within c.args.words _ c.args.most _ (omega arith) (omega arith); below = omega arith; column = omega arith }

pub loop-v-preserved : goal.loop-v-preserved
loop-v-preserved c = elim c.if-h-most.branch [
  | then-h-most w ↦ rw w.balls-is (search (ring_put, ring_fits, c.loop-v.invariant))
  | else-h-most w ↦ rw w.balls-is (search (ring_skip, c.loop-v.invariant))
]
