-- `stale_pairs::whole::put_balls` meets its contract. The loop's invariant (Balls.antt): the rows passed are balls, the others rings.
use native.Mathlib.Omega.{arith}
use Rattle.stale_pairs.proofs.Balls.{ball_start, ball_more}
use Rattle.stale_pairs.proofs.whole.put_balls.Goals as goal

pub loop-k-init : goal.loop-k-init
loop-k-init c = ball_start _ _ _ _ c.put_rings.ensures (omega arith)

pub loop-k-preserved : goal.loop-k-preserved
loop-k-preserved c = search ball_more
