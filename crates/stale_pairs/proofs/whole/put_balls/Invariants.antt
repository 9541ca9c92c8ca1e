-- `stale_pairs::whole::put_balls` meets its contract. The loop's invariant (Balls.antt): the rows passed are balls, the others rings.
use Rattle.stale_pairs.proofs.Balls.{Balling}
use Rattle.stale_pairs.proofs.whole.put_balls.Given as goal

abbrev pub invariant-loop-k : goal.invariant-loop-k
invariant-loop-k l = Balling l.words l.most l.hops l.fn.balls l.balls l.k
