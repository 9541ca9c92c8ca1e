-- `stale_pairs::whole::put_rings` meets its contract. The loop's invariant (Balls.antt): the codes passed stand in the row behind their hop's.
use Rattle.stale_pairs.proofs.Balls.{Ringing}
use Rattle.stale_pairs.proofs.whole.put_rings.Given as goal

abbrev pub invariant-loop-v : goal.invariant-loop-v
invariant-loop-v l = Ringing l.words l.hops l.most l.initial.balls l.balls l.v
