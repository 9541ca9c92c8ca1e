-- `stale_pairs::whole::greatest_way` meets its contract. The loop's invariant (Wholes.antt): no member is farther than d.
use Prim.Native.Nat.{ℕ}
use Rattle.stale_pairs.specs.Balls.{TakesWord}
use Rattle.stale_pairs.proofs.Wholes.{Within}
use Rattle.stale_pairs.proofs.whole.greatest_way.Given as goal

abbrev pub invariant-loop-d : goal.invariant-loop-d
invariant-loop-d g l = (way : ℕ → ℕ → ℕ) → TakesWord l.u l.j l.chain (goal.F-post g l.take) way → Within way l.chain l.u l.j l.x l.d

abbrev pub decreases-loop-d : goal.decreases-loop-d
decreases-loop-d g l = l.d
