-- `bounds::relax` meets its contract. The loop's invariant (Relaxing.antt): the codes below v are relaxed, the others as they were, and no code
-- below v that remains has a bound above top.
use Rattle.bounds.proofs.Relaxing.{Relaxing, Topped}
use Rattle.bounds.proofs.relax.Given as goal

abbrev pub invariant-loop-v : goal.invariant-loop-v
invariant-loop-v l =
    Relaxing l.words l.hops l.r l.e l.c l.initial.bounds l.initial.skips l.initial.ranks l.bounds l.skips l.ranks l.v
    × Topped l.words l.hops l.r l.e l.c l.initial.bounds l.initial.skips l.initial.ranks l.top l.v
