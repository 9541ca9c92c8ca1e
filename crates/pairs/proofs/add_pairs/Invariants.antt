-- `pairs::add_pairs` meets its contract. The loop's invariant (Adding.antt): the pairs of r with the members in the words passed are in the table,
-- and the sum counts them all.
use Prim.Native.Nat.{◌*◌}
use Rattle.pairs.proofs.Adding.{Adding}
use Rattle.pairs.proofs.add_pairs.Given as goal

abbrev pub invariant-loop-j : goal.invariant-loop-j
invariant-loop-j l = Adding l.words l.last l.r l.initial.pairs l.pairs l.sum (64 * l.j)
