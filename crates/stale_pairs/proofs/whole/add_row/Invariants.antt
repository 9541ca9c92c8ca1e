-- `stale_pairs::whole::add_row` meets its contract. The loop's invariant (Balls.antt): the words passed have the members of row k besides.
use Prim.Native.Nat.{◌*◌}
use Rattle.stale_pairs.proofs.Balls.{Adding}
use Rattle.stale_pairs.proofs.whole.add_row.Given as goal

abbrev pub invariant-loop-j : goal.invariant-loop-j
invariant-loop-j l = Adding l.words l.k l.initial.balls l.balls (64 * l.j)
