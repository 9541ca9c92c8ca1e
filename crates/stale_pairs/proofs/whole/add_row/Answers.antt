-- `stale_pairs::whole::add_row` meets its contract. The loop's invariant (Balls.antt): the words passed have the members of row k besides.
use Prim.Native.Nat.{◌+◌}
use native.Mathlib.Omega.{arith}
use Rattle.rows.proofs.Places.{place_lt}
use Rattle.stale_pairs.proofs.Balls.{add_start, add_word, add_end}
use Rattle.stale_pairs.proofs.whole.add_row.Goals as goal

pub loop-j-init : goal.loop-j-init
loop-j-init c = add_start _ _ _

pub bounds-balls-to : goal.bounds-balls-to
bounds-balls-to c = omega (arith, c.loop-j.invariant.size, place_lt c.args.words (c.args.k + 1) c.loop-j.j (omega arith) (omega arith))

pub bounds-balls-to-in-loop-j : goal.bounds-balls-to-in-loop-j
bounds-balls-to-in-loop-j c = omega (arith, c.loop-j.invariant.size, place_lt c.args.words (c.args.k + 1) c.loop-j.j (omega arith) (omega arith))

pub loop-j-preserved : goal.loop-j-preserved
loop-j-preserved c = search add_word

pub returns : goal.returns
returns c = add_end _ _ _ c.loop-j.invariant (omega arith)
