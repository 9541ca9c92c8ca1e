-- `map::keep_delivering` meets its contract: after j turns the first j words are without their yards.
use Rattle.map.proofs.Yards.{Delivering}
use Rattle.map.proofs.keep_delivering.Given as goal

abbrev pub invariant-loop-j : goal.invariant-loop-j
invariant-loop-j l = Delivering l.words l.yards l.initial.members l.members l.j
