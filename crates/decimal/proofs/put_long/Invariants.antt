-- `decimal::put_long` meets its contract: from the last digit to the first, two a turn, each pair before those that stand. The measure is what is left of the
-- number.
use Rattle.decimal.proofs.Numbers.{Filling}
use Rattle.decimal.proofs.put_long.Given as goal

abbrev pub invariant-loop-m : goal.invariant-loop-m
invariant-loop-m l = Filling l.n l.at l.end l.initial.line l.line l.i l.m

abbrev pub decreases-loop-m : goal.decreases-loop-m
decreases-loop-m l = l.m
