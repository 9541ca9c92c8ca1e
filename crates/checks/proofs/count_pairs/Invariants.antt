-- `checks::count_pairs` meets its contract: after u rows the sum is the count of their ones.
use Rattle.checks.proofs.Sums.{RowsCounted}
use Rattle.checks.proofs.count_pairs.Given as goal

abbrev pub invariant-loop-u : goal.invariant-loop-u
invariant-loop-u l = RowsCounted l.words l.pairs l.sum l.u
