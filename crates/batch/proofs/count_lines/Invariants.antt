-- `batch::count_lines` meets its contract. The invariant: the lines are those counted and those that begin in what is left.
use Rattle.batch.proofs.Counting.{AreCounted}
use Rattle.batch.proofs.count_lines.Given as goal

abbrev pub invariant-loop-byte : goal.invariant-loop-byte
invariant-loop-byte l = AreCounted l.lines l.byte-index l.count l.inside
