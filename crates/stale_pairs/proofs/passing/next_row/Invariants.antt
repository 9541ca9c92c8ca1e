-- `stale_pairs::passing::next_row` meets its contract. The loop's invariant: the rows from `u` to `p` have no pair (BareRows.antt).
use Rattle.stale_pairs.specs.Stale.{Bare}
use Rattle.stale_pairs.proofs.passing.next_row.Given as goal

abbrev pub invariant-loop-p : goal.invariant-loop-p
invariant-loop-p l = Bare l.words l.rows l.pairs l.u l.p
