-- `stale_pairs::passing::next_row` meets its contract. The loop's invariant: the rows from `u` to `p` have no pair (BareRows.antt).
use Rattle.stale_pairs.proofs.BareRows.{row_bare}
use Rattle.stale_pairs.proofs.passing.next_row.Goals as goal

pub loop-p-preserved : goal.loop-p-preserved
loop-p-preserved c = search row_bare
