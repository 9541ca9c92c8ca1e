-- `stale_pairs::likely::note_rows` meets its contract. The loop's invariant (LikelyRows.antt): of
-- the rows passed those with a pair are noted. The measure is the rows left.
use Prim.Native.Nat.{◌-◌, ◌≤◌}
use Rattle.stale_pairs.specs.Stale.{Covers}
use Rattle.stale_pairs.proofs.likely.note_rows.Given as goal

abbrev pub invariant-loop-u : goal.invariant-loop-u
invariant-loop-u l = (l.u ≤ l.rows) × Covers l.words l.u l.pairs l.likely

abbrev pub decreases-loop-u : goal.decreases-loop-u
decreases-loop-u l = l.rows - l.u
