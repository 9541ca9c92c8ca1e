-- `stale_pairs::passing::bare_groups` meets its contract. The loop's invariant: the rows from `u` to `p` have no pair (BareRows.antt).
-- The measure is the rows left.
use Prim.Native.Nat.{◌-◌}
use Rattle.stale_pairs.specs.Stale.{Bare}
use Rattle.stale_pairs.proofs.passing.bare_groups.Given as goal

abbrev pub invariant-loop-p : goal.invariant-loop-p
invariant-loop-p l = Bare l.words l.rows l.pairs l.u l.p

abbrev pub decreases-loop-p : goal.decreases-loop-p
decreases-loop-p l = l.rows - l.p
