-- `stale_pairs::passing::bare_groups` meets its contract. The loop's invariant: the rows from `u` to `p` have no pair (BareRows.antt).
-- The measure is the rows left.
use Prim.Native.Nat.{◌+◌}
use native.Mathlib.Omega.{arith}
use Rattle.stale_pairs.specs.Stale.{Bare}
use Rattle.stale_pairs.proofs.BareRows.{group_bare}
use Rattle.stale_pairs.proofs.passing.bare_groups.Goals as goal
use Rattle.stale_pairs.proofs.passing.bare_groups.Goals.{Else-not-all_zero}

-- the first group of a turn has no pair
one-group : (c : Else-not-all_zero) → let a = c.args in Bare a.words a.rows a.pairs.now a.u (c.loop-p.p + 8)
one-group c = group_bare _ _ _ _ c.loop-p.invariant c.requires.2 (omega arith) c.requires.1 c.all_zero.ensures c.if-not-all_zero.false

pub returns-then-not-all_zero-2 : goal.returns-then-not-all_zero-2
returns-then-not-all_zero-2 c =
    one-group (goal.at.returns-then-not-all_zero-2 c).Else-not-all_zero

pub loop-p-preserved : goal.loop-p-preserved
loop-p-preserved c =
    group_bare _ _ _ _ (one-group (goal.at.loop-p-preserved c).Else-not-all_zero) c.requires.2 (omega arith) c.requires.1
    c.all_zero-in-loop-p.ensures c.if-not-all_zero-2.false
