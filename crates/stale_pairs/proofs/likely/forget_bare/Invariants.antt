-- `stale_pairs::likely::forget_bare` promises nothing but that it ends and stays in its bounds. The measure is the rows left.
use Prim.Native.Nat.{◌-◌, ◌≤◌}
use Rattle.stale_pairs.proofs.likely.forget_bare.Given as goal

abbrev pub invariant-loop-u : goal.invariant-loop-u
invariant-loop-u l = l.u ≤ l.rows

abbrev pub decreases-loop-u : goal.decreases-loop-u
decreases-loop-u l = l.rows - l.u
