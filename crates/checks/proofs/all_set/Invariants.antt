-- `checks::all_set` meets its contract: rows, words and set bits that are done have passed, so the walk ends with the whole table passed, or at a bit
-- that refutes the test. The measure is what is left of the word.
use mathlib.Core.Bool.{Bool}
use Prim.Native.Nat.{ℕ, ◌*◌}
use Rattle.checks.proofs.Scans.{Computes, BitsDone, WordsDone, RowsDone}
use Rattle.checks.proofs.all_set.Given as goal

abbrev pub invariant-loop-x : goal.invariant-loop-x
invariant-loop-x g l = (test : ℕ → ℕ → Bool) → Computes (64 * l.words) (goal.F-post g l.passes) test → BitsDone test l.u l.w l.initial.x l.fine l.x

abbrev pub decreases-loop-x : goal.decreases-loop-x
decreases-loop-x g l = l.x

abbrev pub invariant-loop-w : goal.invariant-loop-w
invariant-loop-w g l = (test : ℕ → ℕ → Bool) → Computes (64 * l.words) (goal.F-post g l.passes) test → WordsDone l.words l.table test l.u l.fine l.w

abbrev pub invariant-rows : goal.invariant-rows
invariant-rows g l = (test : ℕ → ℕ → Bool) → Computes (64 * l.words) (goal.F-post g l.passes) test → RowsDone l.words l.table test l.fine l.u
