-- `rows::next_member` meets its contract: no number from `from` on, below the word that is next, is a member.
use mathlib.Core.Path.{◌≡◌}
use mathlib.Core.Bool.{false}
use Prim.Native.Nat.{ℕ, ◌*◌, ◌≤◌, ◌<◌}
use Rattle.rows.specs.Rows.{row_bit}
use Rattle.rows.proofs.next_member.Given as goal

abbrev pub invariant-loop-j : goal.invariant-loop-j
invariant-loop-j l = (l.from ≤ 64 * l.j) × (l.j ≤ l.words) × ((k : ℕ) → l.from ≤ k → k < 64 * l.j → row_bit l.words l.row k ≡ false)
