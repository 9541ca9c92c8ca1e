-- The next member of a row, as `next_member` answers it. Assumes nothing.
use Rattle.std.specs.Prelude.{◌≡◌, true, false, List, ℕ, ◌*◌, ◌≤◌, ◌<◌, Option, Some, None}
use Rattle.rows.specs.Rows.{row_bit}

-- The number i is the least member of the row at or past start.
pub record IsNext (W : ℕ) (row : List ℕ) (start i : ℕ) : Type 0 where
  pub after : start ≤ i
  pub inside : i < 64 * W
  pub here : row_bit W row i ≡ true
  pub first : (k : ℕ) → start ≤ k → k < i → row_bit W row k ≡ false

-- The answer is the least member at or past start, and None where there is none.
abbrev pub NextIs : ℕ → List ℕ → ℕ → Option ℕ → Type 0
NextIs W row start (Some i) = IsNext W row start i
NextIs W row start None = (k : ℕ) → start ≤ k → row_bit W row k ≡ false
