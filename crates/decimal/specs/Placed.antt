-- What a function promises that puts a text into lent memory: it stands from a place on, and the
-- place behind it. Assumes nothing.
use Rattle.std.specs.Prelude.{◌≡◌, List, ◌++◌, ℕ, ◌+◌, length, take, drop}

-- `text` is written over `old` from the place `at` on; that gives `new`, and `end` is the place
-- behind the text
pub record Placed (text : List ℕ) (at : ℕ) (old : List ℕ) (end : ℕ) (new : List ℕ) : Type 0 where
  pub behind : end ≡ at + length text
  pub is : new ≡ take at old ++ (text ++ drop (at + length text) old)
