-- The least set bit of a word, and the word without it. Assumes nothing.
use Rattle.std.specs.Prelude.{◌≡◌, true, false, not, ◌&&◌, ℕ, ◌<◌, eqb}
use Rattle.words.specs.Bits.{bit, word_of}

-- Bit b is the least set bit of the word w.
pub record IsLeast (w b : ℕ) : Type 0 where
  pub below : b < 64
  pub here : bit w b ≡ true
  pub first : (k : ℕ) → k < b → bit w k ≡ false

-- The word r is w without its least set bit, and so is less.
pub record WithoutLeast (w r : ℕ) : Type 0 where
  pub less : r < w
  pub rest : (b : ℕ) → IsLeast w b → r ≡ word_of 64 (λ k. bit w k && not (eqb k b))
