-- Sets of numbers below 64 W as rows of W words, and tables of 64 W such rows (rule 1.2). A map has W = 4; every definition takes W.
-- Row u of a table is words W * u to W * u + W - 1.
-- Assumes nothing.
use Rattle.std.specs.Prelude.{Bool, cond, ◌&&◌, List, ℕ, ◌+◌, ◌*◌, ◌/◌, ◌%◌, ◌≤◌, ◌<◌, eqb, ltb, length, get_or, set}
use Rattle.lists.specs.Lists.{range, mapl}
use Rattle.words.specs.Bits.{bit, word_of}

-- ---- reading

-- Number v is a member of a row of W words. Past 64 W there is none, whatever a longer buffer holds.
unfoldable pub row_bit : ℕ → List ℕ → ℕ → Bool
row_bit W row v = ltb v (64 * W) && bit (get_or row (v / 64) 0) (v % 64)

-- Number v is a member of row u of a table of 64 W rows. Beyond there is none, whatever a longer buffer holds.
unfoldable pub table_bit : ℕ → List ℕ → ℕ → ℕ → Bool
table_bit W t u v = ltb u (64 * W) && ltb v (64 * W) && bit (get_or t (W * u + v / 64) 0) (v % 64)

-- ---- writing

-- The row of W words whose bit v is f v. Over a longer buffer it is `overwrite (encode_row W f) old`.
unfoldable pub encode_row : ℕ → (ℕ → Bool) → List ℕ
encode_row W f = mapl (λ w. word_of 64 (λ b. f (64 * w + b))) (range W)

-- The table of 64 W rows whose bit v of row u is f u v.
unfoldable pub encode_table : ℕ → (ℕ → ℕ → Bool) → List ℕ
encode_table W f = mapl (λ i. word_of 64 (λ b. f (i / W) (64 * (i % W) + b))) (range (W * (64 * W)))

-- The table t with bit v of row u made x, and every other bit and word as it was.
unfoldable pub put_bit : ℕ → ℕ → ℕ → Bool → List ℕ → List ℕ
put_bit W u v x t = let i = W * u + v / 64 in set t i (word_of 64 (λ b. cond (eqb b (v % 64)) x (bit (get_or t i 0) b)))

-- The buffer t has row u, and u and v are numbers below 64 W.
pub record InTable (W : ℕ) (t : List ℕ) (u v : ℕ) : Type 0 where
  pub row : W * u + W ≤ length t
  pub below : u < 64 * W
  pub column : v < 64 * W

-- the members that x holds as word w of a row
unfoldable pub in_word : ℕ → ℕ → ℕ → Bool
in_word w x u = eqb (u / 64) w && bit x (u % 64)
