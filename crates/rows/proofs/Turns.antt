-- A loop that stores a word of a row a turn: after j turns the buffer is `overwrite (encode_row j f) old`. Assumes nothing.
use mathlib.Core.Path.{◌≡◌, sym, ap, ap₂, ◌∙◌}
use mathlib.Core.Bool.{Bool, not, ◌&&◌}
use mathlib.Core.List.{List}
use Prim.Native.Nat.{ℕ, ◌+◌, ◌-◌, ◌*◌, ◌^◌, ◌<◌}
use native.Mathlib.Omega.{arith}
use lib.Bits.{bit_and}
use lib.ListN.{length, get_or, set}
use Rattle.lists.specs.Lists.{overwrite}
use Rattle.lists.proofs.Fills.{fill_none, fill_more, fill_rest}
use Rattle.words.specs.Bits.{bit, word_of}
use Rattle.words.proofs.Bits.{word_minus, word_of_ext}
use Rattle.rows.specs.Rows.{row_bit, encode_row}
use Rattle.rows.proofs.Written.{row_word}
use Rattle.rows.proofs.Wholes.{row_word_is}

-- the start, and any turn that stores the word of f
pub turn_none : (f : ℕ → Bool) (l : List ℕ) → l ≡ overwrite (encode_row 0 f) l
unfolding encode_row
turn_none f l = sym (fill_none (λ w. word_of 64 (λ b. f (64 * w + b))) l)

pub turn_more : (f : ℕ → Bool) (l₀ l : List ℕ) (j w : ℕ) → l ≡ overwrite (encode_row j f) l₀ → j < length l₀ → w ≡ word_of 64 (λ b. f (64 * j + b))
    → set l j w ≡ overwrite (encode_row (j + 1) f) l₀
unfolding encode_row
turn_more f l₀ l j w e h p = ap₂ (λ (s : List ℕ) (x : ℕ). set s j x) e p ∙ fill_more (λ w. word_of 64 (λ b. f (64 * w + b))) l₀ j h

-- the next word, which no turn has touched
pub turn_next : (f : ℕ → Bool) (l₀ l : List ℕ) (j : ℕ) → l ≡ overwrite (encode_row j f) l₀ → get_or l j 0 ≡ get_or l₀ j 0
unfolding encode_row
turn_next f l₀ l j e = ap (λ (s : List ℕ). get_or s j 0) e ∙ fill_rest (λ w. word_of 64 (λ b. f (64 * w + b))) l₀ j j 0 (omega arith)

-- ---- the two turns

pub turn_copy : (W : ℕ) (s l₀ l : List ℕ) (j : ℕ) → l ≡ overwrite (encode_row j (row_bit W s)) l₀ → j < length l₀ → j < W → get_or s j 0 < 2 ^ 64
    → set l j (get_or s j 0) ≡ overwrite (encode_row (j + 1) (row_bit W s)) l₀
turn_copy W s l₀ l j e h n m =
    turn_more (row_bit W s) l₀ l j (get_or s j 0) e h (row_word_is W s j n m)

pub turn_minus : (W : ℕ) (s l₀ l : List ℕ) (j : ℕ) → l ≡ overwrite (encode_row j (λ v. row_bit W l₀ v && not (row_bit W s v))) l₀
    → j < length l₀ → j < W → get_or l j 0 < 2 ^ 64 → get_or s j 0 < 2 ^ 64
    → set l j (bit_and (get_or l j 0) ((2 ^ 64 - 1) - get_or s j 0)) ≡ overwrite (encode_row (j + 1) (λ v. row_bit W l₀ v && not (row_bit W s v))) l₀
turn_minus W s l₀ l j e h n a b =
    turn_more f l₀ l j (bit_and (get_or l j 0) ((2 ^ 64 - 1) - get_or s j 0)) e h
    (word_minus 64 (get_or l j 0) (get_or s j 0) a b
    ∙ word_of_ext 64 (λ k. bit (get_or l j 0) k && not (bit (get_or s j 0) k)) (λ k. f (64 * j + k))
    (λ k m. ap₂ (λ (x y : Bool). x && not y) (ap (λ (w : ℕ). bit w k) (turn_next f l₀ l j e) ∙ sym (row_word W l₀ j k n m)) (sym (row_word W s j k n m))))
  where
    f : ℕ → Bool
    f v = row_bit W l₀ v && not (row_bit W s v)
