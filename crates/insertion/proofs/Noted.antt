-- A search's own pairs noted in the row that is thought to have those with one: word by word, then its own code. Assumes nothing.
use mathlib.Core.Path.{◌≡◌, refl, sym, ap, ap₂, ◌∙◌}
use mathlib.Core.Bool.{Bool, true, false, cond, ◌&&◌, ◌||◌}
use mathlib.Core.List.{List}
use Prim.Native.Nat.{ℕ, ◌+◌, ◌*◌, ◌^◌, ◌≤◌, ◌<◌}
use native.Mathlib.Omega.{arith}
use lib.Bits.{bit_or}
use lib.Dec.{eqb, ltb}
use lib.ListN.{length, get_or, set, length-set}
use Rattle.lists.specs.Lists.{overwrite}
use Rattle.words.specs.Bits.{bit, word_of}
use Rattle.words.proofs.Bits.{bit-word_of, word_of_lt, word_of_ext, word_or}
use Rattle.rows.specs.Rows.{row_bit, encode_row, put_bit}
use Rattle.rows.proofs.Written.{row_word}
use Rattle.rows.proofs.Wholes.{encode_row_ext}
use Rattle.rows.proofs.Puts.{put_row_lem}
use Rattle.rows.proofs.Turns.{turn_none, turn_more, turn_next}

module _ (W a : ℕ) (partners before : List ℕ) where
  -- in the row before, or a partner below a
  abbrev below : ℕ → Bool
  below v = row_bit W before v || (row_bit W partners v && ltb v a)

  -- the first j words have the partners below a too
  pub record Noting (after : List ℕ) (j : ℕ) : Type 0 where
    pub within : j ≤ W
    pub size : length after ≡ length before
    pub is : after ≡ overwrite (encode_row j below) before

  pub noting_start : Noting before 0
  noting_start = record { within = omega arith; size = refl; is = turn_none _ before }

  pub noting_next : (after : List ℕ) (j x : ℕ) → Noting after j → j < length before → j < W → get_or after j 0 < 2 ^ 64
      → x ≡ word_of 64 (λ b. bit (get_or partners j 0) b && ltb (64 * j + b) a)
      → Noting (set after j (bit_or (get_or after j 0) x)) (j + 1)
  noting_next after j x i h l fits e = record {
    within = omega arith;
    size = length-set after j _ ∙ i.size;
    is = turn_more below before after j _ i.is h word;
  }
    where
      part : ℕ → Bool
      part b = bit (get_or partners j 0) b && ltb (64 * j + b) a

      word : bit_or (get_or after j 0) x ≡ word_of 64 (λ b. below (64 * j + b))
      word =
          ap (bit_or (get_or after j 0)) e
          ∙ word_or 64 (get_or after j 0) (word_of 64 part) fits (word_of_lt 64 part)
          ∙ word_of_ext 64 (λ k. bit (get_or after j 0) k || bit (word_of 64 part) k) (λ b. below (64 * j + b))
          (λ k m. ap₂ (λ (y z : Bool). y || z)
          (ap (λ (w : ℕ). bit w k) (turn_next below before after j i.is) ∙ sym (row_word W before j k l m))
          (bit-word_of 64 part k m ∙ ap (λ (y : Bool). y && ltb (64 * j + k) a) (sym (row_word W partners j k l m))))

  -- then a itself
  pub noted : (after : List ℕ) (j : ℕ) → Noting after j → W ≤ j → a < 64 * W
      → put_bit W 0 a true after ≡ overwrite (encode_row W (λ v. eqb v a || below v)) before
  noted after j i l h =
      ap (put_bit W 0 a true) (i.is ∙ ap (λ (n : ℕ). overwrite (encode_row n below) before) (omega (arith, i.within)))
      ∙ put_row_lem W a true below before h
      ∙ ap (λ (r : List ℕ). overwrite r before) (encode_row_ext W (λ v. cond (eqb v a) true (below v)) (λ v. eqb v a || below v) (λ v m. either (eqb v a) (below v)))
    where
      either : (x y : Bool) → cond x true y ≡ (x || y)
      either true y = refl
      either false y = refl
