-- The loop that leaves the members of one row without those of another. Assumes nothing.
use mathlib.Core.Path.{◌≡◌, refl, sym, ap, ap₂, ◌∙◌}
use mathlib.Core.Bool.{Bool, not, ◌&&◌}
use mathlib.Core.List.{List}
use Prim.Native.Nat.{ℕ, ◌+◌, ◌-◌, ◌*◌, ◌^◌, ◌≤◌, ◌<◌}
use native.Mathlib.Omega.{arith}
use lib.Bits.{bit_and}
use lib.ListN.{length, get_or, set, length-set}
use Rattle.lists.specs.Lists.{overwrite}
use Rattle.words.specs.Bits.{bit}
use Rattle.words.proofs.Bits.{word_minus, word_of_ext}
use Rattle.rows.specs.Rows.{row_bit, encode_row}
use Rattle.rows.proofs.Written.{row_word}
use Rattle.rows.proofs.Turns.{turn_none, turn_more}

module _ (W : ℕ) (members first left₀ : List ℕ) where
  abbrev others : ℕ → Bool
  others v = row_bit W members v && not (row_bit W first v)

  -- the first j words are left so
  pub record Leaving (left : List ℕ) (j : ℕ) : Type 0 where
    pub within : j ≤ W
    pub same : length left ≡ length left₀
    pub left_is : left ≡ overwrite (encode_row j others) left₀

  pub leave_start : Leaving left₀ 0
  leave_start = record { within = omega arith; same = refl; left_is = turn_none others left₀ }

  pub leave_next : (left : List ℕ) (j : ℕ) → Leaving left j → j < W → j < length left₀ → get_or members j 0 < 2 ^ 64 → get_or first j 0 < 2 ^ 64
      → Leaving (set left j (bit_and (get_or members j 0) ((2 ^ 64 - 1) - get_or first j 0))) (j + 1)
  leave_next left j I h l a b = record {
    within = omega arith;
    same = length-set left j _ ∙ I.same;
    left_is =
        turn_more others left₀ left j (bit_and (get_or members j 0) ((2 ^ 64 - 1) - get_or first j 0)) I.left_is l
        (word_minus 64 (get_or members j 0) (get_or first j 0) a b
        ∙ word_of_ext 64 (λ c. bit (get_or members j 0) c && not (bit (get_or first j 0) c)) (λ c. others (64 * j + c))
        (λ c m. ap₂ (λ (x y : Bool). x && not y) (sym (row_word W members j c h m)) (sym (row_word W first j c h m))));
  }

  pub leave_end : (left : List ℕ) (j : ℕ) → Leaving left j → W ≤ j → left ≡ overwrite (encode_row W others) left₀
  leave_end left j I h =
      let e : j ≡ W = omega (arith, I.within) in
      I.left_is ∙ ap (λ (n : ℕ). overwrite (encode_row n others) left₀) e

-- the start and the end of the walk
pub ruleset leaving = (leave_start, leave_end)
