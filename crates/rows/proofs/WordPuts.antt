-- One word of an encoded table stored: it is the same as encoding the changed pairs. For any number of words per row. Assumes nothing.
use mathlib.Core.Path.{◌≡◌, sym, ap₂, ◌∙◌}
use mathlib.Core.Logic.{◌≢◌}
use mathlib.Core.Bool.{Bool}
use mathlib.Core.List.{List}
use Prim.Native.Nat.{ℕ, ◌+◌, ◌*◌, ◌/◌, ◌%◌, ◌<◌}
use native.Mathlib.Omega.{arith}
use lib.ListN.{set}
use Rattle.lists.specs.Lists.{overwrite}
use Rattle.lists.proofs.Buffers.{fill_put}
use Rattle.words.specs.Bits.{word_of}
use Rattle.words.proofs.Bits.{word_of_ext}
use Rattle.rows.specs.Rows.{encode_table}
use Rattle.rows.proofs.Places.{place_lt, place_row, place_word, place_is, row_lt, word_lt}

-- word j of row u becomes that of g, which has every other bit of f
pub put_word_lem : (W u j x : ℕ) (f g : ℕ → ℕ → Bool) (t : List ℕ) → u < 64 * W → j < W → x ≡ word_of 64 (λ b. g u (64 * j + b))
    → ((p q : ℕ) → p < 64 * W → q < 64 * W → (p ≡ u → q / 64 ≡ j → ⊥) → f p q ≡ g p q)
    → set (overwrite (encode_table W f) t) (W * u + j) x ≡ overwrite (encode_table W g) t
unfolding encode_table
put_word_lem W u j x f g t l h e same =
    fill_put (λ k. word_of 64 (λ b. f (k / W) (64 * (k % W) + b))) (λ k. word_of 64 (λ b. g (k / W) (64 * (k % W) + b))) (W * (64 * W)) t (W * u + j) x
    (place_lt W u j l h)
    (e ∙ sym (ap₂ (λ (p k : ℕ). word_of 64 (λ b. g p (64 * k + b))) (place_row W u j h) (place_word W u j h)))
    rest
  where
    rest : (k : ℕ) → k < W * (64 * W) → k ≢ W * u + j → word_of 64 (λ b. f (k / W) (64 * (k % W) + b)) ≡ word_of 64 (λ b. g (k / W) (64 * (k % W) + b))
    rest k m ne =
        word_of_ext 64 (λ b. f (k / W) (64 * (k % W) + b)) (λ b. g (k / W) (64 * (k % W) + b))
        (λ b n. (let w : k % W < W = word_lt W k m in
        same (k / W) (64 * (k % W) + b) (row_lt W k m) (omega arith)
        (λ p q. (let c : k % W ≡ j = omega arith in ne (sym (place_is W k m) ∙ ap₂ (λ (a b : ℕ). W * a + b) p c)))))
