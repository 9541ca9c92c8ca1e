-- Where row u of a table and its words stand: word W * u + j is word j of row u. Assumes nothing.
use mathlib.Core.Path.{◌≡◌, sym, ap, ◌∙◌, subst}
use Prim.Native.Nat.{ℕ, zero, suc, ◌+◌, ◌*◌, ◌/◌, ◌%◌, ◌≤◌, ◌<◌}
use native.Mathlib.Nat.{mul-add-div, mul-add-mod_self_left, div-eq_of_lt, mod-eq_of_lt, add-zero, mod-lt, div-lt_iff_lt-mul, div-add-mod, mul_comm, mul-le-mul_left, zero-mul}
use native.Mathlib.Omega.{arith}

-- a row of the table, and a word of that row, are inside the table
pub row_fits : (W u n : ℕ) → u < 64 * W → W * (64 * W) ≤ n → W * u + W ≤ n
row_fits W u n l h =
    let m : W * suc u ≤ W * (64 * W) = mul-le-mul_left W l in
    omega arith

pub place_lt : (W u j : ℕ) → u < 64 * W → j < W → W * u + j < W * (64 * W)
place_lt W u j l h =
    let m : W * suc u ≤ W * (64 * W) = mul-le-mul_left W l in
    omega arith

-- the row and the word of a place
pub place_row : (W u j : ℕ) → j < W → (W * u + j) / W ≡ u
place_row W u j h = mul-add-div (omega arith) u j ∙ ap (λ (k : ℕ). u + k) (div-eq_of_lt h) ∙ add-zero u

pub place_word : (W u j : ℕ) → j < W → (W * u + j) % W ≡ j
place_word W u j h = mul-add-mod_self_left W u j ∙ mod-eq_of_lt h

pub place_unique : (W u j p k : ℕ) → j < W → k < W → W * u + j ≡ W * p + k → (u ≡ p) × (j ≡ k)
place_unique W u j p k h l e = (
  sym (place_row W u j h) ∙ ap (λ (i : ℕ). i / W) e ∙ place_row W p k l,
  sym (place_word W u j h) ∙ ap (λ (i : ℕ). i % W) e ∙ place_word W p k l,
)

-- every place of the table is a word of a row
module _ (W i : ℕ) (h : i < W * (64 * W)) where
  some : 0 < W
  some = go W h
    where
      go : (n : ℕ) → i < n * (64 * W) → 0 < n
      go zero l = absurd (omega (arith, zero-mul (64 * W)))
      go (suc n) l = omega arith

  pub row_lt : i / W < 64 * W
  row_lt = (div-lt_iff_lt-mul {k = W} some).1 (subst (λ (k : ℕ). i < k) (mul_comm W (64 * W)) h)

  pub word_lt : i % W < W
  word_lt = mod-lt i some

  pub place_is : W * (i / W) + i % W ≡ i
  place_is = div-add-mod i W
