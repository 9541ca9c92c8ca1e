-- The members of a word above one of them: `&` with 1 at the places above it alone keeps those bits. Assumes nothing.
use mathlib.Core.Path.{◌≡◌, sym, ap, ◌∙◌}
use mathlib.Core.Logic.{◌⊎◌, inl, inr}
use mathlib.Core.Bool.{Bool, not, ◌&&◌}
use Prim.Native.Nat.{ℕ, suc, ◌+◌, ◌-◌, ◌*◌, ◌%◌, ◌^◌, ◌≤◌, ◌<◌}
use native.Mathlib.Nat.{pow-suc, mul-suc, add-mul, mul_comm}
use native.Mathlib.Omega.{arith}
use lib.Arith.{digits_mod}
use lib.Bits.{bit_and}
use lib.Dec.{ltb}
use lib.Pow.{pow_mono, pow_pos}
use borrow.Author.Tests.{lt-ltb, le-ltb}
use Rattle.std.proofs.lemmas.Bool.{cases_lt}
use Rattle.words.specs.Bits.{bit, word_of}
use Rattle.words.proofs.Bits.{bit_of_zero, bit_past, bit_not, word_minus, word_of_ext}

-- a number of all ones but the last, times a number q + 1 that is small beside it
times_mod : (m q : ℕ) → 2 * q + 2 ≤ m → ((m - 1) - 1) * suc q % m ≡ (m - 1) - (2 * suc q - 1)
times_mod m q l =
    let a : ((m - 1) - 1) * suc q ≡ ((m - 1) - 1) * q + ((m - 1) - 1) = mul-suc ((m - 1) - 1) q in
    let b : m * q ≡ (((m - 1) - 1) + 2) * q = ap (λ (k : ℕ). k * q) (omega arith) in
    let e : ((m - 1) - 1) * suc q ≡ q * m + (m - 2 * suc q) = omega (arith, a, b, add-mul ((m - 1) - 1) 2 q, mul_comm q m) in
    ap (λ (k : ℕ). k % m) e ∙ digits_mod q (omega arith) ∙ omega arith

module _ (b : ℕ) where
  abbrev low : ℕ
  low = 2 ^ suc b - 1

  low_bit : (k : ℕ) → not (bit low k) ≡ ltb b k
  low_bit k = go (cases_lt b k)
    where
      go : (b < k) ⊎ (k ≤ b) → not (bit low k) ≡ ltb b k
      go (inl l) = ap not (bit_past (suc b) low k (omega (arith, pow_pos (suc b))) l) ∙ sym (lt-ltb b k l)
      go (inr l) =
          ap not (ap (λ (m : ℕ). bit m k) (omega arith) ∙ bit_not (suc b) 0 k (pow_pos (suc b)) (omega arith) ∙ ap not (bit_of_zero k))
          ∙ sym (le-ltb b k l)

  module _ (l : b < 64) where
    fits : 2 ^ suc b ≤ 2 ^ 64
    fits = pow_mono l

    -- `!1 << b`
    mask_is : (((2 ^ 64 - 1) - 1) * 2 ^ b) % 2 ^ 64 ≡ (2 ^ 64 - 1) - low
    mask_is =
        let p : suc (2 ^ b - 1) ≡ 2 ^ b = omega (arith, pow_pos b) in
        ap (λ (k : ℕ). ((2 ^ 64 - 1) - 1) * k % 2 ^ 64) (sym p)
        ∙ times_mod (2 ^ 64) (2 ^ b - 1) (omega (arith, pow-suc 2 b, fits, pow_pos b))
        ∙ ap (λ (k : ℕ). (2 ^ 64 - 1) - (k - 1)) (omega (arith, p, pow-suc 2 b))

    pub word_above : (a : ℕ) → a < 2 ^ 64 → bit_and a ((((2 ^ 64 - 1) - 1) * 2 ^ b) % 2 ^ 64) ≡ word_of 64 (λ k. bit a k && ltb b k)
    word_above a h =
        ap (bit_and a) mask_is
        ∙ word_minus 64 a low h (omega (arith, fits))
        ∙ word_of_ext 64 (λ k. bit a k && not (bit low k)) (λ k. bit a k && ltb b k) (λ k m. ap (λ (x : Bool). bit a k && x) (low_bit k))
