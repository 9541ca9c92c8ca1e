-- A word has one least set bit, which `trailing_zeros` names, and `w & (w - 1)` clears it and nothing else. Assumes nothing.
use mathlib.Core.Path.{◌≡◌, refl, sym, ap, ◌∙◌, subst}
use mathlib.Core.Logic.{◌≢◌, ◌⊎◌, inl, inr}
use mathlib.Core.Bool.{Bool, true, false, not, ◌&&◌, and-true, and_self}
use Prim.Native.Nat.{ℕ, zero, suc, ◌-◌, ◌/◌, ◌%◌, ◌≤◌, ◌<◌, ◌^◌}
use native.Mathlib.Nat.{le_antisymm, le_of_suc-le-suc, not-suc-le-zero, lt_of_le_of_lt}
use native.Mathlib.Omega.{arith}
use borrow.Author.Numbers.{trailing_lt}
use lib.Dec.{eqb}
use lib.Arith.{lt_of_le-ne}
use lib.Bits.{bit_and, and_le_l, and_le_r}
use lib.Count.{count_trailing_zeros, under}
use borrow.Author.Tests.{eq-eqb, ne_eqb}
use Rattle.std.proofs.lemmas.Bool.{cases_lt, cases_eq, and_parts}
use Rattle.lists.proofs.Tests.{clash}
use Rattle.words.specs.Bits.{bit, word_of}
use Rattle.words.specs.Least.{IsLeast, WithoutLeast}
use Rattle.words.proofs.Digits.{digit, half_lt, digit_zero, digit_suc}
use Rattle.words.proofs.Bits.{digit_bit, bit_is, bit_and_lem, bit-word_of, word_is}

-- ---- the trailing zeros of n digits

trailing_set : (n a : ℕ) → 0 < a → a < 2 ^ n → digit a (count_trailing_zeros n a) ≡ 1
unfolding count_trailing_zeros
trailing_set zero a p h = absurd (omega arith)
trailing_set (suc n) a p h = go (a % 2) refl (λ q. trailing_set n (a / 2) q (half_lt n h))
  where
    go : (d : ℕ) → a % 2 ≡ d → (0 < a / 2 → digit (a / 2) (count_trailing_zeros n (a / 2)) ≡ 1) → digit a (under d (count_trailing_zeros n (a / 2))) ≡ 1
    go zero e ih = digit_suc a (count_trailing_zeros n (a / 2)) ∙ ih (omega arith)
    go (suc d) e ih = omega (arith, digit_zero a)

trailing_below : (n a k : ℕ) → k < count_trailing_zeros n a → digit a k ≡ 0
unfolding count_trailing_zeros
trailing_below zero a k l = absurd (not-suc-le-zero l)
trailing_below (suc n) a k l = go (a % 2) k refl l (λ j m. trailing_below n (a / 2) j m)
  where
    go : (d k : ℕ) → a % 2 ≡ d → k < under d (count_trailing_zeros n (a / 2)) → ((j : ℕ) → j < count_trailing_zeros n (a / 2) → digit (a / 2) j ≡ 0) → digit a k ≡ 0
    go zero zero e l ih = digit_zero a ∙ e
    go zero (suc k) e l ih = digit_suc a k ∙ ih k (le_of_suc-le-suc l)
    go (suc d) k e l ih = absurd (not-suc-le-zero l)

-- `w - 1` has the digit at the lowest set digit of w cleared, and keeps those above it
pred_at : (n a : ℕ) → 0 < a → a < 2 ^ n → digit (a - 1) (count_trailing_zeros n a) ≡ 0
unfolding count_trailing_zeros
pred_at zero a p h = absurd (omega arith)
pred_at (suc n) a p h = go (a % 2) refl (λ q. pred_at n (a / 2) q (half_lt n h))
  where
    go : (d : ℕ) → a % 2 ≡ d → (0 < a / 2 → digit (a / 2 - 1) (count_trailing_zeros n (a / 2)) ≡ 0) → digit (a - 1) (under d (count_trailing_zeros n (a / 2))) ≡ 0
    go zero e ih =
        let half : (a - 1) / 2 ≡ a / 2 - 1 = omega arith in
        digit_suc (a - 1) (count_trailing_zeros n (a / 2)) ∙ ap (λ (x : ℕ). digit x (count_trailing_zeros n (a / 2))) half ∙ ih (omega arith)
    go (suc d) e ih = omega (arith, digit_zero (a - 1))

pred_above : (n a k : ℕ) → 0 < a → a < 2 ^ n → count_trailing_zeros n a < k → digit (a - 1) k ≡ digit a k
unfolding count_trailing_zeros
pred_above zero a k p h l = absurd (omega arith)
pred_above (suc n) a zero p h l = absurd (not-suc-le-zero l)
pred_above (suc n) a (suc k) p h l = go (a % 2) refl l (λ q m. pred_above n (a / 2) k q (half_lt n h) m)
  where
    go : (d : ℕ) → a % 2 ≡ d → under d (count_trailing_zeros n (a / 2)) < suc k
        → (0 < a / 2 → count_trailing_zeros n (a / 2) < k → digit (a / 2 - 1) k ≡ digit (a / 2) k) → digit (a - 1) (suc k) ≡ digit a (suc k)
    go zero e l ih =
        let half : (a - 1) / 2 ≡ a / 2 - 1 = omega arith in
        digit_suc (a - 1) k ∙ ap (λ (x : ℕ). digit x k) half ∙ ih (omega arith) (le_of_suc-le-suc l) ∙ sym (digit_suc a k)
    go (suc d) e l ih =
        let half : (a - 1) / 2 ≡ a / 2 = omega arith in
        digit_suc (a - 1) k ∙ ap (λ (x : ℕ). digit x k) half ∙ sym (digit_suc a k)

-- ---- the least set bit

pub least_is : (w : ℕ) → 0 < w → w < 2 ^ 64 → IsLeast w (count_trailing_zeros 64 w)
least_is w p h = record {
  below = trailing_lt 64 w p h;
  here = bit_is w (count_trailing_zeros 64 w) true (trailing_set 64 w p h);
  first = λ k l. bit_is w k false (trailing_below 64 w k l);
}

pub least_unique : (w b d : ℕ) → IsLeast w b → IsLeast w d → b ≡ d
least_unique w b d p q = go (cases_lt b d) (cases_lt d b)
  where
    go : (b < d) ⊎ (d ≤ b) → (d < b) ⊎ (b ≤ d) → b ≡ d
    go (inl l) _ = absurd (clash p.here (q.first b l))
    go (inr l) (inl m) = absurd (clash q.here (p.first d m))
    go (inr l) (inr m) = le_antisymm m l

-- ---- without it

-- `a & (a - 1)` has every bit of a but the least
drop_word : (n a : ℕ) → 0 < a → a < 2 ^ n → bit_and a (a - 1) ≡ word_of n (λ k. bit a k && not (eqb k (count_trailing_zeros n a)))
drop_word n a p h = word_is n (bit_and a (a - 1)) (λ k. bit a k && not (eqb k t)) (lt_of_le_of_lt (and_le_l a _) h) (λ k l. bit_and_lem a (a - 1) k ∙ at k (cases_eq k t) (cases_lt k t))
  where
    t : ℕ
    t = count_trailing_zeros n a

    at : (k : ℕ) → (k ≡ t) ⊎ (k ≢ t) → (k < t) ⊎ (t ≤ k) → (bit a k && bit (a - 1) k) ≡ (bit a k && not (eqb k t))
    at k (inl e) _ = ap (λ (x : Bool). bit a k && x) (ap (bit (a - 1)) e ∙ bit_is (a - 1) t false (pred_at n a p h) ∙ ap not (sym (eq-eqb k t e)))
    at k (inr e) (inl l) =
        let z : bit a k ≡ false = bit_is a k false (trailing_below n a k l) in
        rw z
    at k (inr e) (inr l) =
        let s : bit (a - 1) k ≡ bit a k = bit_is (a - 1) k (bit a k) (pred_above n a k p h (lt_of_le-ne l (λ q. e (sym q))) ∙ digit_bit a k) in
        ap (λ (x : Bool). bit a k && x) s ∙ and_self (bit a k) ∙ sym (ap (λ (x : Bool). bit a k && not x) (ne_eqb k t e) ∙ and-true (bit a k))

pub drop_is : (w : ℕ) → 0 < w → w < 2 ^ 64 → WithoutLeast w (bit_and w (w - 1))
drop_is w p h = record {
  less = omega (arith, and_le_r w (w - 1));
  rest = λ b l. subst (λ (x : ℕ). bit_and w (w - 1) ≡ word_of 64 (λ k. bit w k && not (eqb k x))) (least_unique w (count_trailing_zeros 64 w) b (least_is w p h) l) (drop_word 64 w p h);
}

-- so does whatever clears that bit
pub cleared : {w y b : ℕ} → 0 < w → w < 2 ^ 64 → IsLeast w b → y ≡ word_of 64 (λ k. bit w k && not (eqb k b)) → WithoutLeast w y
cleared {w} {y} {b} p h l e = let d = drop_is w p h in subst (WithoutLeast w) (d.rest b l ∙ sym e) d

-- ---- the bits of a word without its least
pub without-bit : {w y b : ℕ} → IsLeast w b → WithoutLeast w y → (k : ℕ) → k < 64 → bit y k ≡ (bit w k && not (eqb k b))
without-bit {w} {y} {b} l d k m = ap (λ (r : ℕ). bit r k) (d.rest b l) ∙ bit-word_of 64 (λ k. bit w k && not (eqb k b)) k m

-- a bit that is left was there before
pub without_inside : {w y b : ℕ} → IsLeast w b → WithoutLeast w y → (k : ℕ) → k < 64 → bit y k ≡ true → bit w k ≡ true
without_inside {w} {y} {b} l d k m h = (and_parts (bit w k) (not (eqb k b)) (sym (without-bit l d k m) ∙ h)).0

pub without_here : {w y b : ℕ} → IsLeast w b → WithoutLeast w y → bit y b ≡ false
without_here {w} {y} {b} l d = without-bit l d b l.below ∙ rw (eq-eqb b b refl, l.here)

pub without_other : {w y b : ℕ} → IsLeast w b → WithoutLeast w y → (k : ℕ) → k < 64 → k ≢ b → bit y k ≡ bit w k
without_other {w} {y} {b} l d k m ne = without-bit l d k m ∙ ap (λ (x : Bool). bit w k && not x) (ne_eqb k b ne) ∙ and-true (bit w k)
