-- A bit as the number 0 or 1, where omega reads it: the digits of `|`, `&`, `!`, shifts and powers of 2, at any width. Assumes nothing.
use mathlib.Core.Path.{◌≡◌, refl, sym, ap, ◌∙◌}
use mathlib.Core.Logic.{◌≢◌}
use Prim.Native.Nat.{ℕ, zero, suc, ◌+◌, ◌-◌, ◌*◌, ◌/◌, ◌%◌, ◌^◌, ◌≤◌, ◌<◌, suc-le-suc, min, max}
use native.Mathlib.Nat.{zero-lt-suc, mod-lt, div-one, zero-div, div-div-eq-div-mul, pow-succ', pow-suc, le_of_suc-le-suc, not-suc-le-zero, lt_of_lt_of_le, mod-eq_of_lt, one-mul, div-eq_of_lt}
use native.Mathlib.Omega.{arith}
use lib.Arith.{digits_mod}
use lib.Pow.{pow_mono, pow-lt, shr-shr}
use lib.Bits.{bit_and, bit_or, and_shr, or_shr, and_step, or_step, and_mask}

-- digit b of w: 1 or 0
unfoldable pub digit : ℕ → ℕ → ℕ
digit w b = w / 2 ^ b % 2

two_pos : zero < 2
two_pos = zero-lt-suc 1

pub half_lt : {a : ℕ} (k : ℕ) → a < 2 ^ suc k → a / 2 < 2 ^ k
half_lt {a} k h = omega (arith, pow-suc 2 k)

-- ---- one digit

pub digit_lt : (w b : ℕ) → digit w b < 2
unfolding digit
digit_lt w b = mod-lt (w / 2 ^ b) two_pos

pub digit_zero : (w : ℕ) → digit w 0 ≡ w % 2
unfolding digit
digit_zero w = ap (λ (x : ℕ). x % 2) (div-one w)

pub digit_suc : (w b : ℕ) → digit w (suc b) ≡ digit (w / 2) b
unfolding digit
digit_suc w b = ap (λ (x : ℕ). w / x % 2) (pow-succ' 2 b) ∙ ap (λ (x : ℕ). x % 2) (sym (div-div-eq-div-mul w 2 (2 ^ b)))

pub digit_of_zero : (b : ℕ) → digit 0 b ≡ 0
unfolding digit
digit_of_zero b = ap (λ (x : ℕ). x % 2) (zero-div (2 ^ b))

-- no digit past the width
pub digit_past : (n w k : ℕ) → w < 2 ^ n → n ≤ k → digit w k ≡ 0
unfolding digit
digit_past n w k h l = ap (λ (x : ℕ). x % 2) (div-eq_of_lt (lt_of_lt_of_le h (pow_mono l)))

pub digit_shr : (w j k : ℕ) → digit (w / 2 ^ j) k ≡ digit w (j + k)
unfolding digit
digit_shr w j k = ap (λ (x : ℕ). x % 2) (shr-shr w j k)

-- ---- the operations, digit by digit

pub digit_or : (a b k : ℕ) → digit (bit_or a b) k ≡ max (digit a k) (digit b k)
unfolding digit
digit_or a b k =
    ap (λ (x : ℕ). x % 2) (or_shr a b k ∙ or_step (a / 2 ^ k) (b / 2 ^ k))
    ∙ digits_mod (bit_or (a / 2 ^ k / 2) (b / 2 ^ k / 2)) (omega arith)

pub digit_and : (a b k : ℕ) → digit (bit_and a b) k ≡ min (digit a k) (digit b k)
unfolding digit
digit_and a b k =
    ap (λ (x : ℕ). x % 2) (and_shr a b k ∙ and_step (a / 2 ^ k) (b / 2 ^ k))
    ∙ digits_mod (bit_and (a / 2 ^ k / 2) (b / 2 ^ k / 2)) (omega arith)

-- `!a` at n digits is (2 ^ n - 1) - a
pub digit_not : (n a k : ℕ) → a < 2 ^ n → k < n → digit ((2 ^ n - 1) - a) k ≡ 1 - digit a k
digit_not zero a k h l = absurd (not-suc-le-zero l)
digit_not (suc n) a zero h l = omega (arith, digit_zero ((2 ^ suc n - 1) - a), digit_zero a, pow-suc 2 n)
digit_not (suc n) a (suc k) h l =
    digit_suc ((2 ^ suc n - 1) - a) k
    ∙ ap (λ (x : ℕ). digit x k) (half_not n a h)
    ∙ digit_not n (a / 2) k (half_lt n h) (le_of_suc-le-suc l)
    ∙ ap (λ (x : ℕ). 1 - x) (sym (digit_suc a k))
  where
    half_not : (n a : ℕ) → a < 2 ^ suc n → ((2 ^ suc n - 1) - a) / 2 ≡ (2 ^ n - 1) - a / 2
    half_not n a h = omega (arith, pow-suc 2 n)

-- `1 << b` at n digits is (1 * 2 ^ b) % 2 ^ n
pub shl_one : (n b : ℕ) → b < n → (1 * 2 ^ b) % 2 ^ n ≡ 2 ^ b
shl_one n b h = ap (λ (x : ℕ). x % 2 ^ n) (one-mul (2 ^ b)) ∙ mod-eq_of_lt (pow-lt h)

half_pow : (j : ℕ) → 2 ^ suc j / 2 ≡ 2 ^ j
half_pow j = omega (arith, pow-suc 2 j)

-- 2 ^ j has digit j alone
pub digit_pow_same : (j : ℕ) → digit (2 ^ j) j ≡ 1
digit_pow_same zero = digit_zero 1
digit_pow_same (suc j) = digit_suc (2 ^ suc j) j ∙ ap (λ (x : ℕ). digit x j) (half_pow j) ∙ digit_pow_same j

pub digit_pow_other : (j k : ℕ) → k ≢ j → digit (2 ^ j) k ≡ 0
digit_pow_other zero zero h = absurd (h refl)
digit_pow_other zero (suc k) h = digit_suc 1 k ∙ digit_of_zero k
digit_pow_other (suc j) zero h = omega (arith, digit_zero (2 ^ suc j), pow-suc 2 j)
digit_pow_other (suc j) (suc k) h = digit_suc (2 ^ suc j) k ∙ ap (λ (x : ℕ). digit x k) (half_pow j) ∙ digit_pow_other j k (λ e. h (ap suc e))

-- `(w >> b) & 1` is the digit
pub and_one : (w b : ℕ) → bit_and (w / 2 ^ b) 1 ≡ digit w b
unfolding digit
and_one w b = and_mask (w / 2 ^ b) 1

-- two numbers of n digits with the same digits are equal
pub digit_ext : (n a b : ℕ) → a < 2 ^ n → b < 2 ^ n → ((k : ℕ) → k < n → digit a k ≡ digit b k) → a ≡ b
digit_ext zero a b ha hb h = omega arith
digit_ext (suc n) a b ha hb h =
    let low : a % 2 ≡ b % 2 = sym (digit_zero a) ∙ h 0 (zero-lt-suc n) ∙ digit_zero b in
    let high : a / 2 ≡ b / 2 =
    digit_ext n (a / 2) (b / 2) (half_lt n ha) (half_lt n hb) (λ k l. sym (digit_suc a k) ∙ h (suc k) (suc-le-suc l) ∙ digit_suc b k) in
    omega arith
