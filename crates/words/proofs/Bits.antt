-- A word's bits as tests: those of `|`, `&`, `!`, shifts and powers of 2, and the word of given bits, at any width. Assumes nothing.
use mathlib.Core.Path.{◌≡◌, refl, sym, ap, ap₂, ◌∙◌}
use mathlib.Core.Logic.{◌≢◌, ◌⊎◌, inl, inr}
use mathlib.Core.Bool.{Bool, true, false, cond, not, ◌&&◌, ◌||◌, or_comm}
use Prim.Native.Nat.{ℕ, zero, suc, ◌+◌, ◌-◌, ◌*◌, ◌/◌, ◌%◌, ◌^◌, ◌≤◌, ◌<◌, suc-le-suc, min, max}
use native.Mathlib.Nat.{zero-lt-suc, le_of_suc-le-suc, not-suc-le-zero, pow-suc, lt_of_le_of_lt}
use native.Mathlib.Omega.{arith}
use lib.Dec.{eqb, ltb}
use lib.Pow.{pow-lt, pow_pos}
use lib.Bits.{bit_and, bit_or, or_lt, and_le_l}
use borrow.Author.Tests.{eq-eqb, ne_eqb, lt-ltb, le-ltb}
use Rattle.std.proofs.lemmas.Bool.{cases_eq, cases_lt}
use Rattle.words.specs.Bits.{bit, word_of}
use Rattle.words.proofs.Digits.{digit, digit_lt, digit_zero, digit_suc, digit_of_zero, digit_past, digit_shr, digit_or, digit_and, digit_not, digit_pow_same, digit_pow_other, digit_ext}

-- ---- to the digit and back

pub digit_bit : (w b : ℕ) → digit w b ≡ cond (bit w b) 1 0
unfolding bit digit
digit_bit w b = go (w / 2 ^ b % 2) (digit_lt w b)
  where
    go : (d : ℕ) → d < 2 → d ≡ cond (eqb d 1) 1 0
    go zero l = refl
    go (suc zero) l = refl
    go (suc (suc d)) l = absurd (omega arith)

pub bit_is : (w b : ℕ) (x : Bool) → digit w b ≡ cond x 1 0 → bit w b ≡ x
unfolding bit digit
bit_is w b true e = eq-eqb (w / 2 ^ b % 2) 1 e
bit_is w b false e = ne_eqb (w / 2 ^ b % 2) 1 (λ q. omega arith)

digit_of : (w b : ℕ) (x : Bool) → bit w b ≡ x → digit w b ≡ cond x 1 0
digit_of w b x e = digit_bit w b ∙ ap (λ (y : Bool). cond y 1 0) e

-- ---- one bit

bit-zero : (w : ℕ) (x : Bool) → w % 2 ≡ cond x 1 0 → bit w 0 ≡ x
bit-zero w x e = bit_is w 0 x (digit_zero w ∙ e)

pub bit-suc : (w b : ℕ) → bit w (suc b) ≡ bit (w / 2) b
bit-suc w b = bit_is w (suc b) (bit (w / 2) b) (digit_suc w b ∙ digit_bit (w / 2) b)

pub bit_of_zero : (b : ℕ) → bit 0 b ≡ false
bit_of_zero b = bit_is 0 b false (digit_of_zero b)

-- no bit past the width
pub bit_past : (n w k : ℕ) → w < 2 ^ n → n ≤ k → bit w k ≡ false
bit_past n w k h l = bit_is w k false (digit_past n w k h l)

-- ---- the operations, bit by bit

pub bit_shr : (w j k : ℕ) → bit (w / 2 ^ j) k ≡ bit w (j + k)
bit_shr w j k = bit_is (w / 2 ^ j) k (bit w (j + k)) (digit_shr w j k ∙ digit_bit w (j + k))

pub bit_or_lem : (a b k : ℕ) → bit (bit_or a b) k ≡ (bit a k || bit b k)
bit_or_lem a b k = bit_is (bit_or a b) k (bit a k || bit b k) (digit_or a b k ∙ ap₂ max (digit_bit a k) (digit_bit b k) ∙ go (bit a k) (bit b k))
  where
    go : (x y : Bool) → max (cond x 1 0) (cond y 1 0) ≡ cond (x || y) 1 0
    go true true = refl
    go true false = refl
    go false true = refl
    go false false = refl

pub bit_and_lem : (a b k : ℕ) → bit (bit_and a b) k ≡ (bit a k && bit b k)
bit_and_lem a b k = bit_is (bit_and a b) k (bit a k && bit b k) (digit_and a b k ∙ ap₂ min (digit_bit a k) (digit_bit b k) ∙ go (bit a k) (bit b k))
  where
    go : (x y : Bool) → min (cond x 1 0) (cond y 1 0) ≡ cond (x && y) 1 0
    go true true = refl
    go true false = refl
    go false true = refl
    go false false = refl

-- `!a` at n bits is (2 ^ n - 1) - a
pub bit_not : (n a k : ℕ) → a < 2 ^ n → k < n → bit ((2 ^ n - 1) - a) k ≡ not (bit a k)
bit_not n a k h l = bit_is ((2 ^ n - 1) - a) k (not (bit a k)) (digit_not n a k h l ∙ ap (λ (x : ℕ). 1 - x) (digit_bit a k) ∙ go (bit a k))
  where
    go : (x : Bool) → 1 - cond x 1 0 ≡ cond (not x) 1 0
    go true = refl
    go false = refl

-- 2 ^ j has bit j alone
pub bit_pow : (j k : ℕ) → bit (2 ^ j) k ≡ eqb k j
bit_pow j k = go (cases_eq k j)
  where
    go : (k ≡ j) ⊎ (k ≢ j) → bit (2 ^ j) k ≡ eqb k j
    go (inl e) = ap (bit (2 ^ j)) e ∙ bit_is (2 ^ j) j true (digit_pow_same j) ∙ sym (eq-eqb k j e)
    go (inr e) = bit_is (2 ^ j) k false (digit_pow_other j k e) ∙ sym (ne_eqb k j e)

-- ---- the word of given bits

-- what is written is read
pub bit-word_of : (n : ℕ) (f : ℕ → Bool) (b : ℕ) → b < n → bit (word_of n f) b ≡ f b
unfolding word_of
bit-word_of zero f b h = absurd (not-suc-le-zero h)
bit-word_of (suc n) f zero h = bit-zero (cond (f 0) 1 0 + 2 * word_of n (λ b. f (suc b))) (f 0) (go (f 0) (word_of n (λ b. f (suc b))))
  where
    go : (x : Bool) (w : ℕ) → (cond x 1 0 + 2 * w) % 2 ≡ cond x 1 0
    go true w = omega arith
    go false w = omega arith
bit-word_of (suc n) f (suc b) h =
    bit-suc (cond (f 0) 1 0 + 2 * word_of n (λ b. f (suc b))) b
    ∙ ap (λ (w : ℕ). bit w b) (go (f 0) (word_of n (λ b. f (suc b))))
    ∙ bit-word_of n (λ b. f (suc b)) b (le_of_suc-le-suc h)
  where
    go : (x : Bool) (w : ℕ) → (cond x 1 0 + 2 * w) / 2 ≡ w
    go true w = omega arith
    go false w = omega arith

pub word_of_lt : (n : ℕ) (f : ℕ → Bool) → word_of n f < 2 ^ n
unfolding word_of
word_of_lt zero f = zero-lt-suc 0
word_of_lt (suc n) f = go (f 0) (word_of_lt n (λ b. f (suc b)))
  where
    go : (x : Bool) → word_of n (λ b. f (suc b)) < 2 ^ n → cond x 1 0 + 2 * word_of n (λ b. f (suc b)) < 2 ^ suc n
    go true ih = omega (arith, pow-suc 2 n)
    go false ih = omega (arith, pow-suc 2 n)

pub word_of_ext : (n : ℕ) (f g : ℕ → Bool) → ((k : ℕ) → k < n → f k ≡ g k) → word_of n f ≡ word_of n g
unfolding word_of
word_of_ext zero f g h = refl
word_of_ext (suc n) f g h =
    ap₂ (λ (x : Bool) (w : ℕ). cond x 1 0 + 2 * w) (h 0 (zero-lt-suc n)) (word_of_ext n (λ b. f (suc b)) (λ b. g (suc b)) (λ k l. h (suc k) (suc-le-suc l)))

pub word_of-none : (n : ℕ) → word_of n (λ k. false) ≡ 0
unfolding word_of
word_of-none zero = refl
word_of-none (suc n) = omega (arith, word_of-none n)

-- words with the same bits are equal
pub word_ext : (n a b : ℕ) → a < 2 ^ n → b < 2 ^ n → ((k : ℕ) → k < n → bit a k ≡ bit b k) → a ≡ b
word_ext n a b ha hb h = digit_ext n a b ha hb (λ k l. digit_of a k (bit b k) (h k l) ∙ sym (digit_bit b k))

-- a word is the word of its bits
pub word_is : (n w : ℕ) (f : ℕ → Bool) → w < 2 ^ n → ((k : ℕ) → k < n → bit w k ≡ f k) → w ≡ word_of n f
word_is n w f h p = word_ext n w (word_of n f) h (word_of_lt n f) (λ k l. p k l ∙ sym (bit-word_of n f k l))

-- ---- the operations as words of bits

-- `a | b`: the union
pub word_or : (n a b : ℕ) → a < 2 ^ n → b < 2 ^ n → bit_or a b ≡ word_of n (λ k. bit a k || bit b k)
word_or n a b ha hb = word_is n (bit_or a b) (λ k. bit a k || bit b k) (or_lt n a b ha hb) (λ k l. bit_or_lem a b k)

-- `a & !b`: the difference
pub word_minus : (n a b : ℕ) → a < 2 ^ n → b < 2 ^ n → bit_and a ((2 ^ n - 1) - b) ≡ word_of n (λ k. bit a k && not (bit b k))
word_minus n a b ha hb =
    word_is n (bit_and a ((2 ^ n - 1) - b)) (λ k. bit a k && not (bit b k)) (lt_of_le_of_lt (and_le_l a _) ha)
    (λ k l. bit_and_lem a ((2 ^ n - 1) - b) k ∙ ap (λ (x : Bool). bit a k && x) (bit_not n b k hb l))

-- `a | (1 << b)`: one bit set
pub word_with : (n a b : ℕ) → a < 2 ^ n → b < n → bit_or a (2 ^ b) ≡ word_of n (λ k. eqb k b || bit a k)
word_with n a b ha l =
    word_or n a (2 ^ b) ha (pow-lt l)
    ∙ word_of_ext n (λ k. bit a k || bit (2 ^ b) k) (λ k. eqb k b || bit a k)
    (λ k m. ap (λ (x : Bool). bit a k || x) (bit_pow b k) ∙ or_comm (bit a k) (eqb k b))

-- `a & !(1 << b)`: one bit cleared
pub word_without : (n a b : ℕ) → a < 2 ^ n → b < n → bit_and a ((2 ^ n - 1) - 2 ^ b) ≡ word_of n (λ k. bit a k && not (eqb k b))
word_without n a b ha l =
    word_minus n a (2 ^ b) ha (pow-lt l)
    ∙ word_of_ext n (λ k. bit a k && not (bit (2 ^ b) k)) (λ k. bit a k && not (eqb k b))
    (λ k m. ap (λ (x : Bool). bit a k && not x) (bit_pow b k))

-- `a & ((1 << b) - 1)`: the bits below b
bit_mask : (b k : ℕ) → bit (2 ^ b - 1) k ≡ ltb k b
bit_mask b k = go (cases_lt k b)
  where
    some : 0 < 2 ^ b
    some = pow_pos b

    go : (k < b) ⊎ (b ≤ k) → bit (2 ^ b - 1) k ≡ ltb k b
    go (inl l) = ap (λ (m : ℕ). bit m k) (omega arith) ∙ bit_not b 0 k some l ∙ ap not (bit_of_zero k) ∙ sym (lt-ltb k b l)
    go (inr l) = bit_past b (2 ^ b - 1) k (omega (arith, some)) l ∙ sym (le-ltb k b l)

pub word_below : (n a b : ℕ) → a < 2 ^ n → bit_and a (2 ^ b - 1) ≡ word_of n (λ k. bit a k && ltb k b)
word_below n a b ha =
    word_is n (bit_and a (2 ^ b - 1)) (λ k. bit a k && ltb k b) (lt_of_le_of_lt (and_le_l a _) ha)
    (λ k l. bit_and_lem a (2 ^ b - 1) k ∙ ap (λ (x : Bool). bit a k && x) (bit_mask b k))
