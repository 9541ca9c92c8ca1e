-- The count of the bits of a word: by `count_ones`, and after the least is dropped. Assumes nothing.
use mathlib.Core.Path.{◌≡◌, sym}
use mathlib.Core.Bool.{Bool}
use Prim.Native.Nat.{ℕ, zero, suc, ◌/◌, ◌^◌, ◌<◌}
use native.Mathlib.Omega.{arith}
use lib.Count.{ones, ones_step, ones-le}
use Rattle.lists.specs.Lists.{from, range, countb}
use Rattle.lists.proofs.RangeCounts.{count_first, count_same}
use Rattle.words.specs.Bits.{bit, word_of}
use Rattle.words.proofs.Digits.{half_lt, digit_zero}
use Rattle.words.proofs.Bits.{digit_bit, bit-suc, bit-word_of}

pub count_word_of : (n : ℕ) (f : ℕ → Bool) → countb (bit (word_of n f)) (range n) ≡ countb f (range n)
count_word_of n f = count_same n (bit (word_of n f)) f (λ k l. bit-word_of n f k l)

-- the machine's count is the count of the bits
pub ones_count : (n a : ℕ) → a < 2 ^ n → ones a ≡ countb (bit a) (range n)
unfolding countb range from
ones_count zero a h = omega (arith, ones-le 0 a h)
ones_count (suc n) a h =
    let rest = ones_count n (a / 2) (half_lt n h) in
    let same = count_same n (bit (a / 2)) (λ k. bit a (suc k)) (λ k l. sym (bit-suc a k)) in
    omega (arith, ones_step a, count_first n (bit a), digit_zero a, digit_bit a 0)
