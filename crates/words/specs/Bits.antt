-- A word of 64 bits as a set of 64 numbers: b is a member where bit b is 1. Assumes nothing.
use Rattle.std.specs.Prelude.{Bool, cond, ℕ, zero, suc, ◌+◌, ◌*◌, ◌/◌, ◌%◌, ◌^◌, eqb}

-- Bit b of w is set. Bit 0 is the least.
unfoldable pub bit : ℕ → ℕ → Bool
bit w b = eqb (w / 2 ^ b % 2) 1

-- The word of n bits whose bit b is f b.
unfoldable pub word_of : ℕ → (ℕ → Bool) → ℕ
word_of zero f = 0
word_of (suc n) f = cond (f 0) 1 0 + 2 * word_of n (λ b. f (suc b))
