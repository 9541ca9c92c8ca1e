-- Numbers as decimal text in ASCII, without leading zeros. Assumes nothing.
use Rattle.std.specs.Prelude.{List, [], ◌∷◌, ◌++◌, ℕ, zero, suc, ◌+◌, ◌/◌, ◌%◌}

-- the character of a number below 10
abbrev pub numeral : ℕ → ℕ
numeral d = 48 + d

-- the digits of n, none for 0: those of n / 10, and the last one. k only bounds their number, so
-- that the definition ends
unfoldable pub spell : ℕ → ℕ → List ℕ
spell zero n = []
spell (suc k) zero = []
spell (suc k) (suc m) = spell k (suc m / 10) ++ (numeral (suc m % 10) ∷ [])

-- 0 has the digit 0, and any other number n has at most n digits
unfoldable pub decimal : ℕ → List ℕ
decimal zero = numeral 0 ∷ []
decimal (suc m) = spell (suc m) (suc m)

-- the two digits of a number below 100, a zero where it has one
unfoldable pub two_digits : ℕ → List ℕ
two_digits n = numeral (n / 10) ∷ numeral (n % 10) ∷ []

-- a field behind the first: one space before it
unfoldable pub field : List ℕ → List ℕ
field text = 32 ∷ text
