-- The sixteen digits, upper case only, and bytes spelt by two of them. Assumes nothing.
use Rattle.std.specs.Prelude.{Option, Some, None, List, [], ◌∷◌, Bool, cond, ◌&&◌, ◌||◌, ℕ, ◌+◌, ◌-◌, ◌/◌, ◌*◌, ◌%◌, ltb, leb}

-- the character of a number below 16: 0 to 9, then A to F
unfoldable pub hex_digit : ℕ → ℕ
hex_digit d = cond (ltb d 10) (48 + d) (55 + d)

-- one of 0 to 9 or A to F
unfoldable pub is_digit : ℕ → Bool
is_digit c = (leb 48 c && leb c 57) || (leb 65 c && leb c 70)

-- the number below 16 that a digit stands for
unfoldable pub digit_value : ℕ → ℕ
digit_value c = cond (ltb c 65) (c - 48) (c - 55)

-- a number that a byte holds
unfoldable pub is_byte : ℕ → Bool
is_byte b = ltb b 256

-- two digits for each byte, the high one first
unfoldable pub digits_of : List ℕ → List ℕ
digits_of [] = []
digits_of (b ∷ bs) = hex_digit (b / 16) ∷ hex_digit (b % 16) ∷ digits_of bs

-- the byte that each two digits spell; a last digit without a second one spells none
unfoldable pub bytes_of : List ℕ → List ℕ
bytes_of [] = []
bytes_of (h ∷ []) = []
bytes_of (h ∷ l ∷ ds) = (16 * digit_value h + digit_value l) ∷ bytes_of ds

-- the byte that two characters spell, if both are digits
unfoldable pub spelt : ℕ → ℕ → Option ℕ
spelt high low = cond (is_digit high && is_digit low) (Some (16 * digit_value high + digit_value low)) None
