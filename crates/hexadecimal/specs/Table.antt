-- WHAT THE TABLE OF DIGITS HOLDS. Nobody has to believe this file. Assumes nothing.
use Rattle.std.specs.Prelude.{cond, ℕ}
use Rattle.hexadecimal.specs.Hex.{is_digit, digit_value}

-- the number that a character stands for; 16 where it is no digit
unfoldable pub value_or_none : ℕ → ℕ
value_or_none c = cond (is_digit c) (digit_value c) 16
