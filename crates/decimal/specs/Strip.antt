-- The number at the front of a text: all the digits there are, without a leading zero, and at most
-- a limit. Assumes nothing.
use Rattle.std.specs.Prelude.{Bool, true, cond, ◌&&◌, not, List, [], ◌∷◌, ℕ, ◌+◌, ◌-◌, ◌*◌, ltb, leb, Some, None}
use Rattle.std.specs.Char.{is_ascii_digit}
use Rattle.decimal.specs.Front.{Front}

-- the digit d may follow those of n: n is no leading zero, and the limit holds
unfoldable pub goes_on : ℕ → ℕ → ℕ → Bool
goes_on limit n d = ltb 0 n && leb (10 * n + d) limit

-- reads on behind digits that spell n
unfoldable pub strip_more : ℕ → ℕ → List ℕ → Front ℕ
strip_more limit n [] = Some (n, [])
strip_more limit n (c ∷ cs) =
    cond (is_ascii_digit c)
    (cond (goes_on limit n (c - 48)) (strip_more limit (10 * n + (c - 48)) cs) None)
    (Some (n, c ∷ cs))

-- the first digit, and those behind it
unfoldable pub strip_decimal : ℕ → List ℕ → Front ℕ
strip_decimal limit [] = None
strip_decimal limit (c ∷ cs) =
    cond (is_ascii_digit c && leb (c - 48) limit) (strip_more limit (c - 48) cs) None

-- a text that begins with no digit
unfoldable pub no_digit : List ℕ → Bool
no_digit [] = true
no_digit (c ∷ cs) = not (is_ascii_digit c)
