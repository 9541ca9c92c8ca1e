-- Readers: each takes what it knows from the front of a text, or finds nothing. Assumes nothing.
use Rattle.std.specs.Prelude.{List, ℕ, length, take, drop, bytes_eq, if◌then◌else◌, Option, Some, None, option_map, option_and_then}
use Rattle.std.specs.Option.{option_or}
use Rattle.decimal.specs.Front.{Front}
use Rattle.decimal.specs.Strip.{strip_decimal}

-- from a text to what stands at its front
abbrev pub Reader : Type 0 → Type 0
Reader A = List ℕ → Front A

infixl 10 ◌>>=◌
-- one reader, and then on what is left another, which knows what the first one found
abbrev pub ◌>>=◌ : {A B : Type 0} → Reader A → (A → Reader B) → Reader B
(p >>= f) text = option_and_then (λ x. f x.0 x.1) (p text)

-- reads nothing more
abbrev pub give : {A : Type 0} → A → Reader A
give a text = Some (a, text)

infixr 5 ◌or◌
-- the first of two that finds something
abbrev pub ◌or◌ : {A : Type 0} → Reader A → Reader A → Reader A
(p or q) text = option_or (p text) (q text)

-- what is left behind a text that has to stand there
unfoldable pub behind : List ℕ → List ℕ → Option (List ℕ)
behind wanted text =
    if bytes_eq (take (length wanted) text) wanted then Some (drop (length wanted) text) else None

-- a text that has to stand there, of which nothing is told
abbrev pub literal : List ℕ → Reader Unit
literal wanted text = option_map (λ rest. (tt, rest)) (behind wanted text)

-- the same with a number behind it, of at most the limit
unfoldable pub part : List ℕ → ℕ → Reader ℕ
part wanted limit text = option_and_then (strip_decimal limit) (behind wanted text)
