-- The letter and the number for each case of the outcome enum (rules 4.7 and 12.10): what the report line shows of it. Assumes nothing.
use Rattle.std.specs.Prelude.{ℕ}
use Rattle.outcome.specs.declared.Change.TheVariants.{Grew, Kept, Shrank}
use Rattle.outcome.specs.declared.Outcome.{Outcome}
use Rattle.outcome.specs.declared.Outcome.TheVariants.{Accepted, Refused}

-- G, K, S or R in ASCII: grew, kept, shrank or refused
unfoldable pub letter_of : Outcome → ℕ
letter_of (Accepted Grew) = 71
letter_of (Accepted Kept) = 75
letter_of (Accepted Shrank) = 83
letter_of (Refused n) = 82

-- the refusal's number, 0 for an accepted call
unfoldable pub refusal_of : Outcome → ℕ
refusal_of (Accepted c) = 0
refusal_of (Refused n) = n
