-- THE OUTCOME OF AN ANSWER'S NUMBER. Assumes nothing.
use Rattle.std.specs.Prelude.{cond, ℕ, eqb}
use Rattle.outcome.specs.declared.Change.TheVariants.{Grew, Kept, Shrank}
use Rattle.outcome.specs.declared.Outcome.{Outcome}
use Rattle.outcome.specs.declared.Outcome.TheVariants.{Accepted, Refused}

-- the outcome that an answer's number stands for: G, K or S in ASCII for an accepted opening, any
-- other number for a refusal. `outcome_of_letter` and `outcome_of_refusal` (proofs/Theorems) say
-- that it undoes the opening's answer
unfoldable pub outcome_of : ℕ → Outcome
outcome_of a =
    cond (eqb a 71) (Accepted Grew)
    (cond (eqb a 75) (Accepted Kept) (cond (eqb a 83) (Accepted Shrank) (Refused a)))
