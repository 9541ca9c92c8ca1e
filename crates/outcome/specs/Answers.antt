-- THE ANSWER OF A CALL on lent memory (rules 8.1 and 8.2), one scheme for every call: a value, or the number of the
-- first refusal that holds, and then nothing has changed.
-- Assumes nothing.
use Rattle.std.specs.Prelude.{◌≡◌, ◌⊎◌, ◌↔◌, List, [], ◌∷◌, ℕ, zero, suc, Option, Some, None, Result, Ok, Err}
use Rattle.outcome.specs.Refusals.{number_of}
use Rattle.outcome.specs.declared.Refusal.{Refusal}

-- the code's answer, with the number of the refusal in its place
abbrev pub answer_of : {A : Type 0} → Result A Refusal → Result A ℕ
answer_of (Ok x) = Ok x
answer_of (Err k) = Err (number_of k)

-- the number of the refusal in an answer; none, where it has a value
abbrev pub refusal_in : {A : Type 0} → Result A ℕ → Option ℕ
refusal_in (Ok x) = None
refusal_in (Err k) = Some k

-- what `first_of` finds, where 0 is no fault
unfoldable pub numbered : ℕ → Option ℕ
numbered zero = None
numbered (suc k) = Some (suc k)

-- what a call leaves: its answer, and the memory that it was lent
pub record Left (A M : Type 0) : Type 0 where
  pub answer : Result A ℕ
  pub lent : M

abbrev pub leaves : {A M : Type 0} → Result A ℕ → M → Left A M
leaves answer lent = record { answer = answer; lent = lent }

-- a call with this refusal: lent `old`, it leaves that; with none it leaves what it is to do
unfoldable pub unless : {A M : Type 0} → Option ℕ → M → Left A M → Left A M
unless None old done = done
unless (Some k) old done = leaves (Err k) old

-- ---- in words

-- k is the number of the first condition that holds, none where none does (rule 8.1)
abbrev pub FirstHolds : List (Type 0 × ℕ) → Option ℕ → Type 0
FirstHolds [] k = k ≡ None
FirstHolds (c ∷ cs) k = (c.0 × (k ≡ Some c.1)) ⊎ ((c.0 → ⊥) × FirstHolds cs k)

-- A call that was lent `old` refuses by its conditions: its answer has the number of the first that holds, and refused
-- it leaves what it was lent (rule 8.2).
pub record Refuses {A M : Type 0} (conditions : List (Type 0 × ℕ)) (old : M) (left : Left A M) : Type 0 where
  pub first : (k : Option ℕ) → (refusal_in left.answer ≡ k) ↔ FirstHolds conditions k
  pub unchanged : (k : ℕ) → left.answer ≡ Err k → left.lent ≡ old
