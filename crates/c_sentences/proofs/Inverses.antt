-- NUMBERS AND WHAT IS SAID are inverse to each other. Assumes nothing.
use mathlib.Core.Path.{◌≡◌, refl, sym, ap, ap₂, ◌∙◌, subst}
use mathlib.Core.Bool.{not}
use mathlib.Core.Logic.{◌⊎◌, inl, inr}
use Prim.Native.Nat.{ℕ}
use borrow.Author.Tests.{eq-eqb, ne_eqb}
use Rattle.std.specs.Prelude.{Option, Some, None, option_map, option_and_then, ◌≢◌, ◌==◌, if◌then◌else◌}
use Rattle.std.proofs.lemmas.Bool.{cases_eq}
use Rattle.outcome.specs.Outcome.{letter_of}
use Rattle.outcome.specs.declared.Change.TheVariants.{Grew, Kept, Shrank}
use Rattle.outcome.specs.declared.Outcome.{Outcome}
use Rattle.outcome.specs.declared.Outcome.TheVariants.{Accepted, Refused}
use Rattle.sentences.specs.Sentence.{said}
use Rattle.sentences.specs.declared.Event.{Event}
use Rattle.sentences.specs.declared.Event.TheVariants.{Depot, Yard, Link, Closing}
use Rattle.sentences.specs.declared.Said.{Said}
use Rattle.c_sentences.specs.declared.Numbers.{Numbers}
use Rattle.c_sentences.specs.Numbers.{event_numbers, outcome_numbers, numbers_of, event_of, outcome_of, said_of}

-- ---- the numbers of what is said say it

event_said : (e : Event) → event_of (event_numbers e) ≡ Some e
unfolding event_of event_numbers
event_said (Depot n) = refl
event_said (Yard n) = refl
event_said (Link m n) = refl
event_said (Closing n) = refl

outcome_said : (o : Outcome) → outcome_of (outcome_numbers o) ≡ Some o
unfolding outcome_of outcome_numbers letter_of
outcome_said (Accepted Grew) = refl
outcome_said (Accepted Kept) = refl
outcome_said (Accepted Shrank) = refl
outcome_said (Refused n) = refl

pub said_numbers : (s : Said) → said_of (numbers_of s) ≡ Some s
unfolding said_of numbers_of
said_numbers s = rw (event_said s.event, outcome_said s.outcome)

-- ---- what some numbers say has these numbers

-- what is found has the numbers n
abbrev IsFor : {A N : Type 0} → (A → N) → N → Option A → Type 0
IsFor f n None = Unit {0}
IsFor f n (Some a) = f a ≡ n

module _ {A N : Type 0} (f : A → N) (n : N) where
  by_number : (k j : ℕ) (x r : Option A) → (k ≡ j → IsFor f n x) → IsFor f n r → IsFor f n (if k == j then x else r)
  by_number k j x r found other = go (cases_eq k j)
    where
      go : (k ≡ j) ⊎ (k ≢ j) → IsFor f n (if k == j then x else r)
      go (inl e) = rw (eq-eqb k j e) (found e)
      go (inr d) = rw (ne_eqb k j d) other

  by_zero : (k : ℕ) (r : Option A) → (k ≡ 0 → IsFor f n r) → IsFor f n (if not (k == 0) then None else r)
  by_zero k r zero_is = go (cases_eq k 0)
    where
      go : (k ≡ 0) ⊎ (k ≢ 0) → IsFor f n (if not (k == 0) then None else r)
      go (inl e) = rw (eq-eqb k 0 e) (zero_is e)
      go (inr d) = rw (ne_eqb k 0 d) tt

module _ (kind code other : ℕ) where
  event_case : IsFor event_numbers (kind, code, other) (event_of (kind, code, other))
  unfolding event_of event_numbers
  event_case =
      by_number _ _ kind 2 _ _ (λ e. ap (λ (k : ℕ). (k, code, other)) (sym e))
      (by_zero _ _ other _ (λ o.
      by_number _ _ kind 1 _ _ (λ e. numbers e o)
      (by_number _ _ kind 3 _ _ (λ e. numbers e o) (by_number _ _ kind 4 _ _ (λ e. numbers e o) tt))))
    where
      numbers : {k : ℕ} → kind ≡ k → other ≡ 0 → ◌≡◌ {A = ℕ × ℕ × ℕ} (k, code, 0) (kind, code, other)
      numbers e o = ap₂ (λ (k z : ℕ). (k, code, z)) (sym e) (sym o)

module _ (letter refusal : ℕ) where
  outcome_case : IsFor outcome_numbers (letter, refusal) (outcome_of (letter, refusal))
  unfolding outcome_of outcome_numbers letter_of
  outcome_case =
      by_number _ _ letter 0 _ _ (λ e. ap (λ (k : ℕ). (k, refusal)) (sym e))
      (by_zero _ _ refusal _ (λ r.
      by_number _ _ letter 71 _ _ (λ e. numbers e r)
      (by_number _ _ letter 75 _ _ (λ e. numbers e r) (by_number _ _ letter 83 _ _ (λ e. numbers e r) tt))))
    where
      numbers : {k : ℕ} → letter ≡ k → refusal ≡ 0 → ◌≡◌ {A = ℕ × ℕ} (k, 0) (letter, refusal)
      numbers e r = ap₂ (λ (k z : ℕ). (k, z)) (sym e) (sym r)

said_case : (n : Numbers) → IsFor numbers_of n (said_of n)
unfolding said_of numbers_of
said_case n =
    go (event_of n.event) (event_case n.event.0 n.event.1 n.event.2) (outcome_of n.outcome) (outcome_case n.outcome.0 n.outcome.1)
  where
    go : (e : Option Event) → IsFor event_numbers n.event e → (o : Option Outcome) → IsFor outcome_numbers n.outcome o
        → IsFor numbers_of n (option_and_then (λ x. option_map (λ y. said x y n.figures) o) e)
    go None h o k = tt
    go (Some x) h None k = tt
    go (Some x) h (Some y) k = ap₂ (λ (a : ℕ × ℕ × ℕ) (b : ℕ × ℕ). record n { event = a; outcome = b }) h k

pub numbers_said : (n : Numbers) {s : Said} → said_of n ≡ Some s → numbers_of s ≡ n
numbers_said n h = subst (IsFor numbers_of n) h (said_case n)

-- ---- and where they say nothing, nothing has them

pub nothing_said : (n : Numbers) → said_of n ≡ None → (s : Said) → numbers_of s ≢ n
nothing_said n h s e = let c : Some s ≡ None = sym (said_numbers s) ∙ ap said_of e ∙ h in absurd cc
