-- Tests as facts. Assumes nothing.
use mathlib.Core.Path.{◌≡◌, refl, sym, ◌∙◌, subst}
use mathlib.Core.Bool.{Bool, true, false, not}
use borrow.Author.Tests.{not-true, not-false}
use lib.Dec.{T}

pub t→true : (b : Bool) → T b → b ≡ true
t→true true h = refl
t→true false h = absurd h

pub true→t : {b : Bool} → b ≡ true → T b
true→t e = subst T (sym e) tt

pub false→not : {b : Bool} → b ≡ false → T b → ⊥
false→not e h = subst T e h

pub clash : {b : Bool} → b ≡ true → b ≡ false → ⊥
clash p q = subst T (sym p ∙ q) tt

pub not→false : (b : Bool) → (T b → ⊥) → b ≡ false
not→false true h = absurd (h tt)
not→false false h = refl

-- two tests that follow from each other are equal
pub same_test : (a b : Bool) → (a ≡ true → b ≡ true) → (b ≡ true → a ≡ true) → a ≡ b
same_test true b f g = sym (f refl)
same_test false true f g = g refl
same_test false false f g = refl

-- ---- `if !f(..)`: what the branch shows of the test that f answers

pub test_failed : {r b : Bool} → r ≡ b → not r ≡ true → b ≡ false
test_failed {r} e h = sym e ∙ not-true r h

pub test_passed : {r b : Bool} → r ≡ b → not r ≡ false → b ≡ true
test_passed {r} e h = sym e ∙ not-false r h
