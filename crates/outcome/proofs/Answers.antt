-- CALLS BY THE TESTS THAT THEIR REFUSAL COMES FROM: what a refused one leaves, what another does, and in words which it is.
-- Assumes nothing.
use mathlib.Core.Path.{◌≡◌, refl, sym, ap, ◌∙◌}
use mathlib.Core.Logic.{◌⊎◌, inl, inr, ◌↔◌}
use mathlib.Core.Bool.{Bool, true, false, cond, ◌&&◌}
use mathlib.Core.List.{List, [], ◌∷◌}
use Prim.Native.Nat.{ℕ, zero, suc, ◌<◌}
use native.Mathlib.Nat.{lt_irrefl}
use native.Mathlib.Omega.{arith}
use lib.Dec.{ltb}
use borrow.Author.Tests.{ltb-true}
use Rattle.std.specs.Prelude.{Option, Some, None, Result, Ok, Err}
use Rattle.std.proofs.lemmas.Option.{none-some}
use Rattle.std.proofs.lemmas.Bool.{and_parts}
use Rattle.lists.specs.Lists.{allb, first_of}
use Rattle.lists.proofs.Conditions.{Decides, Tells}
use Rattle.outcome.specs.Answers.{refusal_in, numbered, Left, leaves, unless, FirstHolds, Refuses}
use Rattle.outcome.specs.Refusals.{number_of}
use Rattle.outcome.specs.declared.Refusal.{Refusal}
use Rattle.outcome.proofs.Numbering.{refuses}

-- ---- the number of a first fault

pub none_is : (n : ℕ) → None ≡ numbered n → n ≡ 0
unfolding numbered
none_is zero e = refl
none_is (suc n) e = absurd (none-some (suc n) e)

pub some_is : (n : ℕ) → (n ≡ 0 → ⊥) → Some n ≡ numbered n
unfolding numbered
some_is zero p = absurd (p refl)
some_is (suc n) p = refl

-- a refusal's number, as an option
pub number_is : (k : Refusal) → {n : ℕ} → number_of k ≡ n → Some (number_of k) ≡ numbered n
number_is k e = some_is (number_of k) (refuses k) ∙ ap numbered e

-- ---- what a call leaves

module _ {A M : Type 0} {refusal : Option ℕ} (old : M) (done : Left A M) where
  pub refused_leaves : {k : ℕ} → Some k ≡ refusal → leaves (Err k) old ≡ unless refusal old done
  unfolding unless
  refused_leaves e = ap (λ (r : Option ℕ). unless r old done) e

  pub done_leaves : None ≡ refusal → done ≡ unless refusal old done
  unfolding unless
  done_leaves e = ap (λ (r : Option ℕ). unless r old done) e

-- by its parts
pub unless_same : {A M : Type 0} {i j : Option ℕ} (old : M) {done given : Left A M} → i ≡ j → done ≡ given
    → unless i old done ≡ unless j old given
unless_same {j = j} old {done} e q = ap (λ (r : Option ℕ). unless r old done) e ∙ ap (unless j old) q

-- ---- in words

pub tells_first : (ts : List (Bool × ℕ)) (cs : List (Type 0 × ℕ)) → Tells ts cs → allb (λ c. ltb 0 c.1) ts ≡ true
    → (k : Option ℕ) → (numbered (first_of ts) ≡ k) ↔ FirstHolds cs k
unfolding first_of allb numbered
tells_first [] [] h p k = (sym, sym)
tells_first [] (c ∷ cs) h p k = absurd h
tells_first (t ∷ ts) [] h p k = absurd h
tells_first (t ∷ ts) (c ∷ cs) h p k = go t.0 refl (λ f. tells_first ts cs (h.2 f) q.1 k)
  where
    q : (ltb 0 t.1 ≡ true) × (allb (λ c. ltb 0 c.1) ts ≡ true)
    q = and_parts (ltb 0 t.1) (allb (λ c. ltb 0 c.1) ts) p

    above : t.1 ≡ 0 → ⊥
    above z = let l : 0 < t.1 = ltb-true 0 t.1 q.0 in absurd (lt_irrefl 0 (omega (arith, l, z)))

    number : numbered t.1 ≡ Some c.1
    number = sym (some_is t.1 above) ∙ ap Some h.0

    go : (b : Bool) → t.0 ≡ b → (t.0 ≡ false → (numbered (first_of ts) ≡ k) ↔ FirstHolds cs k)
        → (numbered (cond b t.1 (first_of ts)) ≡ k) ↔ ((c.0 × (k ≡ Some c.1)) ⊎ ((c.0 → ⊥) × FirstHolds cs k))
    go true e rest = (λ r. inl (h.1.holds e, sym r ∙ number), back)
      where
        back : (c.0 × (k ≡ Some c.1)) ⊎ ((c.0 → ⊥) × FirstHolds cs k) → numbered t.1 ≡ k
        back (inl x) = number ∙ sym x.1
        back (inr x) = absurd (x.0 (h.1.holds e))
    go false e rest = (λ r. inr (h.1.fails e, (rest e).0 r), back)
      where
        back : (c.0 × (k ≡ Some c.1)) ⊎ ((c.0 → ⊥) × FirstHolds cs k) → numbered (first_of ts) ≡ k
        back (inl x) = absurd (h.1.fails e x.0)
        back (inr x) = (rest e).1 x.1

-- what the tests give decides the call: `done` has a value
pub refuses_by : {A M : Type 0} (ts : List (Bool × ℕ)) (cs : List (Type 0 × ℕ)) → Tells ts cs → allb (λ c. ltb 0 c.1) ts ≡ true
    → (old : M) (done : Left A M) → refusal_in done.answer ≡ None → Refuses cs old (unless (numbered (first_of ts)) old done)
unfolding unless
refuses_by {A} {M} ts cs h p old done d = go (numbered (first_of ts)) (tells_first ts cs h p)
  where
    go : (r : Option ℕ) → ((k : Option ℕ) → (r ≡ k) ↔ FirstHolds cs k) → Refuses cs old (unless r old done)
    go None iff = record {
      first = λ k. (λ q. (iff k).0 (sym d ∙ q), λ f. d ∙ (iff k).1 f);
      unchanged = λ k q. absurd (none-some k (sym d ∙ ap refusal_in q));
    }
    go (Some n) iff = record { first = iff; unchanged = λ k q. refl }
