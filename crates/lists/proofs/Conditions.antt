-- TESTS THAT DECIDE CONDITIONS: where each test of a list decides its condition, the first test that holds is the first condition that holds.
-- Assumes nothing.
use mathlib.Core.Path.{◌≡◌, refl, sym, ap, ◌∙◌}
use mathlib.Core.Logic.{◌⊎◌, inl, inr, ◌↔◌}
use mathlib.Core.Bool.{Bool, true, false, not, cond, ◌&&◌}
use mathlib.Core.List.{List, [], ◌∷◌, Memᴰ}
use Prim.Native.Nat.{ℕ, suc, ◌<◌}
use lib.Dec.{T, leb, ltb}
use borrow.Author.Tests.{leb-false, lt-leb, ltb-true, lt-ltb, not-true, not-false}
use Rattle.lists.specs.Lists.{allb, first_of}
use Rattle.lists.specs.Conditions.{FirstHolds, Refuses, IsShort}
use Rattle.lists.proofs.Tests.{clash, t→true, true→t, false→not}
use Rattle.lists.proofs.Members.{all_elim, all-fails}

-- the test b tells whether C holds
pub record Decides (b : Bool) (C : Type 0) : Type 0 where
  pub holds : b ≡ true → C
  pub fails : b ≡ false → C → ⊥

pub decides_iff : {b : Bool} {C : Type 0} → (b ≡ true) ↔ C → Decides b C
decides_iff {b} h = record { holds = h.0; fails = λ f c. clash {b = b} (h.1 c) f }

pub decides_test : (b : Bool) → Decides b (T b)
decides_test b = decides_iff (true→t, t→true b)

pub decides_not : (b : Bool) {C : Type 0} → Decides b C → Decides (not b) (C → ⊥)
decides_not true d = record { holds = λ e. absurd (clash e refl); fails = λ e n. n (d.holds refl) }
decides_not false d = record { holds = λ e. d.fails refl; fails = λ e. absurd (clash refl e) }

pub decides_and : (a : Bool) {b : Bool} {P Q : Type 0} → Decides a P → Decides b Q → Decides (a && b) (P × Q)
decides_and true p q = record { holds = λ e. (p.holds refl, q.holds e); fails = λ e x. q.fails e x.1 }
decides_and false p q = record { holds = λ e. absurd (clash e refl); fails = λ e x. p.fails refl x.0 }

-- not both: one of two faults
pub decides_nand : (a b : Bool) {P Q : Type 0} → Decides a P → Decides b Q → Decides (not (a && b)) ((P → ⊥) ⊎ (Q → ⊥))
decides_nand true b {P} {Q} p q = record { holds = λ e. inr ((decides_not b q).holds e); fails = go }
  where
    go : not b ≡ false → (P → ⊥) ⊎ (Q → ⊥) → ⊥
    go e (inl n) = n (p.holds refl)
    go e (inr n) = (decides_not b q).fails e n
decides_nand false b p q = record { holds = λ e. inl (p.fails refl); fails = λ e. absurd (clash refl e) }

-- all pass, or one fails
pub decides_fails : {A : Type 0} (p : A → Bool) (xs : List A) → Decides (not (allb p xs)) ((x : A) × Memᴰ x xs × (T (p x) → ⊥))
decides_fails p xs = record {
  holds = λ e. let r = all-fails p xs (not-true (allb p xs) e) in (r.0, r.1, false→not r.2);
  fails = λ e x. x.2 (true→t (all_elim p xs (not-false (allb p xs) e) x.1));
}

-- every buffer has its named size, or one is short
abbrev pub all_fit : List (ℕ × ℕ) → Bool
all_fit bs = allb (λ b. leb b.0 b.1) bs

pub decides_short : (bs : List (ℕ × ℕ)) → Decides (not (all_fit bs)) (IsShort bs)
unfolding allb
decides_short [] = record { holds = λ e. clash e refl; fails = λ e x. x }
decides_short (b ∷ bs) = go (leb b.0 b.1) refl (decides_short bs)
  where
    go : (t : Bool) → leb b.0 b.1 ≡ t → Decides (not (all_fit bs)) (IsShort bs) → Decides (not (t && all_fit bs)) ((b.1 < b.0) ⊎ IsShort bs)
    go false f d = record { holds = λ e. inl (leb-false b.0 b.1 f); fails = λ e. absurd (clash refl e) }
    go true t d = record { holds = λ e. inr (d.holds e); fails = either }
      where
        either : not (all_fit bs) ≡ false → (b.1 < b.0) ⊎ IsShort bs → ⊥
        either e (inl l) = clash t (lt-leb b.0 b.1 l)
        either e (inr s) = d.fails e s

-- one buffer alone, by its length
pub decides_below : (n limit : ℕ) → Decides (ltb n limit) (IsShort ((limit, n) ∷ []))
decides_below n limit = decides_iff (λ e. inl (ltb-true n limit e), back)
  where
    back : (n < limit) ⊎ ⊥ → ltb n limit ≡ true
    back (inl l) = lt-ltb n limit l
    back (inr x) = absurd x

-- ---- THE FIRST THAT HOLDS

-- each test decides its condition where no test before it holds, and the numbers are the same
abbrev pub Tells : List (Bool × ℕ) → List (Type 0 × ℕ) → Type 0
Tells [] [] = Unit {0}
Tells [] (c ∷ cs) = ⊥
Tells (t ∷ ts) [] = ⊥
Tells (t ∷ ts) (c ∷ cs) = (t.1 ≡ c.1) × Decides t.0 c.0 × (t.0 ≡ false → Tells ts cs)

pub tells_first : (ts : List (Bool × ℕ)) (cs : List (Type 0 × ℕ)) → Tells ts cs → (k : ℕ) → (first_of ts ≡ k) ↔ FirstHolds cs k
unfolding first_of
tells_first [] [] h k = (sym, sym)
tells_first [] (c ∷ cs) h k = absurd h
tells_first (t ∷ ts) [] h k = absurd h
tells_first (t ∷ ts) (c ∷ cs) h k = go t.0 refl (λ f. tells_first ts cs (h.2 f) k)
  where
    go : (b : Bool) → t.0 ≡ b → (t.0 ≡ false → (first_of ts ≡ k) ↔ FirstHolds cs k)
        → (cond b t.1 (first_of ts) ≡ k) ↔ ((c.0 × (k ≡ c.1)) ⊎ ((c.0 → ⊥) × FirstHolds cs k))
    go true e rest = (λ q. inl (h.1.holds e, sym q ∙ h.0), back)
      where
        back : (c.0 × (k ≡ c.1)) ⊎ ((c.0 → ⊥) × FirstHolds cs k) → t.1 ≡ k
        back (inl x) = h.0 ∙ sym x.1
        back (inr x) = absurd (x.0 (h.1.holds e))
    go false e rest = (λ q. inr (h.1.fails e, (rest e).0 q), back)
      where
        back : (c.0 × (k ≡ c.1)) ⊎ ((c.0 → ⊥) × FirstHolds cs k) → first_of ts ≡ k
        back (inl x) = absurd (h.1.fails e x.0)
        back (inr x) = (rest e).1 x.1

-- ---- A CALL, by the tests that its number comes from

-- `given k` is what the call leaves where its tests give k, and `number_of` reads the number from it
pub refuses_by : {A : Type 0} (ts : List (Bool × ℕ)) (cs : List (Type 0 × ℕ)) → Tells ts cs → (given refused : ℕ → A) (number_of : A → ℕ)
    → ((k : ℕ) → number_of (given k) ≡ k) → ((k : ℕ) → given (suc k) ≡ refused (suc k))
    → Refuses cs (number_of (given (first_of ts))) refused (given (first_of ts))
refuses_by ts cs h given refused number_of numbered kept = record {
  first = λ k. let iff = tells_first ts cs h k in (λ q. iff.0 (sym (numbered (first_of ts)) ∙ q), λ f. numbered (first_of ts) ∙ iff.1 f);
  unchanged = λ k q. ap given (sym (numbered (first_of ts)) ∙ q) ∙ kept k;
}
