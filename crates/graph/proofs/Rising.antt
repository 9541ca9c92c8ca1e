-- Strictly rising lists of numbers: a range, a filter of one, and a list with one member. Assumes nothing.
use mathlib.Core.Path.{◌≡◌, refl, sym, ap, ◌∙◌}
use mathlib.Core.Logic.{◌⊎◌, inl, inr}
use mathlib.Core.Bool.{Bool, true, false, cond}
use mathlib.Core.List.Memᴰ
use mathlib.Core.List.{List, [], ◌∷◌, Memᴰ}
use Prim.Native.Nat.{ℕ, zero, suc, ◌≤◌, ◌<◌}
use native.Mathlib.Nat.{lt_irrefl}
use native.Mathlib.Omega.{arith}
use lib.Dec.{eqb}
use borrow.Author.Tests.{eqb-true}
use Rattle.std.proofs.lemmas.Bool.{or_cases}
use Rattle.lists.specs.Lists.{from, range, filterb, memb}
use Rattle.lists.specs.Rising.{rises_by}
use Rattle.lists.proofs.Tests.{clash}
use Rattle.lists.proofs.Distinct.{memb_nil, memb_cons}
use Rattle.lists.proofs.Rising.{rises_cons}
use Rattle.graph.specs.Nearby.{IsRising}

-- the same by recursion: rising, and none below b
abbrev Rises : ℕ → List ℕ → Type 0
Rises b [] = Unit {0}
Rises b (x ∷ xs) = (b ≤ x) × Rises (suc x) xs

rises_lower : (a b : ℕ) (l : List ℕ) → a ≤ b → Rises b l → Rises a l
rises_lower a b [] h r = tt
rises_lower a b (x ∷ xs) h r = let f : b ≤ x = r.0 in (omega arith, r.1)

-- there and back
rises_of : (x : ℕ) (xs : List ℕ) → IsRising (x ∷ xs) → Rises x (x ∷ xs)
rises_of x [] h = (omega arith, tt)
rises_of x (y ∷ ys) h =
    let l : x < y = h 0 (omega arith) in
    (omega arith, rises_lower (suc x) y (y ∷ ys) (omega arith) (rises_of y ys (λ i m. h (suc i) (omega arith))))

rising_by : (b : ℕ) (l : List ℕ) → Rises b l → IsRising l
rising_by b [] r i m = absurd (omega arith)
rising_by b (x ∷ []) r i m = absurd (omega arith)
rising_by b (x ∷ y ∷ ys) r zero m = let l : suc x ≤ y = r.1.0 in omega arith
rising_by b (x ∷ y ∷ ys) r (suc i) m = rising_by (suc x) (y ∷ ys) r.1 i (omega arith)

-- ---- what rises

rises_from : (i k : ℕ) → Rises i (from i k)
unfolding from
rises_from i zero = tt
rises_from i (suc k) = (omega arith, rises_from (suc i) k)

rises_filter : (p : ℕ → Bool) (b : ℕ) (l : List ℕ) → Rises b l → Rises b (filterb p l)
unfolding filterb
rises_filter p b [] r = tt
rises_filter p b (x ∷ xs) r = go (p x) (rises_filter p (suc x) xs r.1)
  where
    go : (t : Bool) → Rises (suc x) (filterb p xs) → Rises b (cond t (x ∷ filterb p xs) (filterb p xs))
    go true ih = (r.0, ih)
    go false ih = let f : b ≤ x = r.0 in rises_lower b (suc x) (filterb p xs) (omega arith) ih

pub range_rising : (n : ℕ) → IsRising (range n)
unfolding range
range_rising n = rising_by 0 (from 0 n) (rises_from 0 n)

pub filter_rising : (p : ℕ → Bool) (l : List ℕ) → IsRising l → IsRising (filterb p l)
unfolding filterb
filter_rising p [] h = h
filter_rising p (x ∷ xs) h = rising_by x (filterb p (x ∷ xs)) (rises_filter p x (x ∷ xs) (rises_of x xs h))

-- a rising list whose only member is s
pub rising_one : (s : ℕ) (l : List ℕ) → IsRising l → Memᴰ s l → ((v : ℕ) → Memᴰ v l → v ≡ s) → l ≡ s ∷ []
rising_one s [] h m all = absurd (Memᴰ.not-nil m)
rising_one s (x ∷ []) h m all = ap (λ (y : ℕ). y ∷ []) (all x (Memᴰ.head refl))
rising_one s (x ∷ y ∷ ys) h m all =
    let l : x < y = h 0 (omega arith) in
    let a : x ≡ s = all x (Memᴰ.head refl) in
    let b : y ≡ s = all y (Memᴰ.tail (Memᴰ.head refl)) in
    absurd (lt_irrefl x (omega arith))

-- ---- codes that rise are keys that rise

rises_least : (b : ℕ) (l : List ℕ) → Rises b l → (y : ℕ) → memb y l ≡ true → b ≤ y
rises_least b [] r y m = absurd (clash m (memb_nil y))
rises_least b (x ∷ xs) r y m = go (or_cases (eqb y x) (memb y xs) (sym (memb_cons y x xs) ∙ m)) (rises_least (suc x) xs r.1 y)
  where
    go : (eqb y x ≡ true) ⊎ (memb y xs ≡ true) → (memb y xs ≡ true → suc x ≤ y) → b ≤ y
    go (inl e) ih = let q : y ≡ x = eqb-true y x e in let f : b ≤ x = r.0 in omega arith
    go (inr n) ih = let g : suc x ≤ y = ih n in let f : b ≤ x = r.0 in omega arith

rises_codes : (b : ℕ) (l : List ℕ) → Rises b l → rises_by (λ c. c) l ≡ true
unfolding rises_by
rises_codes b [] r = refl
rises_codes b (x ∷ xs) r = rises_cons (λ c. c) x xs (rises_least (suc x) xs r.1) (rises_codes (suc x) xs r.1)

pub rising_codes : (l : List ℕ) → IsRising l → rises_by (λ c. c) l ≡ true
unfolding rises_by
rising_codes [] h = refl
rising_codes (x ∷ xs) h = rises_codes x (x ∷ xs) (rises_of x xs h)
