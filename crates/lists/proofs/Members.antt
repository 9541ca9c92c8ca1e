-- Members of lists: some and all, filters, ranges, numbers. Assumes nothing.
use mathlib.Core.Path.{◌≡◌, refl, sym, ap, ◌∙◌, subst}
use mathlib.Core.Logic.{◌⊎◌, inl, inr}
use mathlib.Core.Bool.{Bool, true, false, cond, ◌&&◌, ◌||◌}
use mathlib.Core.List.Memᴰ
use mathlib.Core.List.{List, [], ◌∷◌, Memᴰ, ◌++◌}
use Prim.Native.Nat.{ℕ, zero, suc, ◌+◌, ◌≤◌, ◌<◌, zero-le}
use native.Mathlib.Nat.{eq-or-lt_of_le, lt_irrefl}
use native.Mathlib.Omega.{arith}
use lib.Dec.{T, eqb, ltb}
use lib.ListN.{length}
use borrow.Author.Tests.{eqb-true, eq-eqb, ltb-true}
use Rattle.std.proofs.lemmas.Bool.{cases_Bool, and_parts, and_from, or_cases, or_left, or_right}
use Rattle.lists.specs.Lists.{first_of, from, range, filterb, anyb, allb, memb}
use Rattle.lists.proofs.Tests.{clash}

module _ {ℓ} {A : Type ℓ} where
  pub any_intro : (p : A → Bool) (xs : List A) {x : A} → Memᴰ x xs → p x ≡ true → anyb p xs ≡ true
  unfolding anyb
  any_intro p [] m e = absurd (Memᴰ.not-nil m)
  any_intro p (y ∷ ys) {x} m e = go (Memᴰ.cases_cons m) (λ n. any_intro p ys n e)
    where
      go : (x ≡ y) ⊎ Memᴰ x ys → (Memᴰ x ys → anyb p ys ≡ true) → (p y || anyb p ys) ≡ true
      go (inl q) ih = or_left _ (anyb p ys) (ap p (sym q) ∙ e)
      go (inr n) ih = or_right (p y) _ (ih n)

  pub any_elim : (p : A → Bool) (xs : List A) → anyb p xs ≡ true → (x : A) × Memᴰ x xs × (p x ≡ true)
  unfolding anyb
  any_elim p [] e = absurd (subst T (sym e) tt)
  any_elim p (y ∷ ys) e = go (or_cases (p y) (anyb p ys) e) (λ h. any_elim p ys h)
    where
      go : (p y ≡ true) ⊎ (anyb p ys ≡ true) → (anyb p ys ≡ true → (x : A) × Memᴰ x ys × (p x ≡ true)) → (x : A) × Memᴰ x (y ∷ ys) × (p x ≡ true)
      go (inl q) ih = (y, Memᴰ.head refl, q)
      go (inr q) ih = let r = ih q in (r.0, Memᴰ.tail r.1, r.2)

  pub any_ext : (p q : A → Bool) (xs : List A) → ((x : A) → Memᴰ x xs → p x ≡ q x) → anyb p xs ≡ anyb q xs
  unfolding anyb
  any_ext p q [] h = refl
  any_ext p q (y ∷ ys) h = rw (h y (Memᴰ.head refl), any_ext p q ys (λ x m. h x (Memᴰ.tail m)))

  pub any_none : (p : A → Bool) (xs : List A) → ((x : A) → Memᴰ x xs → p x ≡ false) → anyb p xs ≡ false
  unfolding anyb
  any_none p [] h = refl
  any_none p (y ∷ ys) h = rw (h y (Memᴰ.head refl), any_none p ys (λ x m. h x (Memᴰ.tail m)))

  pub filter_in : (p : A → Bool) (xs : List A) {x : A} → Memᴰ x xs → p x ≡ true → Memᴰ x (filterb p xs)
  unfolding filterb
  filter_in p [] m e = absurd (Memᴰ.not-nil m)
  filter_in p (y ∷ ys) {x} m e = go (p y) refl (Memᴰ.cases_cons m) (λ n. filter_in p ys n e)
    where
      go : (b : Bool) → p y ≡ b → (x ≡ y) ⊎ Memᴰ x ys → (Memᴰ x ys → Memᴰ x (filterb p ys)) → Memᴰ x (cond b (y ∷ filterb p ys) (filterb p ys))
      go true q (inl h) ih = Memᴰ.head h
      go true q (inr n) ih = Memᴰ.tail (ih n)
      go false q (inl h) ih = absurd (subst T (sym e ∙ ap p h ∙ q) tt)
      go false q (inr n) ih = ih n

  pub filter_out : (p : A → Bool) (xs : List A) {x : A} → Memᴰ x (filterb p xs) → Memᴰ x xs × (p x ≡ true)
  unfolding filterb
  filter_out p [] m = absurd (Memᴰ.not-nil m)
  filter_out p (y ∷ ys) {x} m = go (p y) refl m (λ n. filter_out p ys n)
    where
      cons : p y ≡ true → (x ≡ y) ⊎ Memᴰ x (filterb p ys) → (Memᴰ x (filterb p ys) → Memᴰ x ys × (p x ≡ true)) → Memᴰ x (y ∷ ys) × (p x ≡ true)
      cons q (inl h) ih = (Memᴰ.head h, ap p h ∙ q)
      cons q (inr n) ih = let r = ih n in (Memᴰ.tail r.0, r.1)

      go : (b : Bool) → p y ≡ b → Memᴰ x (cond b (y ∷ filterb p ys) (filterb p ys)) → (Memᴰ x (filterb p ys) → Memᴰ x ys × (p x ≡ true)) → Memᴰ x (y ∷ ys) × (p x ≡ true)
      go true q n ih = cons q (Memᴰ.cases_cons n) ih
      go false q n ih = let r = ih n in (Memᴰ.tail r.0, r.1)

  pub all_intro : (p : A → Bool) (xs : List A) → ((x : A) → Memᴰ x xs → p x ≡ true) → allb p xs ≡ true
  unfolding allb
  all_intro p [] h = refl
  all_intro p (y ∷ ys) h = and_from _ _ (h y (Memᴰ.head refl)) (all_intro p ys (λ x m. h x (Memᴰ.tail m)))

  pub all_elim : (p : A → Bool) (xs : List A) → allb p xs ≡ true → {x : A} → Memᴰ x xs → p x ≡ true
  unfolding allb
  all_elim p [] h m = absurd (Memᴰ.not-nil m)
  all_elim p (y ∷ ys) h {x} m = go (and_parts (p y) (allb p ys) h) (Memᴰ.cases_cons m) (λ k n. all_elim p ys k n)
    where
      go : (p y ≡ true) × (allb p ys ≡ true) → (x ≡ y) ⊎ Memᴰ x ys → (allb p ys ≡ true → Memᴰ x ys → p x ≡ true) → p x ≡ true
      go k (inl q) ih = ap p q ∙ k.0
      go k (inr n) ih = ih k.1 n

-- where a test does not hold of all, it fails somewhere
pub all-fails {ℓ} : {A : Type ℓ} (p : A → Bool) (xs : List A) → allb p xs ≡ false → (x : A) × Memᴰ x xs × (p x ≡ false)
unfolding allb
all-fails p [] e = absurd (clash refl e)
all-fails {A = A} p (x ∷ xs) e = go (cases_Bool (p x)) (all-fails p xs)
  where
    go : (p x ≡ true) ⊎ (p x ≡ false) → (allb p xs ≡ false → (y : A) × Memᴰ y xs × (p y ≡ false)) → (y : A) × Memᴰ y (x ∷ xs) × (p y ≡ false)
    go (inl t) more = let r = more (ap (λ (b : Bool). b && allb p xs) (sym t) ∙ e) in (r.0, Memᴰ.tail r.1, r.2)
    go (inr f) more = (x, Memᴰ.head refl, f)

pub filter-ext {ℓ} : {A : Type ℓ} (p q : A → Bool) (xs : List A) → ((x : A) → Memᴰ x xs → p x ≡ q x) → filterb p xs ≡ filterb q xs
unfolding filterb
filter-ext p q [] h = refl
filter-ext p q (x ∷ xs) h = rw (h x (Memᴰ.head refl), filter-ext p q xs (λ y m. h y (Memᴰ.tail m)))

pub filter-all {ℓ} : {A : Type ℓ} (p : A → Bool) (xs : List A) → ((x : A) → Memᴰ x xs → p x ≡ true) → filterb p xs ≡ xs
unfolding filterb
filter-all p [] h = refl
filter-all p (x ∷ xs) h = rw (h x (Memᴰ.head refl), filter-all p xs (λ y m. h y (Memᴰ.tail m)))

pub filter_none {ℓ} : {A : Type ℓ} (xs : List A) → filterb (λ x. false) xs ≡ []
unfolding filterb
filter_none [] = refl
filter_none (x ∷ xs) = filter_none xs

-- ---- ranges

from_in : (i k : ℕ) {v : ℕ} → i ≤ v → v < i + k → Memᴰ v (from i k)
unfolding from
from_in i zero {v} h l = absurd (lt_irrefl v (omega arith))
from_in i (suc k) {v} h l = go (eq-or-lt_of_le h) (λ n. from_in (suc i) k n (omega arith))
  where
    go : (i ≡ v) ⊎ (i < v) → (suc i ≤ v → Memᴰ v (from (suc i) k)) → Memᴰ v (i ∷ from (suc i) k)
    go (inl e) ih = Memᴰ.head (sym e)
    go (inr n) ih = Memᴰ.tail (ih n)

pub from_out : (i k : ℕ) {v : ℕ} → Memᴰ v (from i k) → (i ≤ v) × (v < i + k)
unfolding from
from_out i zero m = absurd (Memᴰ.not-nil m)
from_out i (suc k) {v} m = go (Memᴰ.cases_cons m) (λ n. from_out (suc i) k n)
  where
    go : (v ≡ i) ⊎ Memᴰ v (from (suc i) k) → (Memᴰ v (from (suc i) k) → (suc i ≤ v) × (v < suc i + k)) → (i ≤ v) × (v < i + suc k)
    go (inl e) ih = (omega arith, omega arith)
    go (inr n) ih = let r = ih n in (omega arith, omega arith)

pub range_in : (n : ℕ) {v : ℕ} → v < n → Memᴰ v (range n)
unfolding range
range_in n {v} h = from_in 0 n zero-le (omega arith)

pub range_out : (n : ℕ) {v : ℕ} → Memᴰ v (range n) → v < n
unfolding range
range_out n {v} m = let r : (0 ≤ v) × (v < 0 + n) = from_out 0 n m in omega arith

length_from : (i k : ℕ) → length (from i k) ≡ k
unfolding from
length_from i zero = refl
length_from i (suc k) = ap suc (length_from (suc i) k)

pub length-range : (n : ℕ) → length (range n) ≡ n
unfolding range
length-range n = length_from 0 n

pub length-filter {ℓ} : {A : Type ℓ} (p : A → Bool) (xs : List A) → length (filterb p xs) ≤ length xs
unfolding filterb
length-filter p [] = zero-le
length-filter p (y ∷ ys) = go (p y) (length-filter p ys)
  where
    go : (b : Bool) → length (filterb p ys) ≤ length ys → length (cond b (y ∷ filterb p ys) (filterb p ys)) ≤ suc (length ys)
    go true ih = omega arith
    go false ih = omega arith

-- ---- numbers of a list

pub memb_in : (v : ℕ) (xs : List ℕ) → memb v xs ≡ true → Memᴰ v xs
unfolding memb
memb_in v xs e =
    let r = any_elim (λ x. eqb v x) xs e in
    Memᴰ.cast (eqb-true v r.0 r.2) r.1

pub in_memb : (v : ℕ) (xs : List ℕ) → Memᴰ v xs → memb v xs ≡ true
unfolding memb
in_memb v xs m = any_intro (λ x. eqb v x) xs m (eq-eqb v v refl)

-- one more at the end
pub memb_snoc : (v : ℕ) (xs : List ℕ) (r : ℕ) → memb v (xs ++ (r ∷ [])) ≡ (memb v xs || eqb v r)
unfolding memb anyb
memb_snoc v [] r = go (eqb v r)
  where
    go : (b : Bool) → (b || false) ≡ b
    go true = refl
    go false = refl
memb_snoc v (x ∷ xs) r = go (eqb v x) (memb_snoc v xs r)
  where
    go : (b : Bool) → anyb (λ y. eqb v y) (xs ++ (r ∷ [])) ≡ (anyb (λ y. eqb v y) xs || eqb v r)
        → (b || anyb (λ y. eqb v y) (xs ++ (r ∷ []))) ≡ (b || anyb (λ y. eqb v y) xs || eqb v r)
    go true ih = refl
    go false ih = ih

-- ---- the first condition that holds

-- none held: not this one, and none of the rest
pub first_zero : (b : Bool) (k : ℕ) (cs : List (Bool × ℕ)) → first_of ((b, suc k) ∷ cs) ≡ 0 → (b ≡ false) × (first_of cs ≡ 0)
unfolding first_of
first_zero true k cs e = absurd (lt_irrefl 0 (omega arith))
first_zero false k cs e = (refl, e)

-- further conditions behind: they count where none of the earlier ones held
pub first_kept : (xs ys : List (Bool × ℕ)) → (first_of xs ≡ 0 → ⊥) → first_of (xs ++ ys) ≡ first_of xs
unfolding first_of
first_kept [] ys n = absurd (n refl)
first_kept (c ∷ cs) ys n = go c.0 n (first_kept cs ys)
  where
    go : (b : Bool) → (cond b c.1 (first_of cs) ≡ 0 → ⊥) → ((first_of cs ≡ 0 → ⊥) → first_of (cs ++ ys) ≡ first_of cs)
        → cond b c.1 (first_of (cs ++ ys)) ≡ cond b c.1 (first_of cs)
    go true n ih = refl
    go false n ih = ih n

pub first_passed : (xs ys : List (Bool × ℕ)) → allb (λ c. ltb 0 c.1) xs ≡ true → first_of xs ≡ 0 → first_of (xs ++ ys) ≡ first_of ys
unfolding first_of allb
first_passed [] ys p z = refl
first_passed (c ∷ cs) ys p z = let q = and_parts (ltb 0 c.1) (allb (λ c. ltb 0 c.1) cs) p in go c.0 z (first_passed cs ys q.1)
  where
    go : (b : Bool) → cond b c.1 (first_of cs) ≡ 0 → (first_of cs ≡ 0 → first_of (cs ++ ys) ≡ first_of ys) → cond b c.1 (first_of (cs ++ ys)) ≡ first_of ys
    go true z ih =
        let l : 0 < c.1 = ltb-true 0 c.1 (and_parts (ltb 0 c.1) (allb (λ c. ltb 0 c.1) cs) p).0 in
        absurd (lt_irrefl 0 (omega arith))
    go false z ih = ih z

-- those that pass two tests, one after the other
pub filter-twice {ℓ} : {A : Type ℓ} (p q : A → Bool) (xs : List A) → filterb p (filterb q xs) ≡ filterb (λ x. q x && p x) xs
unfolding filterb
filter-twice p q [] = refl
filter-twice p q (x ∷ xs) = go (q x) (filter-twice p q xs)
  where
    go : (b : Bool) → filterb p (filterb q xs) ≡ filterb (λ x. q x && p x) xs
        → filterb p (cond b (x ∷ filterb q xs) (filterb q xs)) ≡ cond (b && p x) (x ∷ filterb (λ x. q x && p x) xs) (filterb (λ x. q x && p x) xs)
    go true ih = ap (λ r. cond (p x) (x ∷ r) r) ih
    go false ih = ih
