-- Counts, sums and greatest values over a list. Assumes nothing.
use mathlib.Core.Path.{◌≡◌, refl, sym, ap, ◌∙◌, subst}
use mathlib.Core.Logic.{◌⊎◌, inl, inr}
use mathlib.Core.Bool.{Bool, true, false, cond, ◌||◌}
use mathlib.Core.List.Memᴰ
use mathlib.Core.List.{List, [], ◌∷◌, Memᴰ}
use Prim.Native.Nat.{ℕ, zero, suc, ◌+◌, ◌≤◌, ◌<◌, max, zero-le}
use native.Mathlib.Nat.{eq-or-lt_of_le, lt_irrefl}
use native.Mathlib.Omega.{arith}
use native.Mathlib.Decide.{dec_le}
use lib.Dec.{T, eqb}
use lib.ListN.{length}
use borrow.Author.Tests.{eq-eqb, ne_eqb}
use Rattle.lists.specs.Lists.{from, range, filterb, countb, sum_of, max_of}
use Rattle.lists.proofs.Tests.{t→true, clash, not→false}
use Rattle.lists.proofs.Members.{from_out}

module _ {ℓ} {A : Type ℓ} where
  -- ---- the greatest value

  pub max_ge : (f : A → ℕ) (xs : List A) {x : A} → Memᴰ x xs → f x ≤ max_of f xs
  unfolding max_of
  max_ge f [] m = absurd (Memᴰ.not-nil m)
  max_ge f (y ∷ ys) {x} m = go (Memᴰ.cases_cons m) (λ n. max_ge f ys n)
    where
      go : (x ≡ y) ⊎ Memᴰ x ys → (Memᴰ x ys → f x ≤ max_of f ys) → f x ≤ max (f y) (max_of f ys)
      go (inl h) ih = let e : f x ≡ f y = ap f h in omega arith
      go (inr n) ih = let e : f x ≤ max_of f ys = ih n in omega arith

  pub max_ext : (f g : A → ℕ) (xs : List A) → ((x : A) → Memᴰ x xs → f x ≡ g x) → max_of f xs ≡ max_of g xs
  unfolding max_of
  max_ext f g [] h = refl
  max_ext f g (x ∷ xs) h = rw (h x (Memᴰ.head refl), max_ext f g xs (λ y m. h y (Memᴰ.tail m)))

  pub max_le_of : (f : A → ℕ) (xs : List A) (b : ℕ) → ((x : A) → Memᴰ x xs → f x ≤ b) → max_of f xs ≤ b
  unfolding max_of
  max_le_of f [] b h = zero-le
  max_le_of f (y ∷ ys) b h =
      let p : f y ≤ b = h y (Memᴰ.head refl) in
      let q : max_of f ys ≤ b = max_le_of f ys b (λ x m. h x (Memᴰ.tail m)) in
      omega arith

  pub max_at : (f : A → ℕ) (xs : List A) → (max_of f xs ≡ 0) ⊎ ((x : A) × Memᴰ x xs × (max_of f xs ≡ f x))
  unfolding max_of
  max_at f [] = inl refl
  max_at f (y ∷ ys) = go (dec_le (max_of f ys) (f y)) (max_at f ys)
    where
      go : Dec (max_of f ys ≤ f y) → (max_of f ys ≡ 0) ⊎ ((x : A) × Memᴰ x ys × (max_of f ys ≡ f x))
          → (max (f y) (max_of f ys) ≡ 0) ⊎ ((x : A) × Memᴰ x (y ∷ ys) × (max (f y) (max_of f ys) ≡ f x))
      go (yes p) ih = inr (y, Memᴰ.head refl, omega arith)
      go (no p) (inl z) = absurd (p (omega arith))
      go (no p) (inr r) = let e : max_of f ys ≡ f r.0 = r.2 in inr (r.0, Memᴰ.tail r.1, omega arith)

  -- ---- counting

  pub count_le_length : (p : A → Bool) (xs : List A) → countb p xs ≤ length xs
  unfolding countb
  count_le_length p [] = zero-le
  count_le_length p (y ∷ ys) = go (p y) (count_le_length p ys)
    where
      go : (b : Bool) → countb p ys ≤ length ys → cond b 1 0 + countb p ys ≤ suc (length ys)
      go true ih = omega arith
      go false ih = omega arith

  pub count_mono : (p q : A → Bool) (xs : List A) → ((x : A) → Memᴰ x xs → p x ≡ true → q x ≡ true) → countb p xs ≤ countb q xs
  unfolding countb
  count_mono p q [] h = zero-le
  count_mono p q (y ∷ ys) h = go (p y) (q y) (h y (Memᴰ.head refl)) (count_mono p q ys (λ x m. h x (Memᴰ.tail m)))
    where
      go : (a b : Bool) → (a ≡ true → b ≡ true) → countb p ys ≤ countb q ys → cond a 1 0 + countb p ys ≤ cond b 1 0 + countb q ys
      go true true f ih = omega arith
      go true false f ih = absurd (subst T (sym (f refl)) tt)
      go false true f ih = omega arith
      go false false f ih = omega arith

  -- one member more
  pub count_lt : (p q : A → Bool) (xs : List A) {z : A} → ((x : A) → Memᴰ x xs → p x ≡ true → q x ≡ true) → Memᴰ z xs → p z ≡ false → q z ≡ true
      → countb p xs < countb q xs
  unfolding countb
  count_lt p q [] h m e f = absurd (Memᴰ.not-nil m)
  count_lt p q (y ∷ ys) {z} h m e f =
      go (p y) (q y) refl refl (h y (Memᴰ.head refl)) (Memᴰ.cases_cons m) (count_mono p q ys (λ x n. h x (Memᴰ.tail n)))
      (λ n. count_lt p q ys (λ x k. h x (Memᴰ.tail k)) n e f)
    where
      go : (a b : Bool) → p y ≡ a → q y ≡ b → (p y ≡ true → q y ≡ true) → (z ≡ y) ⊎ Memᴰ z ys → countb p ys ≤ countb q ys
          → (Memᴰ z ys → countb p ys < countb q ys) → cond a 1 0 + countb p ys < cond b 1 0 + countb q ys
      go true b r s k (inl g) mono ih = absurd (subst T (sym r ∙ ap p (sym g) ∙ e) tt)
      go false true r s k (inl g) mono ih = omega arith
      go false false r s k (inl g) mono ih = absurd (subst T (sym f ∙ ap q g ∙ s) tt)
      go true true r s k (inr n) mono ih = let l : countb p ys < countb q ys = ih n in omega arith
      go true false r s k (inr n) mono ih = absurd (subst T (sym (k r) ∙ s) tt)
      go false true r s k (inr n) mono ih = omega arith
      go false false r s k (inr n) mono ih = let l : countb p ys < countb q ys = ih n in omega arith

-- no element passes
pub count-zero {ℓ} : {A : Type ℓ} (p : A → Bool) (xs : List A) → countb p xs ≡ 0 → {x : A} → Memᴰ x xs → p x ≡ false
unfolding countb
count-zero p [] e m = absurd (Memᴰ.not-nil m)
count-zero p (y ∷ ys) e {x} m = go (p y) refl e (Memᴰ.cases_cons m) (λ z n. count-zero p ys z n)
  where
    go : (b : Bool) → p y ≡ b → cond b 1 0 + countb p ys ≡ 0 → (x ≡ y) ⊎ Memᴰ x ys → (countb p ys ≡ 0 → Memᴰ x ys → p x ≡ false) → p x ≡ false
    go true q z o ih = absurd (lt_irrefl 0 (omega arith))
    go false q z (inl h) ih = ap p h ∙ q
    go false q z (inr n) ih = ih (omega arith) n

pub count_none {ℓ} : {A : Type ℓ} (p : A → Bool) (xs : List A) → ((x : A) → Memᴰ x xs → p x ≡ false) → countb p xs ≡ 0
unfolding countb
count_none p [] h = refl
count_none p (y ∷ ys) h = rw (h y (Memᴰ.head refl), count_none p ys (λ x m. h x (Memᴰ.tail m)))

-- ---- filtered lists count as the whole list

module _ {ℓ} {A : Type ℓ} where
  pub count_ext : (p q : A → Bool) (xs : List A) → ((x : A) → Memᴰ x xs → p x ≡ q x) → countb p xs ≡ countb q xs
  unfolding countb
  count_ext p q [] h = refl
  count_ext p q (y ∷ ys) h = rw (h y (Memᴰ.head refl), count_ext p q ys (λ x m. h x (Memᴰ.tail m)))

  pub length_count : (p : A → Bool) (xs : List A) → length (filterb p xs) ≡ countb p xs
  unfolding filterb countb
  length_count p [] = refl
  length_count p (y ∷ ys) = go (p y) (length_count p ys)
    where
      go : (b : Bool) → length (filterb p ys) ≡ countb p ys → length (cond b (y ∷ filterb p ys) (filterb p ys)) ≡ cond b 1 0 + countb p ys
      go true ih = omega arith
      go false ih = omega arith

  pub count_filter : (p q : A → Bool) (xs : List A) → ((x : A) → q x ≡ true → p x ≡ true) → countb q (filterb p xs) ≡ countb q xs
  unfolding filterb countb
  count_filter p q [] h = refl
  count_filter p q (y ∷ ys) h = go (p y) refl (count_filter p q ys h)
    where
      zero_add' : (b : Bool) → b ≡ false → (k : ℕ) → k ≡ cond b 1 0 + k
      zero_add' b e k = rw e (omega arith)

      go : (a : Bool) → p y ≡ a → countb q (filterb p ys) ≡ countb q ys → countb q (cond a (y ∷ filterb p ys) (filterb p ys)) ≡ cond (q y) 1 0 + countb q ys
      go true e ih = ap (λ (k : ℕ). cond (q y) 1 0 + k) ih
      go false e ih = ih ∙ zero_add' (q y) (not→false (q y) (λ t. clash (h y (t→true (q y) t)) e)) (countb q ys)

  pub sum_filter : (p : A → Bool) (f : A → ℕ) (xs : List A) → ((x : A) → p x ≡ false → f x ≡ 0) → sum_of f (filterb p xs) ≡ sum_of f xs
  unfolding filterb sum_of
  sum_filter p f [] h = refl
  sum_filter p f (y ∷ ys) h = go (p y) refl (sum_filter p f ys h)
    where
      go : (b : Bool) → p y ≡ b → sum_of f (filterb p ys) ≡ sum_of f ys → sum_of f (cond b (y ∷ filterb p ys) (filterb p ys)) ≡ f y + sum_of f ys
      go true q ih = omega arith
      go false q ih = let z : f y ≡ 0 = h y q in omega arith

  pub sum_none : (f : A → ℕ) (xs : List A) → ((x : A) → f x ≡ 0) → sum_of f xs ≡ 0
  unfolding sum_of
  sum_none f [] h = refl
  sum_none f (x ∷ xs) h = rw (h x, sum_none f xs h)

  pub sum_ext : (f g : A → ℕ) (xs : List A) → ((x : A) → f x ≡ g x) → sum_of f xs ≡ sum_of g xs
  unfolding sum_of
  sum_ext f g [] h = refl
  sum_ext f g (y ∷ ys) h = rw (h y, sum_ext f g ys h)

-- two tests that never both pass are counted apart
pub count-or {ℓ} : {A : Type ℓ} (p q : A → Bool) (xs : List A) → ((x : A) → p x ≡ true → q x ≡ false) → countb (λ x. p x || q x) xs ≡ countb p xs + countb q xs
unfolding countb
count-or p q [] h = refl
count-or p q (y ∷ ys) h = go (p y) (q y) (h y) (count-or p q ys h)
  where
    go : (a b : Bool) → (a ≡ true → b ≡ false) → countb (λ x. p x || q x) ys ≡ countb p ys + countb q ys
        → cond (a || b) 1 0 + countb (λ x. p x || q x) ys ≡ cond a 1 0 + countb p ys + (cond b 1 0 + countb q ys)
    go true true f ih = absurd (clash refl (f refl))
    go true false f ih = omega arith
    go false true f ih = omega arith
    go false false f ih = omega arith

count_one_from : (a i k : ℕ) → i ≤ a → a < i + k → countb (λ c. eqb c a) (from i k) ≡ 1
unfolding countb from
count_one_from a i zero p q = absurd (lt_irrefl a (omega arith))
count_one_from a i (suc k) p q = go (eq-or-lt_of_le p) (λ r. count_one_from a (suc i) k r (omega arith))
  where
    rest : a < suc i → countb (λ c. eqb c a) (from (suc i) k) ≡ 0
    rest l = count_none (λ c. eqb c a) (from (suc i) k) (λ x m. ne_eqb x a (λ e. let r : (suc i ≤ x) × (x < suc i + k) = from_out (suc i) k m in lt_irrefl a (omega arith)))

    go : (i ≡ a) ⊎ (i < a) → (suc i ≤ a → countb (λ c. eqb c a) (from (suc i) k) ≡ 1) → cond (eqb i a) 1 0 + countb (λ c. eqb c a) (from (suc i) k) ≡ 1
    go (inl e) ih = rw (eq-eqb i a e, rest (omega arith))
    go (inr l) ih = rw (ne_eqb i a (λ e. lt_irrefl a (omega arith)), ih l)

-- a number below n stands once in the range
pub count_one_lem : (n a : ℕ) → a < n → countb (λ c. eqb c a) (range n) ≡ 1
unfolding range
count_one_lem n a l = count_one_from a 0 n zero-le (omega arith)
