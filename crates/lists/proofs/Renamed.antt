-- Lists of numbers renamed by f: members, repeats, tests, counts, sums, greatest values. Assumes nothing.
use mathlib.Core.Path.{◌≡◌, refl, sym, ap, ap₂, ◌∙◌, subst}
use mathlib.Core.Logic.{◌⊎◌, inl, inr}
use mathlib.Core.Bool.{Bool, true, false, cond, ◌&&◌, ◌||◌}
use mathlib.Core.List.Memᴰ
use mathlib.Core.List.{List, [], ◌∷◌, ◌++◌, Memᴰ}
use Prim.Native.Nat.{ℕ, ◌+◌, max}
use lib.Dec.{eqb}
use borrow.Author.Tests.{eq-eqb}
use Rattle.std.proofs.lemmas.Bool.{or_left, or_right}
use Rattle.lists.specs.Lists.{filterb, anyb, allb, countb, sum_of, max_of, mapl, memb, distinct}
use Rattle.lists.proofs.Tests.{t→true, clash, not→false}
use Rattle.lists.proofs.Members.{memb_in, in_memb}
use Rattle.lists.proofs.Distinct.{memb_cons, distinct_head, distinct_tail, distinct_cons}

module _ (f : ℕ → ℕ) where
  pub map_in : (xs : List ℕ) {v : ℕ} → Memᴰ v xs → Memᴰ (f v) (mapl f xs)
  unfolding mapl
  map_in [] m = absurd (Memᴰ.not-nil m)
  map_in (x ∷ xs) {v} m = go (Memᴰ.cases_cons m) (λ n. map_in xs n)
    where
      go : (v ≡ x) ⊎ Memᴰ v xs → (Memᴰ v xs → Memᴰ (f v) (mapl f xs)) → Memᴰ (f v) (f x ∷ mapl f xs)
      go (inl e) ih = Memᴰ.head (ap f e)
      go (inr n) ih = Memᴰ.tail (ih n)

  pub map_out : (xs : List ℕ) {w : ℕ} → Memᴰ w (mapl f xs) → (v : ℕ) × Memᴰ v xs × (w ≡ f v)
  unfolding mapl
  map_out [] m = absurd (Memᴰ.not-nil m)
  map_out (x ∷ xs) {w} m = go (Memᴰ.cases_cons m) (λ n. map_out xs n)
    where
      go : (w ≡ f x) ⊎ Memᴰ w (mapl f xs) → (Memᴰ w (mapl f xs) → (v : ℕ) × Memᴰ v xs × (w ≡ f v)) → (v : ℕ) × Memᴰ v (x ∷ xs) × (w ≡ f v)
      go (inl e) ih = (x, Memᴰ.head refl, e)
      go (inr n) ih = let r = ih n in (r.0, Memᴰ.tail r.1, r.2)

  pub map_append : (xs ys : List ℕ) → mapl f (xs ++ ys) ≡ mapl f xs ++ mapl f ys
  unfolding mapl
  map_append [] ys = refl
  map_append (x ∷ xs) ys = ap (λ (l : List ℕ). f x ∷ l) (map_append xs ys)

  -- a test of the new names that agrees with one of the old
  pub map_filter : (p q : ℕ → Bool) (xs : List ℕ) → ((v : ℕ) → Memᴰ v xs → q (f v) ≡ p v) → filterb q (mapl f xs) ≡ mapl f (filterb p xs)
  unfolding filterb mapl
  map_filter p q [] h = refl
  map_filter p q (x ∷ xs) h = rw (h x (Memᴰ.head refl)) (go (p x) (map_filter p q xs (λ v m. h v (Memᴰ.tail m))))
    where
      go : (b : Bool) → filterb q (mapl f xs) ≡ mapl f (filterb p xs) → cond b (f x ∷ filterb q (mapl f xs)) (filterb q (mapl f xs)) ≡ mapl f (cond b (x ∷ filterb p xs) (filterb p xs))
      go true ih = ap (λ (l : List ℕ). f x ∷ l) ih
      go false ih = ih

  pub map_any : (p q : ℕ → Bool) (xs : List ℕ) → ((v : ℕ) → Memᴰ v xs → q (f v) ≡ p v) → anyb q (mapl f xs) ≡ anyb p xs
  unfolding anyb mapl
  map_any p q [] h = refl
  map_any p q (x ∷ xs) h = ap₂ (λ (a b : Bool). a || b) (h x (Memᴰ.head refl)) (map_any p q xs (λ v m. h v (Memᴰ.tail m)))

  pub map_all : (p q : ℕ → Bool) (xs : List ℕ) → ((v : ℕ) → Memᴰ v xs → q (f v) ≡ p v) → allb q (mapl f xs) ≡ allb p xs
  unfolding allb mapl
  map_all p q [] h = refl
  map_all p q (x ∷ xs) h = ap₂ (λ (a b : Bool). a && b) (h x (Memᴰ.head refl)) (map_all p q xs (λ v m. h v (Memᴰ.tail m)))

  pub map_count : (p q : ℕ → Bool) (xs : List ℕ) → ((v : ℕ) → Memᴰ v xs → q (f v) ≡ p v) → countb q (mapl f xs) ≡ countb p xs
  unfolding countb mapl
  map_count p q [] h = refl
  map_count p q (x ∷ xs) h = ap₂ (λ (b : Bool) (n : ℕ). cond b 1 0 + n) (h x (Memᴰ.head refl)) (map_count p q xs (λ v m. h v (Memᴰ.tail m)))

  pub map_sum : (g h : ℕ → ℕ) (xs : List ℕ) → ((v : ℕ) → Memᴰ v xs → h (f v) ≡ g v) → sum_of h (mapl f xs) ≡ sum_of g xs
  unfolding sum_of mapl
  map_sum g h [] e = refl
  map_sum g h (x ∷ xs) e = ap₂ (λ (a b : ℕ). a + b) (e x (Memᴰ.head refl)) (map_sum g h xs (λ v m. e v (Memᴰ.tail m)))

  pub map-max : (g h : ℕ → ℕ) (xs : List ℕ) → ((v : ℕ) → Memᴰ v xs → h (f v) ≡ g v) → max_of h (mapl f xs) ≡ max_of g xs
  unfolding max_of mapl
  map-max g h [] e = refl
  map-max g h (x ∷ xs) e = ap₂ max (e x (Memᴰ.head refl)) (map-max g h xs (λ v m. e v (Memᴰ.tail m)))

pub map_ext : (f g : ℕ → ℕ) (xs : List ℕ) → ((v : ℕ) → Memᴰ v xs → f v ≡ g v) → mapl f xs ≡ mapl g xs
unfolding mapl
map_ext f g [] h = refl
map_ext f g (x ∷ xs) h = ap₂ (λ (v : ℕ) (l : List ℕ). v ∷ l) (h x (Memᴰ.head refl)) (map_ext f g xs (λ v m. h v (Memᴰ.tail m)))

pub map-map : (f g : ℕ → ℕ) (xs : List ℕ) → mapl g (mapl f xs) ≡ mapl (λ v. g (f v)) xs
unfolding mapl
map-map f g [] = refl
map-map f g (x ∷ xs) = ap (λ (l : List ℕ). g (f x) ∷ l) (map-map f g xs)

-- names that differ: a list without repeats renamed is one
pub map-distinct : (f : ℕ → ℕ) (xs : List ℕ) → distinct xs ≡ true → ((u v : ℕ) → memb u xs ≡ true → memb v xs ≡ true → f u ≡ f v → u ≡ v) → distinct (mapl f xs) ≡ true
unfolding mapl
map-distinct f [] d one = d
map-distinct f (x ∷ xs) d one =
    distinct_cons (f x) (mapl f xs) (not→false (memb (f x) (mapl f xs)) (λ t. away (map_out f xs (memb_in (f x) (mapl f xs) (t→true (memb (f x) (mapl f xs)) t)))))
    (map-distinct f xs (distinct_tail x xs d) (λ u v mu mv. one u v (later u mu) (later v mv)))
  where
    later : (v : ℕ) → memb v xs ≡ true → memb v (x ∷ xs) ≡ true
    later v m = memb_cons v x xs ∙ or_right (eqb v x) _ m

    away : (v : ℕ) × Memᴰ v xs × (f x ≡ f v) → ⊥
    away r =
        let m = in_memb r.0 xs r.1 in
        let e = one x r.0 (memb_cons x x xs ∙ or_left _ (memb x xs) (eq-eqb x x refl)) (later r.0 m) r.2 in
        clash (subst (λ (z : ℕ). memb z xs ≡ true) (sym e) m) (distinct_head x xs d)
