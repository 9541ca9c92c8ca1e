-- Sums over lists: in two orders, place by place, and a relation counted by halves. Assumes nothing.
use mathlib.Core.Path.{◌≡◌, refl, sym, ap, ◌∙◌}
use mathlib.Core.Logic.{◌⊎◌, inl, inr}
use mathlib.Core.Bool.{Bool, true, false, cond, not, ◌&&◌, ◌||◌, or_comm}
use mathlib.Core.List.Memᴰ
use mathlib.Core.List.{List, [], ◌∷◌, Memᴰ}
use Prim.Native.Nat.{ℕ, suc, ◌+◌, ◌≤◌, ◌<◌}
use native.Mathlib.Nat.{le_refl, lt_irrefl}
use native.Mathlib.Omega.{arith}
use lib.ListN.{length}
use Rattle.std.proofs.lemmas.Bool.{cases_lt}
use Rattle.lists.specs.Lists.{countb, sum_of}
use Rattle.lists.proofs.Tests.{clash}
use Rattle.lists.proofs.Counts.{count_lt, count_ext, sum_none, sum_ext}

-- a test as a number
abbrev pub weight : Bool → ℕ
weight b = cond b 1 0

module _ {ℓ} {A : Type ℓ} where
  pub count_sum : (p : A → Bool) (xs : List A) → countb p xs ≡ sum_of (λ x. weight (p x)) xs
  unfolding countb sum_of
  count_sum p [] = refl
  count_sum p (x ∷ xs) = ap (λ (n : ℕ). weight (p x) + n) (count_sum p xs)

  pub sum_add : (f g : A → ℕ) (xs : List A) → sum_of (λ x. f x + g x) xs ≡ sum_of f xs + sum_of g xs
  unfolding sum_of
  sum_add f g [] = refl
  sum_add f g (x ∷ xs) = let ih = sum_add f g xs in omega arith

  pub sum_le : (f g : A → ℕ) (xs : List A) → ((x : A) → Memᴰ x xs → f x ≤ g x) → sum_of f xs ≤ sum_of g xs
  unfolding sum_of
  sum_le f g [] h = le_refl 0
  sum_le f g (x ∷ xs) h =
      let a : f x ≤ g x = h x (Memᴰ.head refl) in
      let b : sum_of f xs ≤ sum_of g xs = sum_le f g xs (λ y m. h y (Memᴰ.tail m)) in
      omega arith

  -- nowhere less, and somewhere more
  pub sum_lt : (f g : A → ℕ) (xs : List A) {z : A} → ((x : A) → Memᴰ x xs → f x ≤ g x)
      → Memᴰ z xs → f z < g z → sum_of f xs < sum_of g xs
  unfolding sum_of
  sum_lt f g [] h m l = absurd (Memᴰ.not-nil m)
  sum_lt f g (x ∷ xs) {z} h m l =
      go (Memᴰ.cases_cons m) (h x (Memᴰ.head refl)) (sum_le f g xs (λ y n. h y (Memᴰ.tail n)))
      (λ n. sum_lt f g xs (λ y k. h y (Memᴰ.tail k)) n l)
    where
      go : (z ≡ x) ⊎ Memᴰ z xs → f x ≤ g x → sum_of f xs ≤ sum_of g xs → (Memᴰ z xs → sum_of f xs < sum_of g xs)
          → f x + sum_of f xs < g x + sum_of g xs
      go (inl e) a b ih = let p : f z ≡ f x = ap f e in let q : g z ≡ g x = ap g e in omega arith
      go (inr n) a b ih = let c : sum_of f xs < sum_of g xs = ih n in omega arith

  pub sum_length : (xs : List A) → sum_of (λ x. 1) xs ≡ length xs
  unfolding sum_of
  sum_length [] = refl
  sum_length (x ∷ xs) = let ih = sum_length xs in omega arith

  -- terms of at least 1 that sum to their number are 1 each
  pub sum_ones : (f : A → ℕ) (xs : List A) → ((x : A) → Memᴰ x xs → 1 ≤ f x) → sum_of f xs ≡ length xs → {x : A} → Memᴰ x xs → f x ≡ 1
  sum_ones f xs h e {x} m = go (cases_lt 1 (f x))
    where
      go : (1 < f x) ⊎ (f x ≤ 1) → f x ≡ 1
      go (inl l) = absurd (lt_irrefl (length xs) (omega (arith, sum_lt (λ y. 1) f xs h m l, sum_length xs, e)))
      go (inr g) = omega (arith, g, h x m)

  -- two members pass the test
  pub count_two : (p : A → Bool) (only : A → Bool) (xs : List A) {y z : A} → ((x : A) → only x ≡ true → p x ≡ true)
      → Memᴰ y xs → only y ≡ true → Memᴰ z xs → only z ≡ false → p z ≡ true → 1 < countb p xs
  count_two p only xs h my oy mz oz pz =
      let a : countb (λ x. false) xs < countb only xs = count_lt (λ x. false) only xs (λ x m e. absurd (clash e refl)) my refl oy in
      let b : countb only xs < countb p xs = count_lt only p xs (λ x m e. h x e) mz oz pz in
      omega arith

-- those that fail the test and those that pass it
pub count-not {ℓ} : {A : Type ℓ} (p : A → Bool) (xs : List A) → countb (λ x. not (p x)) xs + countb p xs ≡ length xs
unfolding countb
count-not p [] = refl
count-not p (x ∷ xs) = go (p x) (count-not p xs)
  where
    go : (b : Bool) → countb (λ x. not (p x)) xs + countb p xs ≡ length xs
        → weight (not b) + countb (λ x. not (p x)) xs + (weight b + countb p xs) ≡ suc (length xs)
    go true ih = omega arith
    go false ih = omega arith

-- a sum of sums, in either order
pub sum-swap {ℓ κ} : {A : Type ℓ} {B : Type κ} (f : A → B → ℕ) (xs : List A) (ys : List B)
    → sum_of (λ x. sum_of (λ y. f x y) ys) xs ≡ sum_of (λ y. sum_of (λ x. f x y) xs) ys
unfolding sum_of
sum-swap f [] ys = sym (sum_none (λ y. 0) ys (λ y. refl))
sum-swap f (x ∷ xs) ys =
    ap (λ (n : ℕ). sum_of (λ y. f x y) ys + n) (sum-swap f xs ys)
    ∙ sym (sum_add (λ y. f x y) (λ y. sum_of (λ x. f x y) xs) ys)

-- ---- a symmetric relation, each two of its members counted at one of them

module _ (L R : ℕ → ℕ → Bool) (symmetric : (u v : ℕ) → L u v ≡ L v u) (either : (u v : ℕ) → L u v ≡ true → R u v ≡ not (R v u)) where
  one_way : (u v : ℕ) → weight (L u v) ≡ weight (R u v && L u v) + weight (R v u && L v u)
  one_way u v = go (L u v) (L v u) (R u v) (R v u) (symmetric u v) (either u v)
    where
      go : (l l' r r' : Bool) → l ≡ l' → (l ≡ true → r ≡ not r') → weight l ≡ weight (r && l) + weight (r' && l')
      go true true true true e f = absurd (clash refl (f refl))
      go true true true false e f = refl
      go true true false true e f = refl
      go true true false false e f = absurd (clash (f refl) refl)
      go true false r r' e f = absurd (clash refl e)
      go false true r r' e f = absurd (clash e refl)
      go false false true true e f = refl
      go false false true false e f = refl
      go false false false true e f = refl
      go false false false false e f = refl

  pub counted_once : (xs : List ℕ)
      → sum_of (λ u. countb (L u) xs) xs
      ≡ sum_of (λ u. countb (λ v. R u v && L u v) xs) xs + sum_of (λ u. countb (λ v. R u v && L u v) xs) xs
  counted_once xs =
      let H = sum_of (λ u. countb (λ v. R u v && L u v) xs) xs in
      let row : (u : ℕ) → countb (L u) xs ≡ countb (λ v. R u v && L u v) xs + sum_of (λ v. weight (R v u && L v u)) xs = λ u.
      count_sum (L u) xs
      ∙ sum_ext (λ v. weight (L u v)) (λ v. weight (R u v && L u v) + weight (R v u && L v u)) xs (one_way u)
      ∙ sum_add (λ v. weight (R u v && L u v)) (λ v. weight (R v u && L v u)) xs
      ∙ ap (λ (n : ℕ). n + sum_of (λ v. weight (R v u && L v u)) xs) (sym (count_sum (λ v. R u v && L u v) xs)) in
      sum_ext (λ u. countb (L u) xs) (λ u. countb (λ v. R u v && L u v) xs + sum_of (λ v. weight (R v u && L v u)) xs) xs row
      ∙ sum_add (λ u. countb (λ v. R u v && L u v) xs) (λ u. sum_of (λ v. weight (R v u && L v u)) xs) xs
      ∙ ap (λ (n : ℕ). H + n) (
      sum-swap (λ u v. weight (R v u && L v u)) xs xs
      ∙ sum_ext (λ v. sum_of (λ u. weight (R v u && L v u)) xs) (λ v. countb (λ u. R v u && L v u) xs) xs (λ v. sym (count_sum (λ u. R v u && L v u) xs))
      )

-- a test that passes one way round at most: in either order it is passed twice as often
pub sum_either : (p : ℕ → ℕ → Bool) (xs : List ℕ) → ((u v : ℕ) → p u v ≡ true → p v u ≡ false)
    → sum_of (λ u. countb (λ v. p u v || p v u) xs) xs ≡ sum_of (λ u. countb (p u) xs) xs + sum_of (λ u. countb (p u) xs) xs
sum_either p xs h =
    counted_once (λ u v. p u v || p v u) p (λ u v. or_comm (p u v) (p v u)) (λ u v e. one (p u v) (p v u) (h u v) e) xs
    ∙ ap (λ (n : ℕ). n + n)
    (sum_ext (λ u. countb (λ v. p u v && (p u v || p v u)) xs) (λ u. countb (p u) xs) xs
    (λ u. count_ext (λ v. p u v && (p u v || p v u)) (p u) xs (λ v m. both (p u v) (p v u))))
  where
    one : (a b : Bool) → (a ≡ true → b ≡ false) → (a || b) ≡ true → a ≡ not b
    one true b f e = sym (ap not (f refl))
    one false true f e = refl
    one false false f e = absurd (clash e refl)

    both : (a b : Bool) → (a && (a || b)) ≡ a
    both true b = refl
    both false b = refl
