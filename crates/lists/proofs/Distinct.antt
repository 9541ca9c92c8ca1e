-- Lists without repeats: filters, ranges and insertions of them; each number is counted once. Assumes nothing.
use mathlib.Core.Path.{◌≡◌, refl, sym, ap, ◌∙◌, subst}
use mathlib.Core.Logic.{◌⊎◌, inl, inr}
use mathlib.Core.Bool.{Bool, true, false, cond, not, ◌&&◌, ◌||◌, or_comm}
use mathlib.Core.List.{List, [], ◌∷◌, ◌++◌, Memᴰ}
use Prim.Native.Nat.{ℕ, zero, suc, ◌+◌, ◌≤◌, ◌<◌, zero-le}
use native.Mathlib.Nat.{eq-or-lt_of_le, lt_irrefl}
use native.Mathlib.Omega.{arith}
use lib.Dec.{eqb, ltb}
use lib.ListN.{length, length-append}
use borrow.Author.Tests.{ltb-true, lt-ltb, le-ltb, eqb-true, eqb-false, eq-eqb, ne_eqb, not-true}
use Rattle.std.proofs.lemmas.Bool.{and_parts, and_from, or_cases, or_left, or_right, not_from_false}
use Rattle.lists.specs.Lists.{from, range, filterb, anyb, countb, memb, distinct, insert_by}
use Rattle.lists.proofs.Tests.{clash, same_test}
use Rattle.lists.proofs.Members.{filter-ext, filter_in, filter_out, from_out, range_in, range_out, length-range, memb_in, in_memb, memb_snoc}
use Rattle.lists.proofs.Counts.{length_count, count_ext, count_none, count-or, count_le_length}

pub distinct_head : (x : ℕ) (xs : List ℕ) → distinct (x ∷ xs) ≡ true → memb x xs ≡ false
unfolding distinct
distinct_head x xs h = not-true (memb x xs) (and_parts (not (memb x xs)) (distinct xs) h).0

pub distinct_tail : (x : ℕ) (xs : List ℕ) → distinct (x ∷ xs) ≡ true → distinct xs ≡ true
unfolding distinct
distinct_tail x xs h = (and_parts (not (memb x xs)) (distinct xs) h).1

pub distinct_cons : (x : ℕ) (xs : List ℕ) → memb x xs ≡ false → distinct xs ≡ true → distinct (x ∷ xs) ≡ true
unfolding distinct
distinct_cons x xs new d = and_from _ _ (not_from_false (memb x xs) new) d

pub memb_cons : (v x : ℕ) (xs : List ℕ) → memb v (x ∷ xs) ≡ (eqb v x || memb v xs)
unfolding memb anyb
memb_cons v x xs = refl

pub memb_nil : (v : ℕ) → memb v [] ≡ false
unfolding memb anyb
memb_nil v = refl

-- ---- members of a filter, of a range

pub memb_filter : (p : ℕ → Bool) (xs : List ℕ) (v : ℕ) → memb v (filterb p xs) ≡ (memb v xs && p v)
memb_filter p xs v =
    same_test (memb v (filterb p xs)) (memb v xs && p v)
    (λ h. let r = filter_out p xs (memb_in v (filterb p xs) h) in and_from _ _ (in_memb v xs r.0) r.1)
    (λ h. let r = and_parts (memb v xs) (p v) h in in_memb v (filterb p xs) (filter_in p xs (memb_in v xs r.0) r.1))

pub memb-range : (n v : ℕ) → memb v (range n) ≡ ltb v n
memb-range n v =
    same_test (memb v (range n)) (ltb v n)
    (λ h. lt-ltb v n (range_out n (memb_in v (range n) h)))
    (λ h. in_memb v (range n) (range_in n (ltb-true v n h)))

-- ---- without repeats

pub distinct_filter : (p : ℕ → Bool) (xs : List ℕ) → distinct xs ≡ true → distinct (filterb p xs) ≡ true
unfolding filterb distinct
distinct_filter p [] d = refl
distinct_filter p (x ∷ xs) d = go (p x) (distinct_filter p xs (distinct_tail x xs d))
  where
    out : memb x (filterb p xs) ≡ false
    out = memb_filter p xs x ∙ rw (distinct_head x xs d)

    go : (b : Bool) → distinct (filterb p xs) ≡ true → distinct (cond b (x ∷ filterb p xs) (filterb p xs)) ≡ true
    go true ih = and_from _ _ (not_from_false (memb x (filterb p xs)) out) ih
    go false ih = ih

distinct_from : (i k : ℕ) → distinct (from i k) ≡ true
unfolding from distinct
distinct_from i zero = refl
distinct_from i (suc k) = and_from _ _ (not_from_false (memb i (from (suc i) k)) (away (memb i (from (suc i) k)) refl)) (distinct_from (suc i) k)
  where
    away : (b : Bool) → memb i (from (suc i) k) ≡ b → b ≡ false
    away false e = refl
    away true e = let r : (suc i ≤ i) × (i < suc i + k) = from_out (suc i) k (memb_in i (from (suc i) k) e) in absurd (lt_irrefl i (omega arith))

pub distinct-range : (n : ℕ) → distinct (range n) ≡ true
unfolding range
distinct-range n = distinct_from 0 n

-- ---- an insertion

module _ (key : ℕ → ℕ) (x : ℕ) where
  pub insert_memb : (xs : List ℕ) (v : ℕ) → memb v (insert_by key x xs) ≡ (eqb v x || memb v xs)
  unfolding insert_by
  insert_memb [] v = memb_cons v x []
  insert_memb (y ∷ ys) v = go (ltb (key x) (key y)) (insert_memb ys v)
    where
      swap : (a b c : Bool) → (b || (a || c)) ≡ (a || (b || c))
      swap true true c = refl
      swap true false c = refl
      swap false true c = refl
      swap false false c = refl

      go : (b : Bool) → memb v (insert_by key x ys) ≡ (eqb v x || memb v ys)
          → memb v (cond b (x ∷ y ∷ ys) (y ∷ insert_by key x ys)) ≡ (eqb v x || memb v (y ∷ ys))
      go true ih = memb_cons v x (y ∷ ys)
      go false ih = memb_cons v y (insert_by key x ys) ∙ rw (ih, memb_cons v y ys) (swap (eqb v x) (eqb v y) (memb v ys))

  pub insert_distinct : (xs : List ℕ) → memb x xs ≡ false → distinct xs ≡ true → distinct (insert_by key x xs) ≡ true
  unfolding insert_by
  insert_distinct [] new d = distinct_cons x [] new d
  insert_distinct (y ∷ ys) new d = go (ltb (key x) (key y)) (insert_distinct ys apart.1 (distinct_tail y ys d))
    where
      parts : (a b : Bool) → (a || b) ≡ false → (a ≡ false) × (b ≡ false)
      parts false b e = (refl, e)
      parts true b e = absurd (clash refl e)

      apart : (eqb x y ≡ false) × (memb x ys ≡ false)
      apart = parts (eqb x y) (memb x ys) (sym (memb_cons x y ys) ∙ new)

      out : memb y (insert_by key x ys) ≡ false
      out = insert_memb ys y ∙ rw (ne_eqb y x (λ e. eqb-false x y apart.0 (sym e)), distinct_head y ys d)

      go : (b : Bool) → distinct (insert_by key x ys) ≡ true → distinct (cond b (x ∷ y ∷ ys) (y ∷ insert_by key x ys)) ≡ true
      go true ih = distinct_cons x (y ∷ ys) new d
      go false ih = distinct_cons y (insert_by key x ys) out ih

  pub insert_length : (xs : List ℕ) → length (insert_by key x xs) ≡ suc (length xs)
  unfolding insert_by
  insert_length [] = refl
  insert_length (y ∷ ys) = go (ltb (key x) (key y)) (insert_length ys)
    where
      go : (b : Bool) → length (insert_by key x ys) ≡ suc (length ys) → length (cond b (x ∷ y ∷ ys) (y ∷ insert_by key x ys)) ≡ suc (length (y ∷ ys))
      go true ih = refl
      go false ih = ap suc ih

-- ---- counting

-- a number of the list is counted once in it
pub count_member : (a : ℕ) (xs : List ℕ) → distinct xs ≡ true → memb a xs ≡ true → countb (λ c. eqb c a) xs ≡ 1
unfolding countb
count_member a [] d m = absurd (clash m (memb_nil a))
count_member a (y ∷ ys) d m = go (eqb y a) refl (λ k. count_member a ys (distinct_tail y ys d) k)
  where
    ih : eqb y a ≡ false → memb a ys ≡ true
    ih e = rest (or_cases (eqb a y) (memb a ys) (sym (memb_cons a y ys) ∙ m))
      where
        rest : (eqb a y ≡ true) ⊎ (memb a ys ≡ true) → memb a ys ≡ true
        rest (inl q) = absurd (eqb-false y a e (sym (eqb-true a y q)))
        rest (inr q) = q

    zero_of : eqb y a ≡ true → countb (λ c. eqb c a) ys ≡ 0
    zero_of e =
        count_none (λ c. eqb c a) ys
        (λ c k. ne_eqb c a (λ q. clash (subst (λ (z : ℕ). memb z ys ≡ true) (q ∙ sym (eqb-true y a e)) (in_memb c ys k)) (distinct_head y ys d)))

    go : (b : Bool) → eqb y a ≡ b → (memb a ys ≡ true → countb (λ c. eqb c a) ys ≡ 1) → cond b 1 0 + countb (λ c. eqb c a) ys ≡ 1
    go true e f = rw (zero_of e)
    go false e f = rw (f (ih e))

-- the numbers of xs are counted once each in every list without repeats that has them all
pub IsCounted : List ℕ → Type 0
IsCounted xs = (vs : List ℕ) → distinct vs ≡ true → ((v : ℕ) → memb v xs ≡ true → memb v vs ≡ true) → countb (λ v. memb v xs) vs ≡ length xs

pub counted_use : (xs : List ℕ) → IsCounted xs → (vs : List ℕ) → distinct vs ≡ true
    → ((v : ℕ) → memb v xs ≡ true → memb v vs ≡ true) → countb (λ v. memb v xs) vs ≡ length xs
unfolding IsCounted
counted_use xs h vs d l = h vs d l

pub counted_nil : IsCounted []
unfolding IsCounted memb anyb
counted_nil vs d l = count_none (λ v. false) vs (λ v k. refl)

pub counted_distinct : (xs : List ℕ) → distinct xs ≡ true → IsCounted xs
unfolding IsCounted
counted_distinct [] d vs e l = counted_use [] counted_nil vs e l
counted_distinct (x ∷ xs) d vs e l =
    let a : countb (λ v. memb v (x ∷ xs)) vs ≡ countb (λ v. memb v xs || eqb v x) vs =
    count_ext (λ v. memb v (x ∷ xs)) (λ v. memb v xs || eqb v x) vs (λ v k. memb_cons v x xs ∙ or_comm (eqb v x) (memb v xs)) in
    let b : countb (λ v. memb v xs || eqb v x) vs ≡ countb (λ v. memb v xs) vs + countb (λ v. eqb v x) vs =
    count-or (λ v. memb v xs) (λ v. eqb v x) vs (λ v k. ne_eqb v x (λ q. clash (subst (λ (w : ℕ). memb w xs ≡ true) q k) (distinct_head x xs d))) in
    let c : countb (λ v. memb v xs) vs ≡ length xs = counted_distinct xs (distinct_tail x xs d) vs e (λ v k. l v (memb_cons v x xs ∙ or_right (eqb v x) _ k)) in
    let f : countb (λ v. eqb v x) vs ≡ 1 = count_member x vs e (l x (memb_cons x x xs ∙ or_left _ (memb x xs) (eq-eqb x x refl))) in
    omega arith

pub counted_snoc : (xs : List ℕ) (r : ℕ) → IsCounted xs → memb r xs ≡ false → IsCounted (xs ++ (r ∷ []))
unfolding IsCounted
counted_snoc xs r h new vs d l =
    let a : countb (λ v. memb v (xs ++ (r ∷ []))) vs ≡ countb (λ v. memb v xs || eqb v r) vs =
    count_ext (λ v. memb v (xs ++ (r ∷ []))) (λ v. memb v xs || eqb v r) vs (λ v k. memb_snoc v xs r) in
    let b : countb (λ v. memb v xs || eqb v r) vs ≡ countb (λ v. memb v xs) vs + countb (λ v. eqb v r) vs =
    count-or (λ v. memb v xs) (λ v. eqb v r) vs (λ v e. ne_eqb v r (λ q. clash (subst (λ (w : ℕ). memb w xs ≡ true) q e) new)) in
    let c : countb (λ v. memb v xs) vs ≡ length xs = h vs d (λ v e. l v (memb_snoc v xs r ∙ or_left _ (eqb v r) e)) in
    let e : countb (λ v. eqb v r) vs ≡ 1 = count_member r vs d (l r (memb_snoc r xs r ∙ or_right (memb r xs) _ (eq-eqb r r refl))) in
    let f : length (xs ++ (r ∷ [])) ≡ length xs + 1 = length-append xs (r ∷ []) in
    omega arith

-- without repeats there are at most n numbers below n
pub distinct-length : (xs : List ℕ) (n : ℕ) → distinct xs ≡ true → ((v : ℕ) → memb v xs ≡ true → v < n) → length xs ≤ n
distinct-length xs n d below =
    let a : countb (λ v. memb v xs) (range n) ≡ length xs =
    counted_use xs (counted_distinct xs d) (range n) (distinct-range n) (λ v h. memb-range n v ∙ lt-ltb v n (below v h)) in
    let b : countb (λ v. memb v xs) (range n) ≤ length (range n) = count_le_length (λ v. memb v xs) (range n) in
    let c : length (range n) ≡ n = length-range n in
    omega arith

-- of two lists without repeats that both have what passes the test, as much passes it
pub count_either : (p : ℕ → Bool) (xs ys : List ℕ) → distinct xs ≡ true → distinct ys ≡ true
    → ((v : ℕ) → p v ≡ true → memb v xs ≡ true) → ((v : ℕ) → p v ≡ true → memb v ys ≡ true) → countb p xs ≡ countb p ys
count_either p xs ys d e f g =
    let a : countb (λ v. memb v (filterb p xs)) ys ≡ length (filterb p xs) =
    counted_use (filterb p xs) (counted_distinct (filterb p xs) (distinct_filter p xs d)) ys e
    (λ v h. g v (and_parts (memb v xs) (p v) (sym (memb_filter p xs v) ∙ h)).1) in
    let b : countb (λ v. memb v (filterb p xs)) ys ≡ countb p ys =
    count_ext (λ v. memb v (filterb p xs)) p ys (λ v m. memb_filter p xs v ∙ both (memb v xs) (p v) (f v)) in
    let c : length (filterb p xs) ≡ countb p xs = length_count p xs in
    sym c ∙ sym a ∙ b
  where
    both : (m b : Bool) → (b ≡ true → m ≡ true) → (m && b) ≡ b
    both m true h = rw (h refl)
    both true false h = refl
    both false false h = refl

-- ---- the numbers below n that pass a test, with one more of them put in

insert_least : (a : ℕ) (xs : List ℕ) → ((v : ℕ) → Memᴰ v xs → a < v) → insert_by (λ c. c) a xs ≡ a ∷ xs
unfolding insert_by
insert_least a [] low = refl
insert_least a (y ∷ ys) low = rw (lt-ltb a y (low y (Memᴰ.head refl)))

module _ (p : ℕ → Bool) (a : ℕ) (new : p a ≡ false) where
  -- the test that passes a too
  with_new : ℕ → Bool
  with_new c = eqb c a || p c

  insert_from : (i k : ℕ) → i ≤ a → a < i + k → insert_by (λ c. c) a (filterb p (from i k)) ≡ filterb with_new (from i k)
  unfolding from filterb insert_by with_new
  insert_from i zero l m = absurd (lt_irrefl a (omega (arith, l, m)))
  insert_from i (suc k) l m = go (eq-or-lt_of_le l) (λ n. insert_from (suc i) k n (omega (arith, m)))
    where
      rest : List ℕ
      rest = filterb p (from (suc i) k)

      more : List ℕ
      more = filterb with_new (from (suc i) k)

      above : (v : ℕ) → Memᴰ v rest → i < v
      above v n = (from_out (suc i) k (filter_out p (from (suc i) k) n).0).0

      others : i ≡ a → more ≡ rest
      others q = filter-ext with_new p (from (suc i) k) (λ c n. rw (ne_eqb c a (λ e. lt_irrefl i (omega (arith, (from_out (suc i) k n).0, q, e)))))

      passed : (b : Bool) → i < a → insert_by (λ c. c) a rest ≡ more → insert_by (λ c. c) a (cond b (i ∷ rest) rest) ≡ cond b (i ∷ more) more
      passed true n ih = rw (le-ltb a i (omega (arith, n)), ih)
      passed false n ih = ih

      go : (i ≡ a) ⊎ (i < a) → (i < a → insert_by (λ c. c) a rest ≡ more)
          → insert_by (λ c. c) a (cond (p i) (i ∷ rest) rest) ≡ cond (eqb i a || p i) (i ∷ more) more
      go (inl q) ih =
          rw (ap p q ∙ new, eq-eqb i a q, others q)
          (insert_least a rest (λ v n. omega (arith, above v n, q)) ∙ ap (λ (c : ℕ). c ∷ rest) (sym q))
      go (inr n) ih = rw (ne_eqb i a (λ e. lt_irrefl i (omega (arith, n, e)))) (passed (p i) n (ih n))

  pub insert_filter : (n : ℕ) → a < n → insert_by (λ c. c) a (filterb p (range n)) ≡ filterb (λ c. eqb c a || p c) (range n)
  unfolding range with_new
  insert_filter n l = insert_from 0 n zero-le (omega (arith, l))
