-- Lists sorted by keys: what insertion keeps, and that a list whose keys rise strictly is determined by its members. Assumes nothing.
use mathlib.Core.Path.{◌≡◌, refl, sym, ap, ap₂, ◌∙◌, subst}
use mathlib.Core.Logic.{◌⊎◌, inl, inr}
use mathlib.Core.Bool.{Bool, true, false, cond, ◌&&◌, ◌||◌}
use mathlib.Core.List.{List, [], ◌∷◌, Memᴰ}
use Prim.Native.Nat.{ℕ, suc, ◌≤◌, ◌<◌}
use native.Mathlib.Nat.{lt_irrefl, le_of_lt, lt_trans}
use native.Mathlib.Omega.{arith}
use lib.Dec.{eqb, ltb}
use lib.ListN.{length}
use borrow.Author.Tests.{ltb-true, ltb-false, lt-ltb, eqb-true, eq-eqb}
use Rattle.std.proofs.lemmas.Bool.{cases_Bool, and_parts, and_from, or_cases, or_left, or_right}
use Rattle.lists.specs.Lists.{range, filterb, allb, mapl, memb, distinct, insert_by}
use Rattle.lists.specs.Rising.{rising_by, rises_by}
use Rattle.lists.proofs.Tests.{clash}
use Rattle.lists.proofs.Members.{all_intro, all_elim, filter_out, memb_in, in_memb}
use Rattle.lists.proofs.Renamed.{map_all}
use Rattle.lists.proofs.Distinct.{memb_nil, memb_cons, memb_filter, memb-range, distinct-range, distinct_head, distinct_tail, distinct_cons, distinct_filter, insert_memb, insert_distinct, insert_length}

module _ (key : ℕ → ℕ) where
  -- ---- a list whose keys rise

  pub rises_head : (x : ℕ) (xs : List ℕ) → rises_by key (x ∷ xs) ≡ true → (y : ℕ) → memb y xs ≡ true → key x < key y
  unfolding rises_by
  rises_head x xs h y m =
      ltb-true (key x) (key y) (all_elim (λ z. ltb (key x) (key z)) xs (and_parts (allb (λ z. ltb (key x) (key z)) xs) (rises_by key xs) h).0 (memb_in y xs m))

  pub rises_tail : (x : ℕ) (xs : List ℕ) → rises_by key (x ∷ xs) ≡ true → rises_by key xs ≡ true
  unfolding rises_by
  rises_tail x xs h = (and_parts (allb (λ z. ltb (key x) (key z)) xs) (rises_by key xs) h).1

  pub rises_cons : (x : ℕ) (xs : List ℕ) → ((y : ℕ) → memb y xs ≡ true → key x < key y) → rises_by key xs ≡ true → rises_by key (x ∷ xs) ≡ true
  unfolding rises_by
  rises_cons x xs low h = and_from _ _ (all_intro (λ y. ltb (key x) (key y)) xs (λ y m. lt-ltb (key x) (key y) (low y (in_memb y xs m)))) h

  -- the first has the least key
  pub rises_first : (x : ℕ) (xs : List ℕ) → rises_by key (x ∷ xs) ≡ true → (y : ℕ) → memb y (x ∷ xs) ≡ true → key x ≤ key y
  rises_first x xs h y m = go (or_cases (eqb y x) (memb y xs) (sym (memb_cons y x xs) ∙ m))
    where
      go : (eqb y x ≡ true) ⊎ (memb y xs ≡ true) → key x ≤ key y
      go (inl e) = let q : key y ≡ key x = ap key (eqb-true y x e) in omega arith
      go (inr n) = le_of_lt (rises_head x xs h y n)

  -- no two of its numbers have one key
  pub rises_one : (xs : List ℕ) → rises_by key xs ≡ true → (u v : ℕ) → memb u xs ≡ true → memb v xs ≡ true → key u ≡ key v → u ≡ v
  rises_one [] h u v mu mv e = absurd (clash mu (memb_nil u))
  rises_one (x ∷ xs) h u v mu mv e = go (split u mu) (split v mv) (rises_one xs (rises_tail x xs h) u v)
    where
      split : (w : ℕ) → memb w (x ∷ xs) ≡ true → (eqb w x ≡ true) ⊎ (memb w xs ≡ true)
      split w m = or_cases (eqb w x) (memb w xs) (sym (memb_cons w x xs) ∙ m)

      below : (w : ℕ) → memb w xs ≡ true → key x < key w
      below w m = rises_head x xs h w m

      go : (eqb u x ≡ true) ⊎ (memb u xs ≡ true) → (eqb v x ≡ true) ⊎ (memb v xs ≡ true) → (memb u xs ≡ true → memb v xs ≡ true → key u ≡ key v → u ≡ v) → u ≡ v
      go (inl p) (inl q) ih = eqb-true u x p ∙ sym (eqb-true v x q)
      go (inl p) (inr q) ih = let k : key u ≡ key x = ap key (eqb-true u x p) in absurd (lt_irrefl (key x) (omega (arith, below v q)))
      go (inr p) (inl q) ih = let k : key v ≡ key x = ap key (eqb-true v x q) in absurd (lt_irrefl (key x) (omega (arith, below u p)))
      go (inr p) (inr q) ih = ih p q e

  -- it has no number twice
  pub rises_distinct : (xs : List ℕ) → rises_by key xs ≡ true → distinct xs ≡ true
  unfolding distinct
  rises_distinct [] h = refl
  rises_distinct (x ∷ xs) h = distinct_cons x xs (go (cases_Bool (memb x xs))) (rises_distinct xs (rises_tail x xs h))
    where
      go : (memb x xs ≡ true) ⊎ (memb x xs ≡ false) → memb x xs ≡ false
      go (inl m) = absurd (lt_irrefl (key x) (rises_head x xs h x m))
      go (inr n) = n

  -- some of its numbers, in their order, rise too
  pub rises_filter : (p : ℕ → Bool) (xs : List ℕ) → rises_by key xs ≡ true → rises_by key (filterb p xs) ≡ true
  unfolding filterb
  rises_filter p [] h = h
  rises_filter p (x ∷ xs) h = go (p x) (rises_filter p xs (rises_tail x xs h))
    where
      low : (y : ℕ) → memb y (filterb p xs) ≡ true → key x < key y
      low y m = rises_head x xs h y (in_memb y xs (filter_out p xs (memb_in y (filterb p xs) m)).0)

      go : (b : Bool) → rises_by key (filterb p xs) ≡ true → rises_by key (cond b (x ∷ filterb p xs) (filterb p xs)) ≡ true
      go true ih = rises_cons x (filterb p xs) low ih
      go false ih = ih

  -- IT IS DETERMINED BY ITS MEMBERS
  pub rises_unique : (xs ys : List ℕ) → rises_by key xs ≡ true → rises_by key ys ≡ true → ((v : ℕ) → memb v xs ≡ memb v ys) → xs ≡ ys
  rises_unique [] [] h k same = refl
  rises_unique [] (y ∷ ys) h k same = absurd (clash (memb_cons y y ys ∙ or_left _ (memb y ys) (eq-eqb y y refl)) (sym (same y) ∙ memb_nil y))
  rises_unique (x ∷ xs) [] h k same = absurd (clash (memb_cons x x xs ∙ or_left _ (memb x xs) (eq-eqb x x refl)) (same x ∙ memb_nil x))
  rises_unique (x ∷ xs) (y ∷ ys) h k same =
      ap₂ (λ (v : ℕ) (l : List ℕ). v ∷ l) first (rises_unique xs ys (rises_tail x xs h) (rises_tail y ys k) rest)
    where
      own : (z : ℕ) (zs : List ℕ) → memb z (z ∷ zs) ≡ true
      own z zs = memb_cons z z zs ∙ or_left _ (memb z zs) (eq-eqb z z refl)

      first : x ≡ y
      first = go (or_cases (eqb x y) (memb x ys) (sym (memb_cons x y ys) ∙ sym (same x) ∙ own x xs)) (or_cases (eqb y x) (memb y xs) (sym (memb_cons y x xs) ∙ same y ∙ own y ys))
        where
          go : (eqb x y ≡ true) ⊎ (memb x ys ≡ true) → (eqb y x ≡ true) ⊎ (memb y xs ≡ true) → x ≡ y
          go (inl e) o = eqb-true x y e
          go (inr m) (inl e) = sym (eqb-true y x e)
          go (inr m) (inr n) = absurd (lt_irrefl (key x) (lt_trans (rises_head x xs h y n) (rises_head y ys k x m)))

      -- what is in the one tail is in the other
      pass : (v : ℕ) → (us ws : List ℕ) → (u w : ℕ) → u ≡ w → rises_by key (u ∷ us) ≡ true → memb v (u ∷ us) ≡ memb v (w ∷ ws) → memb v us ≡ true → memb v ws ≡ true
      pass v us ws u w q r s m = go (or_cases (eqb v w) (memb v ws) (sym (memb_cons v w ws) ∙ sym s ∙ memb_cons v u us ∙ or_right (eqb v u) _ m))
        where
          go : (eqb v w ≡ true) ⊎ (memb v ws ≡ true) → memb v ws ≡ true
          go (inl e) = let z : key u ≡ key v = ap key (q ∙ sym (eqb-true v w e)) in absurd (lt_irrefl (key u) (omega (arith, rises_head u us r v m)))
          go (inr n) = n

      rest : (v : ℕ) → memb v xs ≡ memb v ys
      rest v = both (memb v xs) (memb v ys) (pass v xs ys x y first h (same v)) (pass v ys xs y x (sym first) k (sym (same v)))
        where
          both : (a b : Bool) → (a ≡ true → b ≡ true) → (b ≡ true → a ≡ true) → a ≡ b
          both true b f g = sym (f refl)
          both false true f g = g refl
          both false false f g = refl

  -- ---- an insertion

  pub insert_rises : (x : ℕ) (xs : List ℕ) → ((y : ℕ) → memb y xs ≡ true → key x ≡ key y → ⊥) → rises_by key xs ≡ true → rises_by key (insert_by key x xs) ≡ true
  unfolding insert_by
  insert_rises x [] other h = rises_cons x [] (λ y m. absurd (clash m (memb_nil y))) h
  insert_rises x (y ∷ ys) other h = go (cases_Bool (ltb (key x) (key y))) (insert_rises x ys (λ z m. other z (memb_cons z y ys ∙ or_right (eqb z y) _ m)) (rises_tail y ys h))
    where
      go : (ltb (key x) (key y) ≡ true) ⊎ (ltb (key x) (key y) ≡ false) → rises_by key (insert_by key x ys) ≡ true → rises_by key (cond (ltb (key x) (key y)) (x ∷ y ∷ ys) (y ∷ insert_by key x ys)) ≡ true
      go (inl l) ih = rw l (rises_cons x (y ∷ ys) low h)
        where
          low : (z : ℕ) → memb z (y ∷ ys) ≡ true → key x < key z
          low z m = omega (arith, ltb-true (key x) (key y) l, rises_first y ys h z m)
      go (inr g) ih = rw g (rises_cons y (insert_by key x ys) low ih)
        where
          apart : key x ≡ key y → ⊥
          apart = other y (memb_cons y y ys ∙ or_left _ (memb y ys) (eq-eqb y y refl))

          at : (z : ℕ) → (eqb z x ≡ true) ⊎ (memb z ys ≡ true) → key y < key z
          at z (inl e) = let q : key z ≡ key x = ap key (eqb-true z x e) in omega (arith, ltb-false (key x) (key y) g, apart)
          at z (inr m) = rises_head y ys h z m

          low : (z : ℕ) → memb z (insert_by key x ys) ≡ true → key y < key z
          low z m = at z (or_cases (eqb z x) (memb z ys) (sym (insert_memb key x ys z) ∙ m))

  -- ---- the sorted list

  pub sort_memb : (xs : List ℕ) (v : ℕ) → memb v (rising_by key xs) ≡ memb v xs
  unfolding rising_by
  sort_memb [] v = refl
  sort_memb (x ∷ xs) v = insert_memb key x (rising_by key xs) v ∙ ap (λ (b : Bool). eqb v x || b) (sort_memb xs v) ∙ sym (memb_cons v x xs)

  pub sort_distinct : (xs : List ℕ) → distinct xs ≡ true → distinct (rising_by key xs) ≡ true
  unfolding rising_by
  sort_distinct [] d = d
  sort_distinct (x ∷ xs) d = insert_distinct key x (rising_by key xs) (sort_memb xs x ∙ distinct_head x xs d) (sort_distinct xs (distinct_tail x xs d))

  pub sort_length : (xs : List ℕ) → length (rising_by key xs) ≡ length xs
  unfolding rising_by
  sort_length [] = refl
  sort_length (x ∷ xs) = insert_length key x (rising_by key xs) ∙ ap suc (sort_length xs)

  -- keys that differ: the sorted list rises
  pub sort_rises : (xs : List ℕ) → distinct xs ≡ true → ((u v : ℕ) → memb u xs ≡ true → memb v xs ≡ true → key u ≡ key v → u ≡ v) → rises_by key (rising_by key xs) ≡ true
  unfolding rising_by rises_by
  sort_rises [] d one = refl
  sort_rises (x ∷ xs) d one =
      insert_rises x (rising_by key xs)
      (λ y m e.
      let n = sym (sort_memb xs y) ∙ m in
      let q = one x y (memb_cons x x xs ∙ or_left _ (memb x xs) (eq-eqb x x refl)) (memb_cons y x xs ∙ or_right (eqb y x) _ n) e in
      clash (subst (λ (z : ℕ). memb z xs ≡ true) (sym q) n) (distinct_head x xs d))
      (sort_rises xs (distinct_tail x xs d) (λ u v mu mv. one u v (memb_cons u x xs ∙ or_right (eqb u x) _ mu) (memb_cons v x xs ∙ or_right (eqb v x) _ mv)))

  -- it is the one list of these members whose keys rise
  pub sort_only : (xs ys : List ℕ) → distinct xs ≡ true → ((u v : ℕ) → memb u xs ≡ true → memb v xs ≡ true → key u ≡ key v → u ≡ v)
      → rises_by key ys ≡ true → ((v : ℕ) → memb v ys ≡ memb v xs) → ys ≡ rising_by key xs
  sort_only xs ys d one h same = rises_unique ys (rising_by key xs) h (sort_rises xs d one) (λ v. same v ∙ sym (sort_memb xs v))

  -- some of the numbers, sorted, are the sorted ones of them
  pub sort_filter : (p : ℕ → Bool) (xs : List ℕ) → distinct xs ≡ true → ((u v : ℕ) → memb u xs ≡ true → memb v xs ≡ true → key u ≡ key v → u ≡ v)
      → filterb p (rising_by key xs) ≡ rising_by key (filterb p xs)
  sort_filter p xs d one =
      sort_only (filterb p xs) (filterb p (rising_by key xs)) (distinct_filter p xs d) (λ u v mu mv. one u v (in_all u mu) (in_all v mv))
      (rises_filter p (rising_by key xs) (sort_rises xs d one))
      (λ v. memb_filter p (rising_by key xs) v ∙ ap (λ (b : Bool). b && p v) (sort_memb xs v) ∙ sym (memb_filter p xs v))
    where
      in_all : (v : ℕ) → memb v (filterb p xs) ≡ true → memb v xs ≡ true
      in_all v m = (and_parts (memb v xs) (p v) (sym (memb_filter p xs v) ∙ m)).0

-- ---- listed by a key, and the keys listed by themselves

pub insert_keys : (key : ℕ → ℕ) (x : ℕ) (xs : List ℕ) → mapl key (insert_by key x xs) ≡ insert_by (λ c. c) (key x) (mapl key xs)
unfolding insert_by mapl
insert_keys key x [] = refl
insert_keys key x (y ∷ ys) = go (ltb (key x) (key y)) (insert_keys key x ys)
  where
    go : (b : Bool) → mapl key (insert_by key x ys) ≡ insert_by (λ c. c) (key x) (mapl key ys)
        → mapl key (cond b (x ∷ y ∷ ys) (y ∷ insert_by key x ys)) ≡ cond b (key x ∷ key y ∷ mapl key ys) (key y ∷ insert_by (λ c. c) (key x) (mapl key ys))
    go true ih = refl
    go false ih = ap (λ (l : List ℕ). key y ∷ l) ih

pub sort_keys : (key : ℕ → ℕ) (xs : List ℕ) → mapl key (rising_by key xs) ≡ rising_by (λ c. c) (mapl key xs)
unfolding rising_by mapl
sort_keys key [] = refl
sort_keys key (x ∷ xs) = insert_keys key x (rising_by key xs) ∙ ap (insert_by (λ c. c) (key x)) (sort_keys key xs)

-- keys that rise are a list that rises
pub rises_keys : (key : ℕ → ℕ) (xs : List ℕ) → rises_by (λ c. c) (mapl key xs) ≡ rises_by key xs
unfolding rises_by mapl
rises_keys key [] = refl
rises_keys key (x ∷ xs) = ap₂ (λ (a b : Bool). a && b) (map_all key (λ y. ltb (key x) (key y)) (λ c. ltb (key x) c) xs (λ y m. refl)) (rises_keys key xs)

-- what was inserted, taken out again
pub insert_remove : (key : ℕ → ℕ) (p : ℕ → Bool) (x : ℕ) (xs : List ℕ) → p x ≡ false → filterb p (insert_by key x xs) ≡ filterb p xs
unfolding insert_by filterb
insert_remove key p x [] n = rw n
insert_remove key p x (y ∷ ys) n = go (ltb (key x) (key y)) (insert_remove key p x ys n)
  where
    go : (b : Bool) → filterb p (insert_by key x ys) ≡ filterb p ys → filterb p (cond b (x ∷ y ∷ ys) (y ∷ insert_by key x ys)) ≡ cond (p y) (y ∷ filterb p ys) (filterb p ys)
    go true ih = rw n
    go false ih = ap (λ (l : List ℕ). cond (p y) (y ∷ l) l) ih

all_same : (p q : ℕ → Bool) (xs : List ℕ) → ((v : ℕ) → Memᴰ v xs → p v ≡ q v) → allb p xs ≡ allb q xs
unfolding allb
all_same p q [] h = refl
all_same p q (x ∷ xs) h = ap₂ (λ (a b : Bool). a && b) (h x (Memᴰ.head refl)) (all_same p q xs (λ v m. h v (Memᴰ.tail m)))

-- a list renamed rises if the new keys do
pub rises_map : (key f : ℕ → ℕ) (xs : List ℕ) → rises_by key (mapl f xs) ≡ rises_by (λ v. key (f v)) xs
unfolding rises_by mapl
rises_map key f [] = refl
rises_map key f (x ∷ xs) =
    ap₂ (λ (a b : Bool). a && b) (map_all f (λ y. ltb (key (f x)) (key (f y))) (λ c. ltb (key (f x)) (key c)) xs (λ y m. refl)) (rises_map key f xs)

-- keys that agree
pub rises_ext : (key key' : ℕ → ℕ) (xs : List ℕ) → ((v : ℕ) → Memᴰ v xs → key v ≡ key' v) → rises_by key xs ≡ rises_by key' xs
unfolding rises_by
rises_ext key key' [] h = refl
rises_ext key key' (x ∷ xs) h =
    ap₂ (λ (a b : Bool). a && b)
    (all_same (λ y. ltb (key x) (key y)) (λ y. ltb (key' x) (key' y)) xs (λ y m. ap₂ ltb (h x (Memᴰ.head refl)) (h y (Memᴰ.tail m))))
    (rises_ext key key' xs (λ v m. h v (Memᴰ.tail m)))

-- the numbers below n, sorted: the one list of them whose keys rise
pub sort-range : (key : ℕ → ℕ) (n : ℕ) (ys : List ℕ) → rises_by key ys ≡ true → ((v : ℕ) → memb v ys ≡ ltb v n) → ys ≡ rising_by key (range n)
sort-range key n ys h same =
    sort_only key (range n) ys (distinct-range n) (λ u v mu mv e. rises_one key ys h u v (into u mu) (into v mv) e) h (λ v. same v ∙ sym (memb-range n v))
  where
    into : (v : ℕ) → memb v (range n) ≡ true → memb v ys ≡ true
    into v m = same v ∙ sym (memb-range n v) ∙ m
