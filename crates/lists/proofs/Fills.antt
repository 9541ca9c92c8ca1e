-- A loop that stores one element a turn: after j turns the first j places hold f, and the others are as they were.
-- `overwrite (mapl f (range j)) l` says so; the same form is the contract when j is the whole. Assumes nothing.
use mathlib.Core.Path.{◌≡◌, refl, sym, ap, ap₂, ◌∙◌, subst}
use mathlib.Core.List.{List, [], ◌∷◌, ◌++◌}
use Prim.Native.Nat.{ℕ, zero, suc, ◌+◌, ◌-◌, ◌≤◌, ◌<◌}
use native.Mathlib.Nat.{add-zero, lt_irrefl}
use native.Mathlib.Numerals.{add-one}
use native.Mathlib.Omega.{arith}
use lib.ListN.{length, get_or, set, take, drop, length-append, length-drop, get_or-append}
use lib.Seq.{drop-cons, drop-drop, set_at, get_or-append-add, get_or-drop, take_at, drop-append-add, append_snoc}
use Rattle.lists.specs.Lists.{from, range, mapl, overwrite}
use Rattle.lists.proofs.Members.{length-range}

module _ {ℓ} {A : Type ℓ} where
  -- ---- the values of a function at 0, 1, .., n - 1

  pub length_mapl : (f : ℕ → A) (xs : List ℕ) → length (mapl f xs) ≡ length xs
  unfolding mapl
  length_mapl f [] = refl
  length_mapl f (x ∷ xs) = ap suc (length_mapl f xs)

  pub length_fill : (f : ℕ → A) (n : ℕ) → length (mapl f (range n)) ≡ n
  length_fill f n = length_mapl f (range n) ∙ length-range n

  get_d_from : (f : ℕ → A) (i k j : ℕ) (x : A) → j < k → get_or (mapl f (from i k)) j x ≡ f (i + j)
  unfolding mapl from
  get_d_from f i zero j x h = absurd (lt_irrefl j (omega arith))
  get_d_from f i (suc k) zero x h = ap f (sym (add-zero i))
  get_d_from f i (suc k) (suc j) x h = get_d_from f (suc i) k j x (omega arith) ∙ ap f (omega arith)

  pub get_d_range : (f : ℕ → A) (n j : ℕ) (x : A) → j < n → get_or (mapl f (range n)) j x ≡ f j
  unfolding range
  get_d_range f n j x h = get_d_from f 0 n j x h ∙ ap f (omega arith)

  mapl_from_ext : (f g : ℕ → A) (i k : ℕ) → ((v : ℕ) → i ≤ v → v < i + k → f v ≡ g v) → mapl f (from i k) ≡ mapl g (from i k)
  unfolding mapl from
  mapl_from_ext f g i zero h = refl
  mapl_from_ext f g i (suc k) h = ap₂ (λ (x : A) (r : List A). x ∷ r) (h i (omega arith) (omega arith)) (mapl_from_ext f g (suc i) k (λ v l m. h v (omega arith) (omega arith)))

  pub fill_ext : (f g : ℕ → A) (n : ℕ) → ((v : ℕ) → v < n → f v ≡ g v) → mapl f (range n) ≡ mapl g (range n)
  unfolding range
  fill_ext f g n h = mapl_from_ext f g 0 n (λ v l m. h v (omega arith))

  mapl_from_snoc : (f : ℕ → A) (i k : ℕ) → mapl f (from i (suc k)) ≡ mapl f (from i k) ++ (f (i + k) ∷ [])
  unfolding mapl from
  mapl_from_snoc f i zero = ap (λ (n : ℕ). f n ∷ []) (sym (add-zero i))
  mapl_from_snoc f i (suc k) =
      ap (λ (r : List A). f i ∷ r) (mapl_from_snoc f (suc i) k)
      ∙ ap (λ (n : ℕ). f i ∷ (mapl f (from (suc i) k) ++ (f n ∷ []))) (omega arith)

  pub fill_snoc : (f : ℕ → A) (n : ℕ) → mapl f (range (n + 1)) ≡ mapl f (range n) ++ (f n ∷ [])
  unfolding range
  fill_snoc f n = ap (λ (k : ℕ). mapl f (from 0 k)) (add-one n) ∙ mapl_from_snoc f 0 n ∙ ap (λ (k : ℕ). mapl f (from 0 n) ++ (f k ∷ [])) (omega arith)

  -- ---- over the first part of a buffer

  pub overwrite_length : (new old : List A) → length new ≤ length old → length (overwrite new old) ≡ length old
  unfolding overwrite
  overwrite_length new old h = simp (length-append, length-drop) (omega arith)

  -- what is written is read; the rest is as it was
  pub overwrite_new : (new old : List A) (k : ℕ) (x : A) → k < length new → get_or (overwrite new old) k x ≡ get_or new k x
  unfolding overwrite
  overwrite_new new old k x h = get_or-append new (drop (length new) old) x k h

  pub overwrite_old : (new old : List A) (k : ℕ) (x : A) → length new ≤ k → get_or (overwrite new old) k x ≡ get_or old k x
  unfolding overwrite
  overwrite_old new old k x h =
      let e : k ≡ length new + (k - length new) = omega arith in
      ap (λ (i : ℕ). get_or (new ++ drop (length new) old) i x) e
      ∙ get_or-append-add new (drop (length new) old) (k - length new) x
      ∙ get_or-drop (length new) old (k - length new) x
      ∙ ap (λ (i : ℕ). get_or old i x) (sym e)

  pub overwrite_take : (new old : List A) → take (length new) (overwrite new old) ≡ new
  unfolding overwrite
  overwrite_take new old = take_at new (drop (length new) old) (length new) refl

  -- a second write over the first one's place
  pub overwrite_twice : (new mid old : List A) → length mid ≤ length new → overwrite new (overwrite mid old) ≡ overwrite new old
  unfolding overwrite
  overwrite_twice new mid old h =
      let e : length new ≡ length mid + (length new - length mid) = omega arith in
      ap (λ (l : List A). new ++ l)
      (ap (λ (n : ℕ). drop n (mid ++ drop (length mid) old)) e
      ∙ drop-append-add mid (drop (length mid) old) (length new - length mid)
      ∙ drop-drop (length new - length mid) (length mid) old
      ∙ ap (λ (n : ℕ). drop n old) (sym e))

  -- ---- the loop: its start, its turn, and what it reads

  pub fill_none : (f : ℕ → A) (l : List A) → overwrite (mapl f (range 0)) l ≡ l
  unfolding overwrite mapl range
  fill_none f l = refl

  pub fill_more : (f : ℕ → A) (l : List A) (j : ℕ) → j < length l → set (overwrite (mapl f (range j)) l) j (f j) ≡ overwrite (mapl f (range (j + 1))) l
  unfolding overwrite
  fill_more f l j h =
      let n : length (mapl f (range j)) ≡ j = length_fill f j in
      let n⁺ : length (mapl f (range (j + 1))) ≡ suc j = length_fill f (j + 1) ∙ add-one j in
      ap (λ (k : ℕ). set (mapl f (range j) ++ drop k l) j (f j)) n
      ∙ ap (λ (r : List A). set (mapl f (range j) ++ r) j (f j)) (drop-cons l j (f j) h)
      ∙ set_at (mapl f (range j)) (get_or l j (f j)) (drop (suc j) l) (f j) j n
      ∙ sym (append_snoc (mapl f (range j)) (f j) (drop (suc j) l))
      ∙ sym (ap₂ (λ (r : List A) (k : ℕ). r ++ drop k l) (fill_snoc f j) n⁺)

  pub fill_at : (f : ℕ → A) (l : List A) (j k : ℕ) (x : A) → k < j → get_or (overwrite (mapl f (range j)) l) k x ≡ f k
  fill_at f l j k x h = overwrite_new (mapl f (range j)) l k x (subst (λ (n : ℕ). k < n) (sym (length_fill f j)) h) ∙ get_d_range f j k x h

  pub fill_rest : (f : ℕ → A) (l : List A) (j k : ℕ) (x : A) → j ≤ k → get_or (overwrite (mapl f (range j)) l) k x ≡ get_or l k x
  fill_rest f l j k x h = overwrite_old (mapl f (range j)) l k x (subst (λ (n : ℕ). n ≤ k) (sym (length_fill f j)) h)

  pub fill_length : (f : ℕ → A) (l : List A) (j : ℕ) → j ≤ length l → length (overwrite (mapl f (range j)) l) ≡ length l
  fill_length f l j h = overwrite_length (mapl f (range j)) l (subst (λ (n : ℕ). n ≤ length l) (sym (length_fill f j)) h)
