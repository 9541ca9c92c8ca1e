-- The next member of the open set's row is the next depot, and an iterator gives them all. Assumes nothing.
use mathlib.Core.Path.{◌≡◌, refl, sym, ap, ap₂, ◌∙◌, subst}
use mathlib.Core.Logic.{◌⊎◌, inl, inr}
use mathlib.Core.Bool.{Bool, true, false}
use mathlib.Core.List.{List, [], ◌∷◌, ◌++◌, Memᴰ}
use Prim.Native.Nat.{ℕ, zero, suc, ◌+◌, ◌*◌, ◌≤◌, ◌<◌, zero-le}
use native.Mathlib.Nat.{eq-or-lt_of_le, lt_irrefl}
use native.Mathlib.Numerals.{add-one}
use native.Mathlib.Omega.{arith}
use lib.Dec.{leb}
use lib.Seq.{append_snoc}
use borrow.Author.Tests.{le-leb, lt-leb, leb-true}
use Rattle.std.proofs.lemmas.Bool.{cases_Bool, cases_lt}
use Rattle.lists.specs.Lists.{from, range, filterb}
use Rattle.lists.proofs.Tests.{clash, true→t}
use Rattle.lists.proofs.Members.{filter-all, filter-ext, filter_none, filter_out, from_out, range_out}
use Rattle.graph.specs.Network.{Network}
use Rattle.graph.specs.Distance.{vertices}
use Rattle.rows.specs.Rows.{row_bit}
use Rattle.std.specs.Prelude.{Option, Some, None}
use Rattle.rows.specs.Next.{NextIs}
use Rattle.map.specs.Memory.{network_of}
use Rattle.map.specs.Depots.{depots_from, IsNextOpen, NextOpen}

-- ---- the numbers from i on that pass a test p: v is the first of those at or past start

module _ (p : ℕ → Bool) (start v : ℕ) (here : p v ≡ true) (after : start ≤ v) (between : (j : ℕ) → start ≤ j → j < v → p j ≡ false) where
  -- a number below v is before start, or fails
  before : (i : ℕ) → i < v → p i ≡ true → leb start i ≡ false
  before i l t = go (cases_lt i start)
    where
      go : (i < start) ⊎ (start ≤ i) → leb start i ≡ false
      go (inl s) = lt-leb start i s
      go (inr s) = absurd (clash t (between i s l))

  first_of : (i k : ℕ) → i ≤ v → v < i + k → filterb (λ u. leb start u) (filterb p (from i k)) ≡ v ∷ filterb (λ u. leb (suc v) u) (filterb p (from i k))
  unfolding filterb from
  first_of i zero l m = absurd (lt_irrefl v (omega arith))
  first_of i (suc k) l m = go (eq-or-lt_of_le l) (λ s. first_of (suc i) k s (omega arith))
    where
      rest : List ℕ
      rest = filterb p (from (suc i) k)

      past : i ≡ v → (x : ℕ) → Memᴰ x rest → leb start x ≡ leb (suc v) x
      past e x n =
          let r : (suc i ≤ x) × (x < suc i + k) = from_out (suc i) k (filter_out p (from (suc i) k) n).0 in
          le-leb start x (omega arith) ∙ sym (le-leb (suc v) x (omega arith))

      go : (i ≡ v) ⊎ (i < v) → (suc i ≤ v → filterb (λ u. leb start u) rest ≡ v ∷ filterb (λ u. leb (suc v) u) rest)
          → filterb (λ u. leb start u) (filterb p (from i (suc k))) ≡ v ∷ filterb (λ u. leb (suc v) u) (filterb p (from i (suc k)))
      go (inl e) ih =
          rw (ap p e ∙ here, le-leb start i (omega arith), lt-leb (suc v) i (omega arith))
          (ap₂ (λ (x : ℕ) (l : List ℕ). x ∷ l) e (filter-ext (λ u. leb start u) (λ u. leb (suc v) u) rest (past e)))
      go (inr s) ih = tested (cases_Bool (p i))
        where
          tested : (p i ≡ true) ⊎ (p i ≡ false) → filterb (λ u. leb start u) (filterb p (from i (suc k))) ≡ v ∷ filterb (λ u. leb (suc v) u) (filterb p (from i (suc k)))
          tested (inl t) = rw (t, before i s t, lt-leb (suc v) i (omega arith)) (ih s)
          tested (inr f) = rw f (ih s)

-- no number at or past start passes
none_of : (p : ℕ → Bool) (start : ℕ) → ((j : ℕ) → start ≤ j → p j ≡ false) → (xs : List ℕ) → filterb (λ u. leb start u) (filterb p xs) ≡ []
none_of p start h xs =
    filter-ext (λ u. leb start u) (λ u. false) (filterb p xs) fails ∙ filter_none (filterb p xs)
  where
    fails : (x : ℕ) → Memᴰ x (filterb p xs) → leb start x ≡ false
    fails x m = go (cases_Bool (leb start x))
      where
        go : (leb start x ≡ true) ⊎ (leb start x ≡ false) → leb start x ≡ false
        go (inl t) = absurd (clash (filter_out p xs m).1 (h x (leb-true start x t)))
        go (inr f) = f

-- ---- the row's answer is the network's

pub next_depot : (W : ℕ) (members links : List ℕ) (start : ℕ) (r : Option ℕ) → NextIs W members start r → NextOpen (network_of W members links) start r
unfolding network_of depots_from range
next_depot W members links start (Some v) n = record {
  after = n.after;
  is_open = true→t n.here;
  first = first_of (row_bit W members) start v n.here n.after n.first 0 (64 * W) (omega arith) (omega (arith, n.inside));
}
next_depot W members links start None n = none_of (row_bit W members) start n (range (64 * W))

-- ---- the iterator

-- all depots are those from 0 on
pub depots_all : (G : Network) → depots_from G 0 ≡ vertices G
unfolding depots_from
depots_all G = filter-all (λ v. leb 0 v) (vertices G) (λ v m. le-leb 0 v zero-le)

-- one is given: those behind it are left
pub depot_taken : (G : Network) (start v : ℕ) → IsNextOpen G start v → depots_from G start ≡ v ∷ depots_from G (v + 1)
depot_taken G start v n = n.first ∙ ap (λ (k : ℕ). v ∷ depots_from G k) (sym (add-one v))

-- ---- a loop over the iterator: those that it gave, with those that are left, are all

in_middle : (ys : List ℕ) (v : ℕ) (rest : List ℕ) → Memᴰ v (ys ++ v ∷ rest)
in_middle [] v rest = Memᴰ.head refl
in_middle (y ∷ ys) v rest = Memᴰ.tail (in_middle ys v rest)

module _ (ys left : List ℕ) {rest all : List ℕ} {v : ℕ} (parts : ys ++ left ≡ all) (next : left ≡ v ∷ rest) where
  pub depot_more : (ys ++ v ∷ []) ++ rest ≡ all
  depot_more = append_snoc ys v rest ∙ ap (λ (l : List ℕ). ys ++ l) (sym next) ∙ parts

  pub depot_in : Memᴰ v all
  depot_in = subst (Memᴰ v) (ap (λ (l : List ℕ). ys ++ l) (sym next) ∙ parts) (in_middle ys v rest)

-- a depot's code is a place
pub depot_below : (W : ℕ) (members links : List ℕ) {v : ℕ} → Memᴰ v (vertices (network_of W members links)) → v < 64 * W
unfolding network_of
depot_below W members links m = range_out (64 * W) (filter_out (row_bit W members) (range (64 * W)) m).0
