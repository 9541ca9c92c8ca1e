-- The number of pairs of a set: one pair more, no pairs, and how many there can be. Assumes nothing.
use mathlib.Core.Path.{◌≡◌, refl, ap, ◌∙◌}
use mathlib.Core.Logic.{◌≢◌}
use mathlib.Core.Bool.{Bool, true, false, ◌&&◌, ◌||◌}
use Prim.Native.Nat.{ℕ, ◌+◌, ◌*◌, ◌≤◌, ◌<◌}
use native.Mathlib.Omega.{arith}
use lib.Dec.{eqb}
use borrow.Author.Tests.{eq-eqb, ne_eqb}
use Rattle.lists.specs.Lists.{range, countb}
use Rattle.lists.proofs.Members.{length-range, range_in, range_out}
use Rattle.lists.proofs.Counts.{count_le_length, count_none, count-zero}
use Rattle.lists.proofs.RangeCounts.{count_same, count_with_new}
use Rattle.graph.specs.Chart.{Pairs, count_pairs}
use Rattle.lists.proofs.Ranges.{sum_nothing, sum_same, sum_but, sum_few, sum_has, sum_skip, count_block}

module _ (n : ℕ) where
  pub pairs_same : (P Q : Pairs) → ((u v : ℕ) → u < n → v < n → P u v ≡ Q u v) → count_pairs (range n) P ≡ count_pairs (range n) Q
  unfolding count_pairs
  pairs_same P Q h = sum_same (λ u. countb (λ v. P u v) (range n)) (λ u. countb (λ v. Q u v) (range n)) n (λ u l. count_same n (λ v. P u v) (λ v. Q u v) (λ v m. h u v l m))

  -- a pair that was not there
  pub pairs_with_new : (P : Pairs) (a b : ℕ) → a < n → b < n → P a b ≡ false → count_pairs (range n) (λ u v. P u v || (eqb u a && eqb v b)) ≡ count_pairs (range n) P + 1
  unfolding count_pairs
  pairs_with_new P a b l m e =
      omega (
        arith,
        sum_but (λ u. countb (λ v. Q u v) (range n)) (λ u. countb (λ v. P u v) (range n)) n a l (λ u k ne. count_same n (λ v. Q u v) (λ v. P u v) (λ v k. other u v ne)),
        count_same n (λ v. Q a v) (λ v. eqb v b || P a v) (λ v k. here v),
        count_with_new n (λ v. P a v) b m e,
      )
    where
      Q : Pairs
      Q u v = P u v || (eqb u a && eqb v b)

      swap : (x y : Bool) → (x || y) ≡ (y || x)
      swap true true = refl
      swap true false = refl
      swap false true = refl
      swap false false = refl

      here : (v : ℕ) → Q a v ≡ (eqb v b || P a v)
      here v = ap (λ (x : Bool). P a v || (x && eqb v b)) (eq-eqb a a refl) ∙ swap (P a v) (eqb v b)

      none : (x : Bool) → (x || false) ≡ x
      none true = refl
      none false = refl

      other : (u v : ℕ) → u ≢ a → Q u v ≡ P u v
      other u v ne = ap (λ (x : Bool). P u v || (x && eqb v b)) (ne_eqb u a ne) ∙ none (P u v)

  -- the members of a part of row a, k numbers from m on: as many more as were not there
  pub pairs_with_part : (P : Pairs) (Q : Pairs) (a m k : ℕ) → a < n → m + k ≤ n
      → ((u v : ℕ) → u < n → v < n → (u ≡ a → m ≤ v → v < m + k → ⊥) → Q u v ≡ P u v)
      → count_pairs (range n) Q + countb (λ b. P a (m + b)) (range k) ≡ count_pairs (range n) P + countb (λ b. Q a (m + b)) (range k)
  unfolding count_pairs
  pairs_with_part P Q a m k l f h =
      omega (
        arith,
        sum_but (λ u. countb (λ v. Q u v) (range n)) (λ u. countb (λ v. P u v) (range n)) n a l
            (λ u b ne. count_same n (λ v. Q u v) (λ v. P u v) (λ v c. h u v b c (λ e x y. ne e))),
        count_block n m k (λ v. Q a v) (λ v. P a v) f (λ v c o. h a v l c (λ e x y. o x y)),
      )

  -- at most one for each row and column
  pub pairs_few : (P : Pairs) → count_pairs (range n) P ≤ n * n
  unfolding count_pairs
  pairs_few P = sum_few (λ u. countb (λ v. P u v) (range n)) n n (λ u l. omega (arith, count_le_length (λ v. P u v) (range n), length-range n))

  -- NO PAIRS: a count of 0 says so
  pub pairs_none : (P : Pairs) → ((u v : ℕ) → u < n → v < n → P u v ≡ false) → count_pairs (range n) P ≡ 0
  unfolding count_pairs
  pairs_none P h =
      sum_skip (λ u. countb (λ v. P u v) (range n)) 0 n (omega arith)
      (λ u a l. count_none (λ v. P u v) (range n) (λ v m. h u v l (range_out n m)))
      ∙ sum_nothing (λ u. countb (λ v. P u v) (range n))

  pub pairs_zero : (P : Pairs) → count_pairs (range n) P ≡ 0 → (u v : ℕ) → u < n → v < n → P u v ≡ false
  unfolding count_pairs
  pairs_zero P e u v l m =
      let row : countb (λ v. P u v) (range n) ≡ 0 = omega (arith, sum_has (λ u. countb (λ v. P u v) (range n)) n u l, e) in
      count-zero (λ v. P u v) (range n) row (range_in n m)
