-- THE NETWORK REPORT, by the published words: what `distance_sum`, `pair_number` and `ecc_count` are. Assumes nothing.
use mathlib.Core.Path.{◌≡◌, refl, sym, ap, ◌∙◌}
use mathlib.Core.Logic.{◌⊎◌, inl, inr}
use mathlib.Core.Bool.{true, false, not, ◌||◌}
use mathlib.Core.List.{List, [], ◌∷◌, Memᴰ}
use Prim.Native.Nat.{ℕ, zero, suc, ◌+◌, ◌-◌, ◌*◌, ◌/◌, ◌%◌, ◌≤◌, ◌<◌}
use native.Mathlib.Nat.{le_trans, le_of_eq, le_antisymm, mul_comm, mul-add, suc-mul, div-add-mod', mod-lt}
use native.Mathlib.Omega.{arith}
use lib.Dec.{eqb, ltb}
use lib.ListN.{length}
use borrow.Author.Tests.{ltb-true, lt-ltb, le-ltb, eq-eqb, ne_eqb}
use Rattle.std.proofs.lemmas.Bool.{cases_lt}
use Rattle.lists.specs.Lists.{range, filterb, countb, sum_of, distinct}
use Rattle.lists.proofs.Tests.{true→t}
use Rattle.lists.proofs.Members.{filter_out, in_memb, range_out}
use Rattle.lists.proofs.Counts.{count_ext, length_count, sum_ext, count_one_lem}
use Rattle.lists.proofs.Distinct.{distinct_filter, count_member}
use Rattle.lists.proofs.Sums.{weight, count_sum, sum_le, sum_length, count-not, sum-swap, sum_either}
use Rattle.graph.specs.Network.{Network, delivers}
use Rattle.graph.specs.Distance.{vertices, dist}
use Rattle.graph.specs.Chart.{chart, destinations, ecc, count_pairs}
use Rattle.graph.specs.Correct.{IsNet}
use Rattle.graph.specs.Summary.{distance_sum, pair_number, ecc_count, listed_by, IsSummary}
use Rattle.graph.proofs.Delivers.{delivers_open}
use Rattle.graph.proofs.Theorems.{distance_is, distance_below, eccentricity_is}
use Rattle.graph.proofs.SoundFigures.{ecc_below}

-- ---- sums over a list's members. General laws: they stand here so that nothing else is proved again

module _ (xs : List ℕ) where
  pub sum_alike : (f g : ℕ → ℕ) → ((x : ℕ) → Memᴰ x xs → f x ≡ g x) → sum_of f xs ≡ sum_of g xs
  sum_alike f g h = le_antisymm (sum_le f g xs (λ x m. le_of_eq (h x m))) (sum_le g f xs (λ x m. le_of_eq (sym (h x m))))

sum_scale : (b : ℕ) (f : ℕ → ℕ) (xs : List ℕ) → sum_of (λ x. b * f x) xs ≡ b * sum_of f xs
unfolding sum_of
sum_scale b f [] = omega arith
sum_scale b f (x ∷ xs) = ap (λ (n : ℕ). b * f x + n) (sum_scale b f xs) ∙ sym (mul-add b (f x) (sum_of f xs))

-- so many equal numbers
sum_equal : (b : ℕ) (xs : List ℕ) → sum_of (λ x. b) xs ≡ length xs * b
unfolding sum_of
sum_equal b [] = omega (arith, mul_comm 0 b)
sum_equal b (x ∷ xs) = ap (λ (n : ℕ). b + n) (sum_equal b xs) ∙ omega (arith, suc-mul (length xs) b)

pub sum_most : (f : ℕ → ℕ) (b : ℕ) (xs : List ℕ) → ((x : ℕ) → Memᴰ x xs → f x ≤ b) → sum_of f xs ≤ b * length xs
sum_most f b xs h = le_trans (sum_le f (λ x. b) xs h) (le_of_eq (sum_equal b xs ∙ mul_comm (length xs) b))

-- ---- the pairs of a list without repeats: each two of its members, once

differ : (u v : ℕ) → (ltb u v || ltb v u) ≡ not (eqb v u)
differ u v = go (cases_lt u v) (cases_lt v u)
  where
    go : (u < v) ⊎ (v ≤ u) → (v < u) ⊎ (u ≤ v) → (ltb u v || ltb v u) ≡ not (eqb v u)
    go (inl a) b = rw (lt-ltb u v a, ne_eqb v u (λ e. omega arith))
    go (inr a) (inl b) = rw (le-ltb u v a, lt-ltb v u b, ne_eqb v u (λ e. omega arith))
    go (inr a) (inr b) = rw (le-ltb u v a, le-ltb v u b, eq-eqb v u (omega arith))

one_way : (u v : ℕ) → ltb u v ≡ true → ltb v u ≡ false
one_way u v t = let l : u < v = ltb-true u v t in le-ltb v u (omega arith)

pub pairs_twice : (xs : List ℕ) → distinct xs ≡ true → 2 * count_pairs xs ltb ≡ length xs * (length xs - 1)
unfolding count_pairs
pairs_twice xs d =
    let e : sum_of (λ u. countb (λ v. ltb u v || ltb v u) xs) xs ≡ length xs * (length xs - 1) =
    sum_alike xs (λ u. countb (λ v. ltb u v || ltb v u) xs) (λ u. length xs - 1) others ∙ sum_equal (length xs - 1) xs in
    omega (arith, e, sum_either ltb xs one_way)
  where
    others : (u : ℕ) → Memᴰ u xs → countb (λ v. ltb u v || ltb v u) xs ≡ length xs - 1
    others u m =
        omega (arith, count_ext (λ v. ltb u v || ltb v u) (λ v. not (eqb v u)) xs (λ v n. differ u v), count-not (λ v. eqb v u) xs, count_member u xs d (in_memb u xs m))

-- two members or more are a pair or more
pub pairs_some : (xs : List ℕ) → distinct xs ≡ true → 1 < length xs → 0 < count_pairs xs ltb
pairs_some xs d l = go (cases_lt 0 (count_pairs xs ltb))
  where
    go : (0 < count_pairs xs ltb) ⊎ (count_pairs xs ltb ≤ 0) → 0 < count_pairs xs ltb
    go (inl p) = p
    go (inr p) = absurd (some (length xs) l (omega (arith, pairs_twice xs d)))
      where
        some : (n : ℕ) → 1 < n → n * (n - 1) ≡ 0 → ⊥
        some zero m z = elim m [ ]
        some (suc n) m z = omega (arith, suc-mul n (suc n - 1), z)

-- the values of a function on the pairs, at most b each
pub pairs_bound : (d : ℕ → ℕ → ℕ) (b : ℕ) (xs : List ℕ) → ((u v : ℕ) → Memᴰ u xs → Memᴰ v xs → d u v ≤ b)
    → sum_of (λ u. sum_of (d u) (filterb (λ v. ltb u v) xs)) xs ≤ b * count_pairs xs ltb
unfolding count_pairs
pairs_bound d b xs h =
    le_trans
    (sum_le (λ u. sum_of (d u) (filterb (λ v. ltb u v) xs)) (λ u. b * countb (λ v. ltb u v) xs) xs row)
    (le_of_eq (sum_scale b (λ u. countb (λ v. ltb u v) xs) xs))
  where
    row : (u : ℕ) → Memᴰ u xs → sum_of (d u) (filterb (λ v. ltb u v) xs) ≤ b * countb (λ v. ltb u v) xs
    row u m =
        le_trans
        (sum_most (d u) b (filterb (λ v. ltb u v) xs) (λ v n. h u v m (filter_out (λ v. ltb u v) xs n).0))
        (le_of_eq (ap (λ (n : ℕ). b * n) (length_count (λ v. ltb u v) xs)))

-- ---- numbers below a limit, counted one by one

pub counts_whole : (f : ℕ → ℕ) (limit : ℕ) (xs : List ℕ) → ((x : ℕ) → Memᴰ x xs → f x < limit)
    → sum_of (λ e. countb (λ x. eqb e (f x)) xs) (range limit) ≡ length xs
counts_whole f limit xs h =
    sum_ext (λ e. countb (λ x. eqb e (f x)) xs) (λ e. sum_of (λ x. weight (eqb e (f x))) xs) (range limit) (λ e. count_sum (λ x. eqb e (f x)) xs)
    ∙ sum-swap (λ e x. weight (eqb e (f x))) (range limit) xs
    ∙ sum_alike xs (λ x. sum_of (λ e. weight (eqb e (f x))) (range limit)) (λ x. 1)
    (λ x m. sym (count_sum (λ e. eqb e (f x)) (range limit)) ∙ count_one_lem limit (f x) (h x m))
    ∙ sum_length xs

-- ---- THE REPORT

module _ (G : Network) (net : IsNet G) where
  destination_is : (u : ℕ) → Memᴰ u (listed_by (delivers G) G) → delivers G u ≡ true
  destination_is u m = (filter_out (delivers G) (vertices G) m).1

  once : distinct (listed_by (delivers G) G) ≡ true
  once = distinct_filter (delivers G) (vertices G) net.sound.once

  -- no distance is above b, where there are at most b + 1 depots, so that the sum is at most b for each pair
  pub sum_bound : (b : ℕ) → length (vertices G) ≤ suc b → distance_sum (chart G) ≤ b * pair_number (chart G)
  unfolding distance_sum pair_number destinations chart
  sum_bound b l = pairs_bound (dist G) b (listed_by (delivers G) G) far
    where
      far : (u v : ℕ) → Memᴰ u (listed_by (delivers G) G) → Memᴰ v (listed_by (delivers G) G) → dist G u v ≤ b
      far u v mu mv =
          let ou = delivers_open G u (true→t (destination_is u mu)) in
          let ov = delivers_open G v (true→t (destination_is v mv)) in
          omega (arith, distance_below G net u v (dist G u v) ou (distance_is G net u v ou ov), l)

  -- two destinations or more are a pair or more
  pub pairs_positive : 1 < countb (delivers G) (vertices G) → 0 < pair_number (chart G)
  unfolding pair_number destinations chart
  pairs_positive two = pairs_some (listed_by (delivers G) G) once (omega (arith, length_count (delivers G) (vertices G), two))

  pub summary_is : (limit : ℕ) (counts : ℕ → ℕ) → length (vertices G) ≤ limit → 1 < countb (delivers G) (vertices G)
      → ((e : ℕ) → e < limit → counts e ≡ ecc_count (chart G) e)
      → IsSummary G (delivers G) limit (distance_sum (chart G)) (pair_number (chart G))
      (distance_sum (chart G) / pair_number (chart G)) (distance_sum (chart G) % pair_number (chart G)) counts
  unfolding distance_sum pair_number ecc_count destinations chart
  summary_is limit counts most two same = record {
    distance = dist G;
    is_dist = λ u v tu tv. distance_is G net u v (delivers_open G u tu) (delivers_open G v tv);
    is_sum = refl;
    are_pairs = refl;
    twice = pairs_twice (listed_by (delivers G) G) once;
    mean = sym (div-add-mod' (distance_sum (chart G)) (pair_number (chart G)));
    part = mod-lt (distance_sum (chart G)) (pairs_positive two);
    eccentricity = ecc (chart G);
    is_ecc = λ u tu. eccentricity_is G net u (delivers_open G u tu);
    counted = same;
    whole =
        sum_alike (range limit) counts (λ e. countb (λ u. eqb e (ecc (chart G) u)) (listed_by (delivers G) G)) (λ e m. same e (range_out limit m))
        ∙ counts_whole (ecc (chart G)) limit (listed_by (delivers G) G) low;
  }
    where
      low : (u : ℕ) → Memᴰ u (listed_by (delivers G) G) → ecc (chart G) u < limit
      low u m = omega (arith, ecc_below G net u (destination_is u m), most)
