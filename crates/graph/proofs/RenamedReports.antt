-- NEARBY DEPOTS AND REPORTS OF THE SAME NETWORK UNDER OTHER NAMES. Assumes nothing.
use mathlib.Core.Path.{◌≡◌, refl, ap, ap₂, ◌∙◌}
use mathlib.Core.Logic.{◌⊎◌, inl, inr, ◌≢◌}
use mathlib.Core.Bool.{Bool, true, false, cond, ◌&&◌, ◌||◌}
use mathlib.Core.List.{List, [], ◌∷◌, Memᴰ}
use Prim.Native.Nat.{ℕ, ◌+◌, ◌*◌, ◌-◌, ◌≤◌, ◌<◌}
use native.Mathlib.Omega.{arith}
use lib.Dec.{T, eqb, ltb, leb}
use lib.ListN.{length}
use borrow.Author.Tests.{lt-ltb, le-ltb}
use Rattle.std.proofs.lemmas.Bool.{cases_lt, cases_eq}
use Rattle.lists.specs.Lists.{filterb, countb, sum_of, mapl}
use Rattle.lists.proofs.Members.{filter_out}
use Rattle.lists.proofs.Counts.{sum_filter, sum_ext}
use Rattle.lists.proofs.Sums.{sum_add, sum-swap}
use Rattle.lists.proofs.Distinct.{distinct_filter}
use Rattle.lists.proofs.Fills.{length_mapl}
use Rattle.lists.proofs.Renamed.{map_filter, map_count, map_sum}
use Rattle.graph.specs.Network.{Network, IsSound, delivers}
use Rattle.graph.specs.Distance.{vertices, dist}
use Rattle.graph.specs.Chart.{Chart, chart, destinations, ecc}
use Rattle.graph.specs.Nearby.{within_list, nearer_of, nearest_from}
use Rattle.graph.specs.Summary.{distance_sum, pair_number, ecc_count}
use Rattle.graph.specs.Correct.{IsNet}
use Rattle.graph.specs.Renaming.{IsRelabelled}
use Rattle.graph.specs.RenamedReports.{nearer_by, nearest_from_by, HaveSameReports}
use Rattle.graph.proofs.Distances.{vertices_out}
use Rattle.graph.proofs.Metric.{IsMetric}
use Rattle.graph.proofs.Charts.{chart_metric}
use Rattle.graph.proofs.Summary.{sum_alike, pairs_twice}
use Rattle.graph.proofs.Renamed.{IsRenamed, destinations_renamed, in_destinations, ecc_renamed}
use Rattle.graph.proofs.Relabelled.{dist_renamed, chart_renamed, renamed_net}

-- ---- sums over pairs, each pair at its lower end: half of the sum over both orders

module _ (d : ℕ → ℕ → ℕ) (xs : List ℕ) (symmetric : (u v : ℕ) → Memᴰ u xs → Memᴰ v xs → d u v ≡ d v u) (self : (u : ℕ) → Memᴰ u xs → d u u ≡ 0) where
  rising : ℕ → ℕ → ℕ
  rising u v = cond (ltb u v) (d u v) 0

  row : (u : ℕ) → sum_of (d u) (filterb (λ v. ltb u v) xs) ≡ sum_of (rising u) xs
  unfolding rising
  row u =
      sum_alike (filterb (λ v. ltb u v) xs) (d u) (rising u) (λ v m. rw (filter_out (λ w. ltb u w) xs m).1 refl)
      ∙ sum_filter (λ v. ltb u v) (rising u) xs (λ v f. rw f refl)

  both : (u v : ℕ) → Memᴰ u xs → Memᴰ v xs → d u v ≡ rising u v + rising v u
  unfolding rising
  both u v mu mv = go (cases_lt u v) (cases_eq u v)
    where
      go : (u < v) ⊎ (v ≤ u) → (u ≡ v) ⊎ (u ≢ v) → d u v ≡ cond (ltb u v) (d u v) 0 + cond (ltb v u) (d v u) 0
      go (inl l) o = rw (lt-ltb u v l, le-ltb v u (omega (arith, l))) (omega arith)
      go (inr g) (inl e) = rw (le-ltb u v g, le-ltb v u (omega (arith, e))) (rw (← e) (self u mu))
      go (inr g) (inr n) = rw (le-ltb u v g, lt-ltb v u (omega (arith, g, n))) (omega (arith, symmetric u v mu mv))

  halves : sum_of (λ u. sum_of (d u) xs) xs
      ≡ sum_of (λ u. sum_of (d u) (filterb (λ v. ltb u v) xs)) xs + sum_of (λ u. sum_of (d u) (filterb (λ v. ltb u v) xs)) xs
  halves =
      let X = sum_of (λ u. sum_of (rising u) xs) xs in
      let a : sum_of (λ u. sum_of (d u) xs) xs ≡ sum_of (λ u. sum_of (λ v. rising u v + rising v u) xs) xs =
      sum_alike xs (λ u. sum_of (d u) xs) (λ u. sum_of (λ v. rising u v + rising v u) xs) (λ u mu. sum_alike xs (d u) (λ v. rising u v + rising v u) (λ v mv. both u v mu mv)) in
      let b : sum_of (λ u. sum_of (λ v. rising u v + rising v u) xs) xs ≡ sum_of (λ u. sum_of (rising u) xs + sum_of (λ v. rising v u) xs) xs =
      sum_ext (λ u. sum_of (λ v. rising u v + rising v u) xs) (λ u. sum_of (rising u) xs + sum_of (λ v. rising v u) xs) xs (λ u. sum_add (rising u) (λ v. rising v u) xs) in
      let c : sum_of (λ u. sum_of (rising u) xs + sum_of (λ v. rising v u) xs) xs ≡ X + sum_of (λ u. sum_of (λ v. rising v u) xs) xs =
      sum_add (λ u. sum_of (rising u) xs) (λ u. sum_of (λ v. rising v u) xs) xs in
      let e : sum_of (λ u. sum_of (λ v. rising v u) xs) xs ≡ X = sum-swap (λ u v. rising v u) xs xs in
      let h : sum_of (λ u. sum_of (d u) (filterb (λ v. ltb u v) xs)) xs ≡ X =
      sum_ext (λ u. sum_of (d u) (filterb (λ v. ltb u v) xs)) (λ u. sum_of (rising u) xs) xs row in
      omega (arith, a, b, c, e, h)

-- ---- over charts

module _ (C D : Chart) (metric : IsMetric C) (metric' : IsMetric D) (f : ℕ → ℕ) (re : IsRenamed C D f) where
  whole : (E : Chart) → IsMetric E → sum_of (λ u. sum_of (E.distance u) (destinations E)) (destinations E) ≡ distance_sum E + distance_sum E
  unfolding distance_sum destinations
  whole E m =
      halves E.distance (destinations E) (λ u v mu mv. m.symmetric u v (inside mu) (inside mv)) (λ u mu. m.self u (inside mu))
    where
      inside : {v : ℕ} → Memᴰ v (filterb E.is_destination E.depots) → Memᴰ v E.depots
      inside n = (filter_out E.is_destination E.depots n).0

  sums_renamed : distance_sum D ≡ distance_sum C
  sums_renamed =
      let t : sum_of (λ u. sum_of (D.distance u) (destinations D)) (destinations D) ≡ sum_of (λ u. sum_of (C.distance u) (destinations C)) (destinations C) =
      ap (λ (ds : List ℕ). sum_of (λ u. sum_of (D.distance u) ds) ds) (destinations_renamed C D f re)
      ∙ map_sum f (λ u. sum_of (C.distance u) (destinations C)) (λ u. sum_of (D.distance u) (mapl f (destinations C))) (destinations C)
      (λ u mu. map_sum f (C.distance u) (D.distance (f u)) (destinations C)
      (λ v mv. re.distance u v (in_destinations C D f re u mu) (in_destinations C D f re v mv))) in
      omega (arith, t, whole C metric, whole D metric')

  counts_renamed : (e : ℕ) → ecc_count D e ≡ ecc_count C e
  unfolding ecc_count
  counts_renamed e =
      ap (countb (λ u. eqb e (ecc D u))) (destinations_renamed C D f re)
      ∙ map_count f (λ u. eqb e (ecc C u)) (λ u. eqb e (ecc D u)) (destinations C) (λ u mu. ap (eqb e) (ecc_renamed C D f re u (in_destinations C D f re u mu)))

-- ---- over networks

module _ (G H : Network) (net : IsNet G) (sound' : IsSound H) (f : ℕ → ℕ) (re : IsRelabelled G H f) where
  net' : IsNet H
  net' = renamed_net G H net.sound sound' f re net

  cr : IsRenamed (chart G) (chart H) f
  cr = chart_renamed G H net.sound sound' f re

  numbers : (N : Network) → IsNet N → 2 * pair_number (chart N) ≡ length (destinations (chart N)) * (length (destinations (chart N)) - 1)
  unfolding pair_number destinations chart
  numbers N n = pairs_twice (filterb (delivers N) (vertices N)) (distinct_filter (delivers N) (vertices N) n.sound.once)

  same_pairs : pair_number (chart H) ≡ pair_number (chart G)
  same_pairs =
      let l : length (destinations (chart H)) ≡ length (destinations (chart G)) =
      ap length (destinations_renamed (chart G) (chart H) f cr) ∙ length_mapl f (destinations (chart G)) in
      let a : length (destinations (chart H)) * (length (destinations (chart H)) - 1) ≡ length (destinations (chart G)) * (length (destinations (chart G)) - 1) =
      ap (λ (n : ℕ). n * (n - 1)) l in
      omega (arith, numbers G net, numbers H net', a)

  -- THE SAME REPORT
  pub relabelled_reports : HaveSameReports G H
  relabelled_reports = record {
    sum = sums_renamed (chart G) (chart H) (chart_metric G net) (chart_metric H net') f cr;
    pairs = same_pairs;
    counts = counts_renamed (chart G) (chart H) (chart_metric G net) (chart_metric H net') f cr;
  }

  -- THE SAME DEPOTS WITHIN k LINKS, in the same order
  pub relabelled_within : (s k : ℕ) → T (G.is_open s) → within_list H (f s) k ≡ mapl f (within_list G s k)
  unfolding within_list
  relabelled_within s k os =
      ap (filterb (λ v. leb (dist H (f s) v) k)) re.depots
      ∙ map_filter f (λ v. leb (dist G s v) k) (λ v. leb (dist H (f s) v) k) (vertices G)
      (λ v m. ap (λ (n : ℕ). leb n k) (dist_renamed G H net.sound sound' f re s v os (vertices_out G net.sound m)))

  nearer_open : (s c v : ℕ) → T (G.is_open c) → T (G.is_open v) → T (G.is_open (nearer_by f (dist G s) c v))
  unfolding nearer_by
  nearer_open s c v oc ov = go (ltb (dist G s v) (dist G s c) || (eqb (dist G s v) (dist G s c) && ltb (f v) (f c)))
    where
      go : (b : Bool) → T (G.is_open (cond b v c))
      go true = ov
      go false = oc

  nearer_renamed : (s c v : ℕ) → T (G.is_open s) → T (G.is_open c) → T (G.is_open v) → nearer_of (dist H (f s)) (f c) (f v) ≡ f (nearer_by f (dist G s) c v)
  unfolding nearer_of nearer_by
  nearer_renamed s c v os oc ov =
      ap₂ (λ (x y : ℕ). cond (ltb x y || (eqb x y && ltb (f v) (f c))) (f v) (f c)) (dist_renamed G H net.sound sound' f re s v os ov)
      (dist_renamed G H net.sound sound' f re s c os oc)
      ∙ go (ltb (dist G s v) (dist G s c) || (eqb (dist G s v) (dist G s c) && ltb (f v) (f c)))
    where
      go : (b : Bool) → cond b (f v) (f c) ≡ f (cond b v c)
      go true = refl
      go false = refl

  -- THE SAME NEAREST of open depots, ties going by the new names
  pub relabelled_nearest : (s : ℕ) → T (G.is_open s) → (c : ℕ) (vs : List ℕ) → T (G.is_open c) → ((v : ℕ) → Memᴰ v vs → T (G.is_open v))
      → nearest_from (dist H (f s)) (f c) (mapl f vs) ≡ f (nearest_from_by f (dist G s) c vs)
  unfolding nearest_from nearest_from_by mapl
  relabelled_nearest s os c [] oc all = refl
  relabelled_nearest s os c (v ∷ vs) oc all =
      let ov = all v (Memᴰ.head refl) in
      ap (λ (x : ℕ). nearest_from (dist H (f s)) x (mapl f vs)) (nearer_renamed s c v os oc ov)
      ∙ relabelled_nearest s os (nearer_by f (dist G s) c v) vs (nearer_open s c v oc ov) (λ w m. all w (Memᴰ.tail m))
