-- THE NETWORK REPORT: the sum of the distances over all pairs u < v of destinations, the number of these pairs, their mean as quotient and remainder,
-- and how many destinations have each eccentricity. Computed, and in the published words; `summary_is` (proofs/Summary) joins the two.
-- Assumes nothing.
use Rattle.std.specs.Prelude.{◌≡◌, Bool, List, ℕ, ◌+◌, ◌-◌, ◌*◌, ◌<◌, T, eqb, ltb, length}
use Rattle.lists.specs.Lists.{range, filterb, countb, sum_of}
use Rattle.graph.specs.Network.{Network, IsDist, IsEcc}
use Rattle.graph.specs.Chart.{Chart, destinations, ecc, count_pairs}

-- ---- computed

-- each pair's distance is added at its lower code
unfoldable pub distance_sum : Chart → ℕ
unfolding sum_of filterb destinations
distance_sum C = let ds = destinations C in sum_of (λ u. sum_of (C.distance u) (filterb (λ v. ltb u v) ds)) ds

unfoldable pub pair_number : Chart → ℕ
unfolding count_pairs destinations
pair_number C = count_pairs (destinations C) ltb

-- how many destinations have the eccentricity e
unfoldable pub ecc_count : Chart → ℕ → ℕ
unfolding countb ecc destinations
ecc_count C e = countb (λ u. eqb e (ecc C u)) (destinations C)

-- ---- in the published words

-- the destinations, Q telling them
abbrev pub listed_by : (ℕ → Bool) → Network → List ℕ
listed_by Q G = filterb Q G.depots

-- A report of a network, Q telling the destinations, with `limit` counts: all of them are counted, and the mean is exact.
pub record IsSummary (G : Network) (Q : ℕ → Bool) (limit sum pairs quotient remainder : ℕ) (counts : ℕ → ℕ) : Type 0 where
  pub distance : ℕ → ℕ → ℕ
  pub is_dist : (u v : ℕ) → T (Q u) → T (Q v) → IsDist G u v (distance u v)
  pub is_sum : sum ≡ sum_of (λ u. sum_of (distance u) (filterb (λ v. ltb u v) (listed_by Q G))) (listed_by Q G)
  pub are_pairs : pairs ≡ count_pairs (listed_by Q G) ltb
  pub twice : 2 * pairs ≡ length (listed_by Q G) * (length (listed_by Q G) - 1)
  pub mean : sum ≡ quotient * pairs + remainder
  pub part : remainder < pairs
  pub eccentricity : ℕ → ℕ
  pub is_ecc : (u : ℕ) → T (Q u) → IsEcc G Q u (eccentricity u)
  pub counted : (e : ℕ) → e < limit → counts e ≡ countb (λ u. eqb e (eccentricity u)) (listed_by Q G)
  pub whole : sum_of counts (range limit) ≡ length (listed_by Q G)
