-- WHAT IS READ OF A NETWORK UNDER OTHER NAMES: the depots within so many links, the nearest of a list, and the figures of the report. Proved in
-- proofs/RenamedReports: `relabelled_within`, `relabelled_nearest`, `relabelled_reports`.
-- Assumes nothing.
use Rattle.std.specs.Prelude.{◌≡◌, cond, ◌&&◌, ◌||◌, List, [], ◌∷◌, ℕ, eqb, ltb}
use Rattle.graph.specs.Network.{Network}
use Rattle.graph.specs.Chart.{chart}
use Rattle.graph.specs.Summary.{distance_sum, pair_number, ecc_count}

-- of two rows the nearer by h, the lower key on a tie
unfoldable pub nearer_by : (ℕ → ℕ) → (ℕ → ℕ) → ℕ → ℕ → ℕ
nearer_by key h c v = cond (ltb (h v) (h c) || (eqb (h v) (h c) && ltb (key v) (key c))) v c

-- of c and a list of rows
unfoldable pub nearest_from_by : (ℕ → ℕ) → (ℕ → ℕ) → ℕ → List ℕ → ℕ
unfolding nearer_by
nearest_from_by key h c [] = c
nearest_from_by key h c (v ∷ vs) = nearest_from_by key h (nearer_by key h c v) vs

-- the report says the same of G and of H
pub record HaveSameReports (G H : Network) : Type 0 where
  pub sum : distance_sum (chart H) ≡ distance_sum (chart G)
  pub pairs : pair_number (chart H) ≡ pair_number (chart G)
  pub counts : (e : ℕ) → ecc_count (chart H) e ≡ ecc_count (chart G) e
