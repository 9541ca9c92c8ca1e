-- THE INNER STEPS of the report: the tally of one destination, its eccentricity counted, and all destinations in turn. The hops are those of searches
-- over the link table. Assumes nothing.
use mathlib.Core.List.{List, [], ◌∷◌, Memᴰ}
use Rattle.std.specs.Prelude.{ℕ, ◌+◌, ◌*◌, ◌<◌, ltb, length, get_or, set}
use Rattle.lists.specs.Lists.{range, filterb, sum_of, max_of, mapl, overwrite}
use Rattle.graph.specs.Network.{Network}
use Rattle.graph.specs.Distance.{vertices, dist}
use Rattle.map.specs.Memory.{network_of, table_network}
use Rattle.map.specs.Room.{Tables}
use Rattle.layers.specs.Layers.{search_leaves}
use Rattle.summary.specs.declared.Tally.{Tally}

-- ---- one destination u, h being the hops of a search from it

-- all targets: those above u are its pairs
unfoldable pub tally_of : (ℕ → ℕ) → ℕ → List ℕ → Tally
tally_of h u vs = let later = filterb (λ v. ltb u v) vs in record { sum = sum_of h later; pairs = length later; ecc = max_of h vs }

-- one more at place e
unfoldable pub count_one : ℕ → List ℕ → List ℕ
count_one e l = set l e (get_or l e 0 + 1)

-- ---- all destinations, one after the other

unfoldable pub count_all : (ℕ → ℕ) → List ℕ → List ℕ → List ℕ
count_all ecc [] l = l
count_all ecc (u ∷ us) l = count_all ecc us (count_one (ecc u) l)

unfoldable pub search_all : ℕ → Network → List ℕ → Tables → Tables
search_all W N [] B = B
search_all W N (u ∷ us) B = search_all W N us (search_leaves W N u B)

-- what they leave: sum and number of pairs, hop table and layer rows, counts
pub record Totalled : Type 0 where
  pub sum : ℕ
  pub pairs : ℕ
  pub lent : Tables
  pub counts : List ℕ

abbrev pub totalled : ℕ → ℕ → Tables → List ℕ → Totalled
totalled s p B l = record { sum = s; pairs = p; lent = B; counts = l }

-- over any way to tally and to count
unfoldable pub total_by : (ℕ → Tally) → ℕ → Network → List ℕ → Tables → List ℕ → Totalled
total_by tallied W N vs B l = record {
  sum = sum_of (λ u. (tallied u).sum) vs;
  pairs = sum_of (λ u. (tallied u).pairs) vs;
  lent = search_all W N vs B;
  counts = count_all (λ u. (tallied u).ecc) vs l;
}

-- the targets that a row holds, over a link table; the counts begin with 0
unfoldable pub total_over : ℕ → List ℕ → List ℕ → Tables → List ℕ → Totalled
total_over W targets links B l =
    let N = table_network W links in
    let vs = vertices (network_of W targets []) in
    total_by (λ u. tally_of (dist N u) u vs) W N vs B (overwrite (mapl (λ e. 0) (range (64 * W))) l)

-- every two targets have a hop below the number of codes
abbrev pub AreNear : ℕ → List ℕ → List ℕ → Type 0
AreNear W targets links =
    (u v : ℕ) → Memᴰ u (vertices (network_of W targets [])) → Memᴰ v (vertices (network_of W targets []))
    → dist (table_network W links) u v < 64 * W
