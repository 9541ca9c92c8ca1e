-- THE CHART OF A NETWORK: its depots with their degrees and distances, a finite metric space. It is all that the reference rounds need:
-- no link, no word and no table is left in it. The figures are computed from it here by their definitions, without any skipping.
-- Assumes nothing.
use Rattle.std.specs.Prelude.{Bool, ◌&&◌, ◌||◌, List, ℕ, eqb, ltb}
use Rattle.lists.specs.Lists.{filterb, countb, sum_of, max_of}
use Rattle.graph.specs.Network.{Network, delivers}
use Rattle.graph.specs.Distance.{vertices, dist}

-- open depots in their order, which of them are destinations, degrees, distances
pub record Chart : Type 0 where
  pub depots : List ℕ
  pub is_destination : ℕ → Bool
  pub degree : ℕ → ℕ
  pub distance : ℕ → ℕ → ℕ

-- the degree counts every neighbour (rule 1.7)
unfoldable pub chart : Network → Chart
unfolding countb dist delivers
chart G = let vs = vertices G in record { depots = vs; is_destination = delivers G; degree = λ u. countb (G.linked u) vs; distance = dist G }

unfoldable pub destinations : Chart → List ℕ
unfolding filterb
destinations C = filterb C.is_destination C.depots

-- the eccentricity: the greatest distance from u to a destination
unfoldable pub ecc : Chart → ℕ → ℕ
unfolding max_of destinations
ecc C u = max_of (C.distance u) (destinations C)

-- the greatest eccentricity of a destination
unfoldable pub greatest_ecc : Chart → ℕ
unfolding max_of ecc destinations
greatest_ecc C = max_of (ecc C) (destinations C)

-- the diameter
unfoldable pub diameter : Network → ℕ
unfolding chart greatest_ecc
diameter G = greatest_ecc (chart G)

-- a set of pairs u < v
abbrev pub Pairs : Type 0
Pairs = ℕ → ℕ → Bool

-- the farthest pairs
unfoldable pub farthest : Network → Pairs
unfolding dist diameter delivers
farthest G u v = ltb u v && delivers G u && delivers G v && eqb (dist G u v) (diameter G)

-- the number of pairs among the depots vs
unfoldable pub count_pairs : List ℕ → Pairs → ℕ
unfolding sum_of countb
count_pairs vs P = sum_of (λ u. countb (λ v. P u v) vs) vs

-- the destination r with each destination at distance e, as pairs u < v
unfoldable pub own_pairs : Chart → ℕ → ℕ → Pairs
own_pairs C r e u v =
    ltb u v && C.is_destination u && C.is_destination v && ((eqb u r && eqb (C.distance r v) e) || (eqb v r && eqb (C.distance r u) e))
