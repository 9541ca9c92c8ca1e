-- WHAT A SEARCH GIVES (rule 11.2), by the published words (Network.antt): what every accepted search answers and leaves, on any lent memory.
-- `search_correct` (proofs/Theorems) proves it for every shape; `SearchCorrect base` is that of the rules' map.
-- Assumes nothing.
use Rattle.std.specs.Prelude.{◌≡◌, ◌↔◌, false, List, ℕ, zero, suc, ◌%◌, ◌<◌, T, length, get_or, drop, None, Ok}
use Rattle.graph.specs.Network.{Network, IsDist, IsEcc, delivers}
use Rattle.graph.specs.Distance.{unreached}
use Rattle.rows.specs.Rows.{row_bit}
use Rattle.map.specs.Room.{Tables}
use Rattle.map.specs.Memory.{Shape, places, map_network}
use Rattle.map.specs.declared.Record.{Record}
use Rattle.search.specs.declared.Reach.{Reach}
use Rattle.layers.specs.Layers.{last_layer}
use Rattle.search.specs.SearchCall.{search_refusal, search_call}

-- the row holds exactly the depots at distance d from s
abbrev pub HoldsLayer : ℕ → Network → ℕ → ℕ → List ℕ → Type 0
HoldsLayer W G s d row = (v : ℕ) → T (row_bit W row v) ↔ IsDist G s v d

-- the row holds exactly the layer before distance d, or no depot where d is 0
abbrev pub HoldsBefore : ℕ → Network → ℕ → ℕ → List ℕ → Type 0
HoldsBefore W G s zero row = (v : ℕ) → row_bit W row v ≡ false
HoldsBefore W G s (suc d) row = HoldsLayer W G s d row

-- a lent buffer keeps its size, and what stands past the first n places
pub record KeepsPast (n : ℕ) (old new : List ℕ) : Type 0 where
  pub size : length new ≡ length old
  pub past : drop n new ≡ drop n old

-- A search from s, lent the tables B: the eccentricity, to depots that deliver; the depth, which is the greatest distance
-- to any open depot; the distance at each open code's place, 65,535 at each closed code's; the last layer, of all open
-- depots, in the row of the depth's parity and the layer before it in the other; and the last layer again in the part
-- that is handed back.
pub record IsSearch (K : Shape) (G : Network) (s : ℕ) (B : Tables) (r : Reach) (left : Tables) : Type 0 where
  pub is_ecc : IsEcc G (delivers G) s r.ecc
  pub is_depth : IsEcc G G.is_open s r.depth
  pub is_hop : (v : ℕ) → T (G.is_open v) → IsDist G s v (get_or left.hops v 0)
  pub closed : (v : ℕ) → v < places K → (T (G.is_open v) → ⊥) → get_or left.hops v 0 ≡ unreached
  pub even_last : r.depth % 2 ≡ 0
      → HoldsLayer K.words G s r.depth left.even × HoldsBefore K.words G s r.depth left.odd
  pub odd_last : r.depth % 2 ≡ 1
      → HoldsLayer K.words G s r.depth left.odd × HoldsBefore K.words G s r.depth left.even
  pub part : HoldsLayer K.words G s r.depth (last_layer K.words r.depth left.even left.odd)
  pub hops_kept : KeepsPast (places K) B.hops left.hops
  pub even_kept : KeepsPast K.words B.even left.even
  pub odd_kept : KeepsPast K.words B.odd left.odd

abbrev pub SearchCorrect : Shape → Type 0
SearchCorrect K =
    (rec : Record) (links : List ℕ) (B : Tables) (code : ℕ)
    → search_refusal K rec links (length B.hops) (length B.even) (length B.odd) code ≡ None
    → let left = search_call K rec links B code in
    (r : Reach) × (left.answer ≡ Ok r) × IsSearch K (map_network K rec links) code B r left.lent
