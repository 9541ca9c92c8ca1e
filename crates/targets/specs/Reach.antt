-- HOW FAR THE TARGETS LIE FROM A DEPOT AND WHICH ARE ITS PARTNERS, by what a search from it left: the hop table, and the row `last` of its last layer, at
-- the depth. Assumes nothing.
use Rattle.std.specs.Prelude.{Bool, cond, ◌&&◌, List, [], ℕ, ◌*◌, eqb, get_or}
use Rattle.lists.specs.Lists.{range, anyb, max_of, overwrite}
use Rattle.graph.specs.Distance.{vertices}
use Rattle.rows.specs.Rows.{row_bit, encode_row}
use Rattle.map.specs.Memory.{network_of}

-- as far as a target lies: the depth where the last layer has one, and else the greatest hop of one. After a search that reaches all targets it is the
-- greatest hop in either case (`farthest_is`)
unfoldable pub farthest_of : ℕ → List ℕ → List ℕ → List ℕ → ℕ → ℕ
farthest_of W targets hops last depth =
    cond (anyb (λ v. row_bit W last v && row_bit W targets v) (range (64 * W))) depth
    (max_of (λ v. get_or hops v 0) (vertices (network_of W targets [])))

-- what is said of a depot: how far the targets lie, what of it is its own, and the row of its partners
pub record Reached : Type 0 where
  pub ecc : ℕ
  pub own : ℕ
  pub partners : List ℕ

abbrev pub reached : ℕ → ℕ → List ℕ → Reached
reached e o row = record { ecc = e; own = o; partners = row }

-- whether v is a target as far as e, after a search to the depth
abbrev pub is_farthest : ℕ → List ℕ → List ℕ → List ℕ → ℕ → ℕ → ℕ → Bool
is_farthest W targets hops last depth e v = row_bit W targets v && cond (eqb e depth) (row_bit W last v) (eqb (get_or hops v 0) e)

-- of r, a row being lent: its partners are the targets that lie farthest; what is no target has none, and nothing of its own
unfoldable pub reach_of : ℕ → List ℕ → List ℕ → List ℕ → ℕ → ℕ → List ℕ → Reached
reach_of W targets hops last r depth row =
    let e = farthest_of W targets hops last depth in
    reached e (cond (row_bit W targets r) e 0) (overwrite (encode_row W (λ v. row_bit W targets r && is_farthest W targets hops last depth e v)) row)
