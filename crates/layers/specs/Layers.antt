-- WHAT A SEARCH LEAVES (rules 3.1 and 3.2): the hop table and the two layer rows, by the distances of a network.
-- Assumes nothing.
use Rattle.std.specs.Prelude.{Bool, cond, not, ◌&&◌, List, ℕ, ◌-◌, ◌*◌, ◌%◌, eqb, ltb, take}
use Rattle.lists.specs.Lists.{range, mapl, max_of, overwrite}
use Rattle.graph.specs.Network.{Network}
use Rattle.graph.specs.Distance.{vertices, unreached, dist}
use Rattle.rows.specs.Rows.{encode_row}
use Rattle.map.specs.Memory.{table_network}
use Rattle.map.specs.Room.{Tables}

-- the distance of the last layer: the greatest that a walk from s reaches
unfoldable pub depth_from : Network → ℕ → ℕ
depth_from G s = max_of (λ v. cond (ltb (dist G s v) unreached) (dist G s v) 0) (vertices G)

-- rule 3.2: bit v of the row for a parity, with h the distances and e that of the last layer. The row of e's parity has the last layer, the other
-- row the one before it, none where e is 0
unfoldable pub layer_bit : (ℕ → ℕ) → ℕ → ℕ → ℕ → Bool
layer_bit h e parity v = cond (eqb (e % 2) parity) (eqb (h v) e) (not (eqb e 0) && eqb (h v) (e - 1))

-- as a search from s leaves them: the distances (65,535 where there is none), and the layers
unfoldable pub search_leaves : ℕ → Network → ℕ → Tables → Tables
search_leaves W G s B =
    let e = depth_from G s in
    record {
      hops = overwrite (mapl (dist G s) (range (64 * W))) B.hops;
      even = overwrite (encode_row W (layer_bit (dist G s) e 0)) B.even;
      odd = overwrite (encode_row W (layer_bit (dist G s) e 1)) B.odd;
    }

-- rule 3.3: the part handed back, the first words of the row of the last layer's parity, d being its distance
unfoldable pub last_layer : ℕ → ℕ → List ℕ → List ℕ → List ℕ
last_layer W d even odd = take W (cond (eqb (d % 2) 0) even odd)

-- a search from s over a table of links: the distance of its last layer, and what it leaves
pub record Searched : Type 0 where
  pub depth : ℕ
  pub left : Tables

abbrev pub searched : ℕ → Tables → Searched
searched e B = record { depth = e; left = B }

unfoldable pub search_table : ℕ → List ℕ → ℕ → Tables → Searched
search_table W links s B = record { depth = depth_from (table_network W links) s; left = search_leaves W (table_network W links) s B }
