-- WHAT AN UPDATE GIVES (rule 11.2), on any lent memory. On true stored figures the map afterwards is that of the network after it; on any stored
-- figures that are not refused, marks, number of searches, bound and cover hold.
-- Assumes nothing.
use Rattle.std.specs.Prelude.{◌≡◌, List, ℕ}
use Rattle.graph.specs.Network.{AreTrue, delivers}
use Rattle.graph.specs.Updates.{Update}
use Rattle.rows.specs.Rows.{table_bit}
use Rattle.map.specs.Memory.{Shape, map_network}
use Rattle.map.specs.declared.Record.{Record}
use Rattle.map.specs.Room.{Lent, sizes_of}
use Rattle.update.specs.UpdateCall.{update_refusal, network_after, references_of, UpdateLeft, IsWithin, Step}
use Rattle.update.specs.Memory.{Memory}
use Rattle.update.specs.Represents.{Represents, IsMarked}

-- the map among what a call leaves
abbrev pub map_after : UpdateLeft → Memory
map_after l = record { links = l.links; pairs = l.lent.pairs; rec = l.after }

pub record UpdateCorrect (K : Shape) (step : Step) : Type 0 where
  pub figures : (rec : Record) (links : List ℕ) (B : Lent) (o : Update) → update_refusal K rec links B.pairs (sizes_of links B) o ≡ 0 → IsWithin K o
      → AreTrue (map_network K rec links) (delivers (map_network K rec links)) rec.chain (table_bit K.words B.pairs)
      → Represents K (map_after (step rec links B o)) (network_after K rec links o)
  pub marks : (rec : Record) (links : List ℕ) (B : Lent) (o : Update) → update_refusal K rec links B.pairs (sizes_of links B) o ≡ 0 → IsWithin K o
      → IsMarked K (network_after K rec links o) (references_of K rec links B o) (step rec links B o)
