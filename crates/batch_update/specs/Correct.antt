-- WHAT A BATCH GIVES (rule 11.2), on any lent memory: on true stored figures the map afterwards, the record's yard set included, is that of the network
-- after the batch.
-- Assumes nothing.
use Rattle.std.specs.Prelude.{◌≡◌, ℕ, length}
use mathlib.Core.List.{List, Memᴰ}
use Rattle.graph.specs.Network.{AreTrue, delivers}
use Rattle.graph.specs.Updates.{opens}
use Rattle.graph.specs.Batch.{Entry}
use Rattle.rows.specs.Rows.{table_bit}
use Rattle.map.specs.Memory.{Shape, map_network}
use Rattle.map.specs.declared.Record.{Record}
use Rattle.map.specs.Room.{Lent, sizes_of}
use Rattle.update.specs.UpdateCall.{IsWithin}
use Rattle.update.specs.Memory.{Memory}
use Rattle.update.specs.Represents.{Represents}
use Rattle.batch.specs.Lines.{entries_of}
use Rattle.batch_update.specs.BatchCall.{batch_refusal, LentMemory, batch_on}
use Rattle.batch_update.specs.Refusals.{BatchStep}

-- the codes that a batch opens are codes of the map; of the rules' map they are, being bytes (`codes_base`, proofs/Theorems)
abbrev pub AreCodes : Shape → List ℕ → Type 0
AreCodes K input = (e : Entry) → Memᴰ e (entries_of input) → IsWithin K (opens e.notice)

-- the map in lent memory
abbrev pub map_in : LentMemory → Memory
map_in M = record { links = M.links; pairs = M.lent.pairs; rec = M.rec }

abbrev pub BatchCorrect : Shape → BatchStep → Type 0
BatchCorrect K step =
    (rec : Record) (links : List ℕ) (B : Lent) (places input : List ℕ) → batch_refusal K rec links B.pairs (sizes_of links B) (length places) input ≡ 0 → AreCodes K input
    → AreTrue (map_network K rec links) (delivers (map_network K rec links)) rec.chain (table_bit K.words B.pairs)
    → Represents K (map_in (step rec links B places input).memory) (batch_on K rec links input).network
