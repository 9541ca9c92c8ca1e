-- WORDS FOR LAWS: how far a batch has come. Assumes nothing.
use Rattle.std.specs.Prelude.{List, ℕ}
use Rattle.graph.specs.Network.{Network}
use Rattle.graph.specs.Batch.{Entry, batch_by, notices_of}
use Rattle.map.specs.Memory.{Shape, map_network}
use Rattle.batch_update.specs.BatchCall.{LentMemory, open_all}

-- the memory, and the entries that are not taken yet
pub record BatchStanding : Type 0 where
  pub memory : LentMemory
  pub waiting : List Entry

-- what k more turns at most come to, on a map of the network G
unfoldable pub turns_from : ℕ → Shape → LentMemory → Network → List Entry → BatchStanding
turns_from k K M G es = let b = batch_by k G es in record { memory = open_all K M (notices_of b.accepted); waiting = b.left }

abbrev pub turns_on : ℕ → Shape → BatchStanding → BatchStanding
turns_on k K S = turns_from k K S.memory (map_network K S.memory.rec S.memory.links) S.waiting
