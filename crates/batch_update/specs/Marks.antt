-- THE MARKS OF A BATCH are those of its last accepted opening, as if that were the call: scratch is what it left, and marks, number of searches, bound
-- and the cover of delivering depots hold of it. A batch that accepts nothing leaves all as it was lent. `batch_marks` (proofs/Marks) proves it of
-- `batch_call`.
-- Assumes nothing.
use Rattle.std.specs.Prelude.{◌≡◌, List, [], ◌∷◌, ℕ, length}
use Rattle.std.proofs.Math.Option.{Option, none, some}
use Rattle.graph.specs.Opening.{Notice}
use Rattle.graph.specs.Network.{Network}
use Rattle.graph.specs.Updates.{Update, opens}
use Rattle.graph.specs.Batch.{notices_of}
use Rattle.map.specs.Memory.{Shape, map_network}
use Rattle.map.specs.declared.Record.{Record}
use Rattle.map.specs.Room.{Lent, sizes_of}
use Rattle.update.specs.UpdateCall.{update_call, references_of, Step}
use Rattle.update.specs.Represents.{IsMarked}
use Rattle.batch_update.specs.BatchCall.{batch_refusal, LentMemory, lent_memory, opening_on, memory_left, batch_on}
use Rattle.batch_update.specs.Refusals.{BatchStep}
use Rattle.batch_update.specs.Correct.{AreCodes}

-- an update with the memory that it was lent
pub record UpdateOn : Type 0 where
  pub memory : LentMemory
  pub update : Update

-- the last of some openings one after the other, `last` being the update before them
unfoldable pub last_from : Shape → Option UpdateOn → LentMemory → List Notice → Option UpdateOn
unfolding opening_on
last_from K last M [] = last
last_from K last M (o ∷ os) = last_from K (some (record { memory = M; update = opens o })) (memory_left (opening_on K M o)) os

-- the last accepted opening of a batch
unfoldable pub last_opening : Shape → Record → List ℕ → Lent → List ℕ → Option UpdateOn
unfolding last_from batch_on notices_of
last_opening K rec links B input = last_from K none (lent_memory rec links B) (notices_of (batch_on K rec links input).accepted)

-- N is what the last update left of M, with the update's marks in the network H that it came to; M itself where there was none
abbrev pub IsLeftBy : Shape → Step → Network → LentMemory → LentMemory → Option UpdateOn → Type 0
IsLeftBy K step H M N none = N ≡ M
IsLeftBy K step H M N (some u) =
    let b = u.memory in
    let l = step b.rec b.links b.lent u.update in
    (N ≡ memory_left l) × IsMarked K H (references_of K b.rec b.links b.lent u.update) l

abbrev pub BatchMarks : Shape → BatchStep → Type 0
BatchMarks K step =
    (rec : Record) (links : List ℕ) (B : Lent) (places input : List ℕ) → batch_refusal K rec links B.pairs (sizes_of links B) (length places) input ≡ 0 → AreCodes K input
    → let N = (step rec links B places input).memory in
    IsLeftBy K (update_call K) (map_network K N.rec N.links) (lent_memory rec links B) N (last_opening K rec links B input)
