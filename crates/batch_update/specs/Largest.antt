-- THE CODES OPEN AFTER A BATCH are the most that any order of its lines opens, two notices for one code included. `batch_most` (proofs/Theorems)
-- proves it of `batch_call`.
-- Assumes nothing.
use Rattle.std.specs.Prelude.{◌≡◌, ◌⊎◌, ◌↔◌, false, ℕ, length}
use mathlib.Core.List.{List, ◌++◌, Memᴰ}
use Rattle.graph.specs.Opening.{Notice}
use Rattle.graph.specs.Batch.{Entry, accepts, offered, AreOffers, AreOpenIn, notices_of}
use Rattle.map.specs.Memory.{Shape, map_network}
use Rattle.map.specs.declared.Record.{Record}
use Rattle.map.specs.Room.{Lent, sizes_of}
use Rattle.batch.specs.Lines.{entries_of}
use Rattle.batch_update.specs.BatchCall.{batch_refusal, LentMemory, batch_on}
use Rattle.batch_update.specs.Refusals.{BatchStep}
use Rattle.batch_update.specs.Correct.{AreCodes}

-- N is what a batch leaves
pub record IsLargest (K : Shape) (rec : Record) (links input : List ℕ) (N : LentMemory) : Type 0 where
  -- lines offered one by one, in whatever order and however often: every code open then is open after the batch
  pub largest : (os : List Notice) → AreOffers (entries_of input) os → AreOpenIn (offered (map_network K rec links) os) (map_network K N.rec N.links)
  -- one order of all lines opens exactly these: those accepted, then those left over
  pub whole : (e : Entry) → (Memᴰ e (batch_on K rec links input).accepted ⊎ Memᴰ e (batch_on K rec links input).left) ↔ Memᴰ e (entries_of input)
  pub reached : offered (map_network K rec links) (notices_of (batch_on K rec links input).accepted ++ notices_of (batch_on K rec links input).left) ≡ map_network K N.rec N.links
  -- none of those left over can be accepted
  pub ended : (e : Entry) → Memᴰ e (batch_on K rec links input).left → accepts (map_network K N.rec N.links) e.notice ≡ false

abbrev pub BatchLargest : Shape → BatchStep → Type 0
BatchLargest K step =
    (rec : Record) (links : List ℕ) (B : Lent) (places input : List ℕ) → batch_refusal K rec links B.pairs (sizes_of links B) (length places) input ≡ 0 → AreCodes K input
    → IsLargest K rec links input (step rec links B places input).memory
