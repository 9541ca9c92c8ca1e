-- OPENINGS IN A BATCH on lent memory, whole, of depots that deliver and of yards: the answer and every place that the call leaves. It is written by the
-- opening call itself (`update_call`): each accepted notice is opened on what the one before left, so that scratch is as the last accepted opening left
-- it. Which notices are accepted, in which order, and which lines are left over, is `batch_of` of the network. The code's contract is one equation with
-- `batch_call`.
-- Assumes nothing.
use Rattle.std.specs.Prelude.{true, ◌&&◌, List, [], ◌∷◌, ◌++◌, ℕ, zero, suc, leb, length, Result, Ok, Err}
use Rattle.lists.specs.Lists.{overwrite, first_of}
use Rattle.graph.specs.Distance.{vertices}
use Rattle.graph.specs.Opening.{Notice}
use Rattle.graph.specs.Updates.{opens}
use Rattle.graph.specs.Batch.{Batch, batch_of, notices_of, numbers_of}
use Rattle.map.specs.Memory.{Shape, map_network}
use Rattle.map.specs.declared.Record.{Record}
use Rattle.map.specs.Room.{Lent, Sizes, sizes_of, long_enough}
use Rattle.lent_map.specs.Faults.{lent_faults}
use Rattle.update.specs.UpdateCall.{UpdateLeft, update_call}
use Rattle.outcome.specs.Refusals.{number_of}
use Rattle.outcome.specs.declared.Refusal.{Refusal}
use Rattle.batch.specs.Lines.{batch_limit, entries_of, batch_faults}
use Rattle.batch_update.specs.declared.Batched.{Batched}

-- the first refusal that holds: 1 short (the buffers of an opening, and the places), 2 spoilt (links or figures), 3 apart, 11 overfull, 12 bare,
-- 9 garbled; 0: none. m is the number of places lent
unfoldable pub batch_refusal : Shape → Record → List ℕ → List ℕ → Sizes → ℕ → List ℕ → ℕ
batch_refusal K rec links pairs sizes m input =
    first_of (lent_faults K (leb batch_limit m && long_enough K sizes) true rec links pairs ++ batch_faults (length (vertices (map_network K rec links))) input)

-- ---- one opening after the other

-- the memory that an opening is lent and leaves: the record, the link table, the other tables
pub record LentMemory : Type 0 where
  pub rec : Record
  pub links : List ℕ
  pub lent : Lent

abbrev pub lent_memory : Record → List ℕ → Lent → LentMemory
lent_memory rec links B = record { rec = rec; links = links; lent = B }

-- the opening call of a notice on this memory, and what it leaves of it
unfoldable pub opening_on : Shape → LentMemory → Notice → UpdateLeft
opening_on K M o = update_call K M.rec M.links M.lent (opens o)

abbrev pub memory_left : UpdateLeft → LentMemory
memory_left l = lent_memory l.after l.links l.lent

-- notices opened one by one, each on what the one before left
unfoldable pub open_all : Shape → LentMemory → List Notice → LentMemory
unfolding opening_on
open_all K M [] = M
open_all K M (o ∷ os) = open_all K (memory_left (opening_on K M o)) os

-- ---- the call

-- what a batch comes to on a map
unfoldable pub batch_on : Shape → Record → List ℕ → List ℕ → Batch
batch_on K rec links input = batch_of (map_network K rec links) (entries_of input)

-- the answer: how many lines are left over, or the refusal's number
pub data BatchAnswer : Type 0 where
  Opened : ℕ → BatchAnswer
  Refused : ℕ → BatchAnswer

-- what the call leaves: its answer (how many lines are left over, or the refusal's number), the memory, and the lent places
pub record BatchLeft : Type 0 where
  pub answer : BatchAnswer
  pub memory : LentMemory
  pub left : List ℕ

-- of a call that was passed the record rec: one that is refused hands out none, and rec stands
abbrev pub batch_left : Record → Result Batched Refusal → List ℕ → Lent → List ℕ → BatchLeft
batch_left rec (Ok b) links B left = record { answer = Opened b.left; memory = lent_memory b.after links B; left = left }
batch_left rec (Err k) links B left = record { answer = Refused (number_of k); memory = lent_memory rec links B; left = left }

unfoldable pub batch_given : ℕ → Shape → Record → List ℕ → Lent → List ℕ → List ℕ → BatchLeft
unfolding open_all batch_on notices_of numbers_of overwrite
batch_given zero K rec links B places input =
    let b = batch_on K rec links input in
    let left = numbers_of b.left in
    record { answer = Opened (length left); memory = open_all K (lent_memory rec links B) (notices_of b.accepted); left = overwrite left places }
batch_given (suc k) K rec links B places input = record { answer = Refused (suc k); memory = lent_memory rec links B; left = places }

unfoldable pub batch_call : Shape → Record → List ℕ → Lent → List ℕ → List ℕ → BatchLeft
unfolding batch_given batch_refusal
batch_call K rec links B places input = batch_given (batch_refusal K rec links B.pairs (sizes_of links B) (length places) input) K rec links B places input
