-- EVERY HISTORY (rules 9.4 to 9.7, 11.3 and 14.6), one statement over lists of calls of every kind from the empty map. `HistoriesAgree base P` is that of the rules'
-- map, of a program whose calls are P: the code's contracts make it `rules_program base`, each by one equation for result and every byte lent. Those equations
-- also fix what these four parts leave open: the order of the references, bound, hop and layer tables, refused calls, words past the named sizes.
-- Assumes nothing.
use Rattle.std.specs.Prelude.{◌≡◌, ◌↔◌, ℕ, zero, suc, ◌<◌, T, length}
use mathlib.Core.List.{List, [], ◌∷◌, ◌++◌, Memᴰ}
use Rattle.std.proofs.Math.Option.{Option, none, some}
use Rattle.graph.specs.Network.{IsDiameter, delivers}
use Rattle.graph.specs.Chart.{diameter}
use Rattle.graph.specs.Opening.{Notice, empty_network}
use Rattle.graph.specs.Updates.{Update, opens}
use Rattle.rows.specs.Rows.{row_bit}
use Rattle.map.specs.Memory.{Shape, places}
use Rattle.map.specs.Room.{sizes_of}
use Rattle.update.specs.UpdateCall.{IsWithin}
use Rattle.update.specs.Memory.{Memory, empty_memory}
use Rattle.update.specs.Represents.{Represents}
use Rattle.batch_update.specs.BatchCall.{batch_refusal, LentMemory}
use Rattle.batch_update.specs.Correct.{AreCodes}
use Rattle.batch_update.specs.Marks.{UpdateOn, last_opening, IsLeftBy}
use Rattle.history.specs.PlainRun.{Ask, update, batch, PlainRun, plain_run}
use Rattle.history.specs.History.{Call, Program, lent_to, call_left, run_memory, run_answers, feeds_of}

-- the codes that a call may open are codes of the map: bytes where it has 256, as those of lines are (`codes_base`, batch_update)
abbrev pub OpensCodes : Shape → Ask → Type 0
OpensCodes K (update u) = IsWithin K u
OpensCodes K (batch lines) = AreCodes K lines

abbrev pub AreCalls : Shape → List Call → Type 0
AreCalls K cs = (c : Call) → Memᴰ c cs → OpensCodes K c.ask

abbrev pub memory_after_all : Shape → Program → List Call → Memory
memory_after_all K P cs = run_memory P (empty_memory K) cs

-- the plain list fed with the calls
abbrev pub plain_after_all : Shape → List Call → PlainRun
plain_after_all K cs = plain_run K empty_network (feeds_of K cs)

-- the update whose marks a call leaves: its own; of a batch the last accepted opening, if any
unfoldable pub last_of_batch : ℕ → Shape → LentMemory → List ℕ → Option UpdateOn
last_of_batch zero K N lines = last_opening K N.rec N.links N.lent lines
last_of_batch (suc k) K N lines = none

unfoldable pub last_update : Shape → LentMemory → List ℕ → Ask → Option UpdateOn
last_update K N left (update u) = some (record { memory = N; update = u })
last_update K N left (batch lines) = last_of_batch (batch_refusal K N.rec N.links N.lent.pairs (sizes_of N.links N.lent) (length left) lines) K N lines

-- the call c leaves, of the memory M, the marks of its last update (`IsLeftBy`): marks, number of searches, and after a shrink the cover of every
-- delivering depot that it did not search; the memory as it was lent where there is none
abbrev pub LeavesMarks : Shape → Program → List Call → Memory → Call → Type 0
LeavesMarks K P cs M c =
    let N = lent_to M c.lending in
    IsLeftBy K P.update (plain_after_all K (cs ++ (c ∷ []))).network N (call_left P M c).memory (last_update K N c.lending.left c.ask)

pub record HistoriesAgree (K : Shape) (P : Program) : Type 0 where
  -- (A) each answer is the plain list's, whose longest chain is the published diameter
  pub answers : (cs : List Call) → AreCalls K cs → run_answers P (empty_memory K) cs ≡ (plain_after_all K cs).answers
  pub published : (cs : List Call) → AreCalls K cs → IsDiameter (plain_after_all K cs).network (delivers (plain_after_all K cs).network) (diameter (plain_after_all K cs).network)
  -- (B) the map, the record's yard set included, is that of the network of what was accepted; the yard set has the codes that were accepted as yards
  pub figures : (cs : List Call) → AreCalls K cs → Represents K (memory_after_all K P cs) (plain_after_all K cs).network
  pub yards : (cs : List Call) → AreCalls K cs → (c : ℕ) → c < places K
      → T (row_bit K.words (memory_after_all K P cs).rec.yards c) ↔ ((o : Notice) × Memᴰ (opens o) (plain_after_all K cs).accepted × T o.yard × (o.code ≡ c))
  -- (C) the marks of the last call
  pub marks : (cs : List Call) (c : Call) → AreCalls K (cs ++ (c ∷ [])) → LeavesMarks K P cs (memory_after_all K P cs) c
  -- (D) arrival order: with the same accepted, each opening with whether it is a yard's, two lists leave the same record, its yard set included, and the same
  -- link table and pair table
  pub order : (cs ds : List Call) → AreCalls K cs → AreCalls K ds → ((o : Update) → Memᴰ o (plain_after_all K cs).accepted ↔ Memᴰ o (plain_after_all K ds).accepted)
      → memory_after_all K P cs ≡ memory_after_all K P ds
