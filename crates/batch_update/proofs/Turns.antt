-- THE TURNS OF A BATCH: an opening leaves the network after it and a map that nothing refuses, so that each turn goes on where the definition does.
-- Assumes nothing.
use mathlib.Core.Path.{◌≡◌, refl, sym, ap, ◌∙◌, subst}
use mathlib.Core.Bool.{true}
use mathlib.Core.List.{List}
use mathlib.Core.Option.{none, some}
use Prim.Native.Nat.{ℕ, zero, suc, ◌<◌}
use lib.ListN.{length}
use Rattle.graph.specs.Network.{Network}
use Rattle.graph.specs.Opening.{Notice}
use Rattle.graph.specs.Updates.{opens, update_faults, applied}
use Rattle.graph.specs.Batch.{Entry, accepts, first_fit, without, or_end, batch_by, batch_of, notices_of}
use Rattle.graph.proofs.Batches.{accepts_ok, fit_accepts}
use Rattle.map.specs.Memory.{Shape, IsShape, places, map_network}
use Rattle.map.specs.declared.Record.{Record}
use Rattle.map.specs.Room.{Lent, sizes_of}
use Rattle.batch.specs.Lines.{entries_of}
use Rattle.update.specs.UpdateCall.{update_refusal, update_given, update_call}
use Rattle.update.specs.Steps.{map_refusal}
use Rattle.update.proofs.Grants.{after_is}
use Rattle.update.proofs.Keeps.{left_stores, map_kept}
use Rattle.update.proofs.Refuses.{refused_by_notice}
use Rattle.batch_update.specs.BatchCall.{LentMemory, lent_memory, opening_on, memory_left, open_all, batch_on, batch_given}
use Rattle.batch_update.specs.Steps.{BatchStanding, turns_from, turns_on}

-- the network of a lent map, and its refusal
abbrev pub meant : Shape → LentMemory → Network
meant K M = map_network K M.rec M.links

abbrev pub IsFree : Shape → LentMemory → Type 0
IsFree K M = map_refusal K M.rec M.links M.lent.pairs (sizes_of M.links M.lent) ≡ 0

module _ (K : Shape) (shape : IsShape K) (M : LentMemory) (o : Notice) (free : IsFree K M) (low : o.code < places K) where
  -- nothing refuses the map after an opening
  pub opening_free : IsFree K (memory_left (opening_on K M o))
  unfolding opening_on
  opening_free = map_kept K shape M.rec M.links M.lent (opens o) low free

  module _ (fits : accepts (meant K M) o ≡ true) where
    -- nothing refuses the opening
    pub opening_granted : update_refusal K M.rec M.links M.lent.pairs (sizes_of M.links M.lent) (opens o) ≡ 0
    unfolding update_faults
    opening_granted = sym (refused_by_notice K M.rec M.links M.lent.pairs (sizes_of M.links M.lent) o (sym free)) ∙ accepts_ok (meant K M) o fits

    -- it leaves the network after it
    pub opening_network : meant K (memory_left (opening_on K M o)) ≡ applied (meant K M) (opens o)
    unfolding opening_on update_call
    opening_network =
        subst (λ (k : ℕ). map_network K (update_given k K M.rec M.links M.lent (opens o)).after (update_given k K M.rec M.links M.lent (opens o)).links ≡ applied (meant K M) (opens o))
        (sym opening_granted)
        ((left_stores K M.rec M.links M.lent (opens o) shape opening_granted low).network ∙ after_is K M.rec M.links (opens o))

-- ---- a turn

-- the end of the turns; none that waits fits; the entry e is opened, and waits no longer
pub turns_out : (K : Shape) (S : BatchStanding) → turns_on 0 K S ≡ S
unfolding turns_from batch_by notices_of open_all
turns_out K S = refl

pub turns_none : (k : ℕ) (K : Shape) (S : BatchStanding) → first_fit (meant K S.memory) S.waiting ≡ none → turns_on k K S ≡ S
unfolding turns_from batch_by or_end notices_of open_all
turns_none zero K S q = refl
turns_none (suc k) K S q = rw q

turns_taken : (k : ℕ) (K : Shape) (M : LentMemory) (G : Network) (es : List Entry) (e : Entry) → first_fit G es ≡ some e
    → turns_from (suc k) K M G es ≡ turns_from k K (memory_left (opening_on K M e.notice)) (applied G (opens e.notice)) (without e.number es)
unfolding turns_from batch_by or_end notices_of open_all
turns_taken k K M G es e q = rw q

abbrev pub turned : Shape → BatchStanding → Entry → BatchStanding
turned K S e = record { memory = memory_left (opening_on K S.memory e.notice); waiting = without e.number S.waiting }

pub turns_some : (k : ℕ) (K : Shape) → IsShape K → (S : BatchStanding) (e : Entry) → first_fit (meant K S.memory) S.waiting ≡ some e → IsFree K S.memory → e.notice.code < places K
    → turns_on (suc k) K S ≡ turns_on k K (turned K S e)
turns_some k K shape S e q free low =
    turns_taken k K S.memory (meant K S.memory) S.waiting e q
    ∙ ap (λ (H : Network). turns_from k K (turned K S e).memory H (turned K S e).waiting)
    (sym (opening_network K shape S.memory e.notice free low (fit_accepts (meant K S.memory) S.waiting e q)))

-- ---- all turns, from the beginning

pub given_memory : (K : Shape) (rec : Record) (links : List ℕ) (B : Lent) (places input : List ℕ)
    → (batch_given zero K rec links B places input).memory ≡ (turns_from (length (entries_of input)) K (lent_memory rec links B) (map_network K rec links) (entries_of input)).memory
unfolding batch_given batch_on batch_of turns_from
given_memory K rec links B places input = refl
