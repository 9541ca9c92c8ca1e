-- OPENING, LINK AND BATCH FOR OTHER LANGUAGES ARE THE CALLS of the same names on the record in the words, so that the theorem over histories speaks of a list of these calls.
-- Assumes nothing.
use mathlib.Core.Path.{◌≡◌, refl, ◌∙◌}
use mathlib.Core.Bool.{Bool}
use mathlib.Core.List.{List, [], ◌∷◌}
use Prim.Native.Nat.{ℕ, zero, suc, ◌≤◌}
use native.Mathlib.Omega.{arith}
use lib.ListN.{length, drop, length-take, length-drop}
use borrow.Author.Tests.{le-ltb}
use Rattle.lists.specs.Lists.{overwrite}
use Rattle.lists.proofs.Fills.{overwrite_length}
use Rattle.rows.specs.Rows.{encode_row}
use Rattle.rows.proofs.Written.{encode_row_length}
use Rattle.map.specs.Memory.{base}
use Rattle.map.specs.declared.Record.{Record}
use Rattle.map.specs.Room.{Lent, sizes_of}
use Rattle.update.specs.UpdateCall.{update_refusal, network_after, UpdateLeft, update_given, update_call}
use Rattle.c_values.specs.Words.{record_words, record_of}
use Rattle.c_values.proofs.Theorems.{words_read}
use Rattle.c_updates.specs.UpdateOuts.{handed_by, update_out}
use Rattle.c_updates.specs.BatchOuts.{BatchOut, batch_from, batch_out}
use Rattle.c_updates.proofs.UpdateOuts.{gives}
use Rattle.graph.specs.Opening.{Notice}
use Rattle.graph.specs.Updates.{Update, opens}
use Rattle.graph.specs.Batch.{notices_of}
use Rattle.batch_update.specs.BatchCall.{batch_refusal, LentMemory, lent_memory, opening_on, memory_left, open_all, batch_on, BatchLeft, batch_given, batch_call}
use Rattle.batch_update.specs.BatchCall.{Opened}

-- open set and yard set have four words each
abbrev HasRows : Record → Type 0
HasRows rec = (length rec.members ≡ 4) × (length rec.yards ≡ 4)

-- as those of eleven words or more have
rows_four : (l : List ℕ) → record_words ≤ length l → HasRows (record_of l)
unfolding record_of
rows_four l h = (length-take 4 l ∙ omega (arith, h), length-take 4 (drop 7 l) ∙ omega (arith, h, length-drop 7 l))

-- and as they have with other rows written over them
row_stays_lem : (p : ℕ → Bool) (row : List ℕ) → length row ≡ 4 → length (overwrite (encode_row 4 p) row) ≡ 4
row_stays_lem p row e = overwrite_length (encode_row 4 p) row (omega (arith, encode_row_length 4 p, e)) ∙ e

-- no update changes how many they are
given_four : (rec : Record) (links : List ℕ) (B : Lent) (o : Update) → HasRows rec → (k : ℕ) → HasRows (update_given k base rec links B o).after
unfolding update_given
given_four rec links B o e zero =
    let H = network_after base rec links o in
    (row_stays_lem H.is_open rec.members e.0, row_stays_lem H.is_yard rec.yards e.1)
given_four rec links B o e (suc k) = e

-- ---- opening and link

-- the words hold the record that the call leaves, and the tables are its tables
abbrev Holds : ℕ × (List ℕ × ℕ) × (List ℕ × Lent) → UpdateLeft → Type 0
Holds y x = (record_of y.1.0 ≡ x.after) × (y.2.0 ≡ x.links) × (y.2.1 ≡ x.lent)

module _ (l links : List ℕ) (B : Lent) (o : Update) (old : ℕ) (h : record_words ≤ length l) where
  holds_given : (k : ℕ) → let x = update_given k base (record_of l) links B o in Holds (gives l links B o old x) x
  unfolding update_given handed_by
  holds_given zero =
      let four = given_four (record_of l) links B o (rows_four l h) 0 in
      (words_read (update_given 0 base (record_of l) links B o).after l four.0 four.1, refl, refl)
  holds_given (suc k) = (refl, refl, refl)

  -- ON A RECORD OF ELEVEN WORDS the call leaves what `update_call` leaves, accepted or refused: a list of these calls is a list of those
  pub updated_words : Holds (update_out l links B o old) (update_call base (record_of l) links B o)
  unfolding update_call update_out
  updated_words = rw (le-ltb (length l) record_words h) (holds_given (update_refusal base (record_of l) links B.pairs (sizes_of links B) o))

-- ---- the batch

-- the words hold the record that the call leaves; tables and places are its own
abbrev HoldsBatch : BatchOut → BatchLeft → Type 0
HoldsBatch y x =
    (record_of y.1.0 ≡ x.memory.rec) × (y.2.0 ≡ x.memory.links) × (y.2.1 ≡ x.memory.lent) × (y.2.2 ≡ x.left)

holds_batch : (n : ℕ) (x : BatchLeft) (l : List ℕ) (old : ℕ) → HasRows x.memory.rec → HoldsBatch (batch_from (Opened n) x l old) x
unfolding batch_from
holds_batch n x l old e = (words_read x.memory.rec l e.0 e.1, refl, refl, refl)

all_four_lem : (os : List Notice) (M : LentMemory) → HasRows M.rec → HasRows (open_all base M os).rec
unfolding open_all opening_on update_call
all_four_lem [] M e = e
all_four_lem (o ∷ os) M e =
    all_four_lem os (memory_left (opening_on base M o))
    (given_four M.rec M.links M.lent (opens o) e (update_refusal base M.rec M.links M.lent.pairs (sizes_of M.links M.lent) (opens o)))

module _ (l links : List ℕ) (B : Lent) (left : List ℕ) (old : ℕ) (lines : List ℕ) (h : record_words ≤ length l) where
  batch_refused : (k : ℕ) → let x = batch_given (suc k) base (record_of l) links B left lines in HoldsBatch (batch_from x.answer x l old) x
  unfolding batch_given batch_from
  batch_refused k = (refl, refl, refl, refl)

  batch_given_lem : (k : ℕ) → let x = batch_given k base (record_of l) links B left lines in HoldsBatch (batch_from x.answer x l old) x
  unfolding batch_given
  batch_given_lem zero =
      holds_batch _ (batch_given 0 base (record_of l) links B left lines) l old
      (all_four_lem (notices_of (batch_on base (record_of l) links lines).accepted) (lent_memory (record_of l) links B) (rows_four l h))
  batch_given_lem (suc k) = batch_refused k

  -- ON A RECORD OF ELEVEN WORDS the call leaves what `batch_call` leaves, accepted or refused
  pub batched_words : HoldsBatch (batch_out l links B left old lines) (batch_call base (record_of l) links B left lines)
  unfolding batch_call batch_out
  batched_words = rw (le-ltb (length l) record_words h) (batch_given_lem (batch_refusal base (record_of l) links B.pairs (sizes_of links B) (length left) lines))
