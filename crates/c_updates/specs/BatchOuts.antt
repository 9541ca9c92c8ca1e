-- OPENINGS IN A BATCH for other languages. It is the call that it wraps, on the record in the lent
-- words: the answer's number, the lent values, and the rest of what is lent. A refused one changes
-- nothing. Assumes nothing.
use Rattle.std.specs.Prelude.{List, ℕ, nat_lt, if◌then◌else◌, length}
use Rattle.lists.specs.Lists.{overwrite}
use Rattle.map.specs.Room.{Lent}
use Rattle.map.specs.Memory.{base}
use Rattle.batch_update.specs.BatchCall.{BatchLeft, batch_call, BatchAnswer, Opened, Refused as NoBatch}
use Rattle.outcome.specs.Numbers.{short_buffer}
use Rattle.c_values.specs.Words.{record_words, record_of, words_of}

-- number; the record's words and how many lines are left over; link table, map's tables and the
-- places for the lines that are left over
abbrev pub BatchOut : Type 0
BatchOut = ℕ × (List ℕ × ℕ) × (List ℕ × Lent × List ℕ)

unfoldable pub batch_from : BatchAnswer → BatchLeft → List ℕ → ℕ → BatchOut
batch_from (Opened n) x words old =
    (0, (overwrite (words_of x.memory.rec) words, n), (x.memory.links, x.memory.lent, x.left))
batch_from (NoBatch k) x words old = (k, (words, old), (x.memory.links, x.memory.lent, x.left))

unfoldable pub batch_out : List ℕ → List ℕ → Lent → List ℕ → ℕ → List ℕ → BatchOut
batch_out words links B left old lines =
    let x = batch_call base (record_of words) links B left lines in
    if nat_lt (length words) record_words then (short_buffer, (words, old), (links, B, left))
    else batch_from x.answer x words old
