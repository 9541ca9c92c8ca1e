-- OPENING AND LINK for other languages. Each is the call that it wraps, on the record in the lent
-- words: the answer's number, the lent values, and the rest of what is lent. A refused one changes
-- nothing. Assumes nothing.
use Rattle.std.specs.Prelude.{List, ℕ, nat_lt, if◌then◌else◌, length}
use Rattle.lists.specs.Lists.{overwrite}
use Rattle.graph.specs.Updates.{Update}
use Rattle.map.specs.Room.{Lent}
use Rattle.map.specs.Memory.{base}
use Rattle.map.specs.declared.Record.{Record}
use Rattle.outcome.specs.Numbers.{short_buffer}
use Rattle.outcome.specs.Outcome.{letter_of}
use Rattle.outcome.specs.declared.Outcome.{Outcome}
use Rattle.outcome.specs.declared.Outcome.TheVariants.{Accepted, Refused}
use Rattle.update.specs.UpdateCall.{update_call}
use Rattle.c_values.specs.Words.{record_words, record_of, words_of}

-- the letter of an accepted update (71 G, 75 K, 83 S), the new record over the first words and the
-- searches; or the refusal's number, and what stood there
unfoldable pub handed_by : Outcome → Record → ℕ → List ℕ → ℕ → ℕ × (List ℕ × ℕ)
handed_by (Accepted c) after n words old =
    (letter_of (Accepted c), (overwrite (words_of after) words, n))
handed_by (Refused k) after n words old = (k, (words, old))

-- with the link table and the map's tables
unfoldable pub update_out : List ℕ → List ℕ → Lent → Update → ℕ
    → ℕ × (List ℕ × ℕ) × (List ℕ × Lent)
update_out words links B o old =
    let x = update_call base (record_of words) links B o in
    let h = handed_by x.report.outcome x.after x.report.searches words old in
    if nat_lt (length words) record_words then (short_buffer, (words, old), (links, B))
    else (h.0, h.1, (x.links, x.lent))
