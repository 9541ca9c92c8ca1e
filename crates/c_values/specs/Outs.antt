-- WHAT A CALL FOR OTHER LANGUAGES LEAVES, by the call that it wraps: the answer's number, 0 for none,
-- the lent values, and the rest of what is lent. Assumes nothing.
use Rattle.std.specs.Prelude.{List, ℕ, nat_lt, if◌then◌else◌, length, Result, Ok, Err}
use Rattle.map.specs.declared.Record.{Record}
use Rattle.outcome.specs.Answers.{Left}
use Rattle.outcome.specs.Numbers.{short_buffer}
use Rattle.c_values.specs.Words.{record_words, record_of}

-- the lent values are new, or what stood there where the call is refused
unfoldable pub handed : {A V M : Type 0} → (A → V) → V → Result A ℕ → M → ℕ × V × M
handed new old (Ok a) lent = (0, new a, lent)
handed new old (Err k) lent = (k, old, lent)

-- of a call on the record in the lent words: too few words are short, and then nothing changes
unfoldable pub on_words : {A V M : Type 0} → List ℕ → (A → V) → V → M → (Record → Left A M)
    → ℕ × V × M
on_words words new old lent call =
    let x = call (record_of words) in
    if nat_lt (length words) record_words then (short_buffer, old, lent)
    else handed new old x.answer x.lent
