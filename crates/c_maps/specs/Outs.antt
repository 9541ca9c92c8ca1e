-- EMPTYING, THE SEARCH AND THE WHOLE RECKONING for other languages. Each is the call that it wraps,
-- on the record in the lent words: the answer's number, the lent values, and the rest of what is
-- lent. A refused one changes nothing. Assumes nothing.
use Rattle.std.specs.Prelude.{List, ℕ}
use Rattle.lists.specs.Lists.{overwrite}
use Rattle.map.specs.Room.{Tables, Lent}
use Rattle.map.specs.Memory.{base}
use Rattle.map.specs.Empty.{empty_call}
use Rattle.map.specs.declared.Record.{Record}
use Rattle.search.specs.declared.Reach.{Reach}
use Rattle.search.specs.SearchCall.{search_call}
use Rattle.reckon.specs.declared.Reckoned.{Reckoned}
use Rattle.reckon.specs.ReckonCall.{reckon_call}
use Rattle.c_values.specs.Words.{words_of}
use Rattle.c_values.specs.Outs.{on_words}

-- ---- emptying: the record's words (the new record over the first eleven), and both tables

unfoldable pub empty_out : List ℕ → List ℕ → List ℕ → ℕ × List ℕ × (List ℕ × List ℕ)
empty_out words links pairs =
    on_words words (λ (after : Record). overwrite (words_of after) words) words (links, pairs)
    (λ rec. empty_call base links pairs)

-- ---- the search: the eccentricity and the distance of the last layer, and its tables

unfoldable pub search_out : List ℕ → List ℕ → Tables → ℕ × ℕ → ℕ → ℕ × (ℕ × ℕ) × Tables
search_out words links B old code =
    on_words words (λ (r : Reach). (r.ecc, r.depth)) old B
    (λ rec. search_call base rec links B code)

-- ---- the whole reckoning: the record's words and the searches, and the map's tables

unfoldable pub reckon_out : List ℕ → List ℕ → Lent → ℕ → ℕ × (List ℕ × ℕ) × Lent
reckon_out words links B old =
    on_words words (λ (a : Reckoned). (overwrite (words_of a.after) words, a.searches)) (words, old) B
    (λ rec. reckon_call base rec links B)
