-- THE LINES OF A BATCH, counted as the stream counts them: what each asks to open, and what refuses the whole batch.
-- Assumes nothing.
use Rattle.std.specs.Prelude.{Bool, true, false, not, List, [], ◌∷◌, ℕ, suc, ltb, length}
use Rattle.std.proofs.Math.Option.{Option, none, some}
use Rattle.lists.specs.Lists.{allb}
use Rattle.outcome.specs.Numbers.{overfull_batch, bare_map, garbled_line}
use Rattle.graph.specs.Opening.{Notice}
use Rattle.graph.specs.Updates.{Update, opens, joins}
use Rattle.graph.specs.Batch.{Entry, entry_of}
use Rattle.notice.specs.Lines.{Line, garbled, frame, lines_of, read_line}
use Rattle.transcript.specs.Transcript.{update_in}

-- the most lines of a batch, and the places lent for the numbers of those left over
abbrev pub batch_limit : ℕ
batch_limit = 64

-- ---- a line

-- the notice of an update that opens something; an update of another kind has none
unfoldable pub opening_in : Update → Option Notice
opening_in (opens o) = some o
opening_in (joins a b) = none

-- the notice of a line as the reader takes it; none: the line is garbled here
unfoldable pub notice_in : Line → Option Notice
unfolding update_in opening_in
notice_in garbled = none
notice_in (frame f used) = opening_in (update_in f)

unfoldable pub is_some : Option Notice → Bool
is_some none = false
is_some (some o) = true

unfoldable pub is_opening : List ℕ → Bool
unfolding read_line notice_in is_some
is_opening l = is_some (notice_in (read_line l))

-- ---- the entries

-- an entry before others; a garbled line is none, and refuses the batch
unfoldable pub entry_before : ℕ → Option Notice → List Entry → List Entry
entry_before n none es = es
entry_before n (some o) es = entry_of n o ∷ es

-- the entries of some lines, numbered from n on
unfoldable pub entries_from : ℕ → List (List ℕ) → List Entry
unfolding read_line notice_in entry_before
entries_from n [] = []
entries_from n (l ∷ ls) = entry_before n (notice_in (read_line l)) (entries_from (suc n) ls)

-- the entries of an input, numbered from 0
unfoldable pub entries_of : List ℕ → List Entry
unfolding entries_from lines_of
entries_of input = entries_from 0 (lines_of input)

-- ---- what refuses a batch

-- the conditions 11, 12 and 9 as tests, each with its number; n counts the open depots
unfoldable pub batch_faults : ℕ → List ℕ → List (Bool × ℕ)
unfolding lines_of allb is_opening
batch_faults n input =
    (ltb batch_limit (length (lines_of input)), overfull_batch)
    ∷ (not (ltb 0 n), bare_map)
    ∷ (not (allb is_opening (lines_of input)), garbled_line)
    ∷ []
