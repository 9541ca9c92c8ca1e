-- WORDS FOR CONTRACTS: the entries that are not taken yet, an answer of the scan, the numbers left over. Assumes nothing.
use Rattle.std.specs.Prelude.{cond, not, List, ℕ, ◌+◌, ◌-◌, ◌≤◌, ◌<◌, eqb, length, get_or, set, take, drop, Option as Answer, Some, None}
use Rattle.std.proofs.Math.Option.{Option, none, some}
use Rattle.lists.specs.Lists.{range, filterb, overwrite}
use Rattle.words.specs.Bits.{bit}
use Rattle.graph.specs.Opening.{Notice, notice_of}
use Rattle.graph.specs.Batch.{Entry, entry_of}
use Rattle.notice.specs.Lines.{yard_kind, opens_depot, Line, garbled, frame}
use Rattle.batch.specs.Lines.{batch_limit}
use Rattle.batch.specs.declared.Fit.{Fit}

-- the bytes of a line that opens something; None: it is garbled here
unfoldable pub opening_length : Line → Answer ℕ
opening_length garbled = None
opening_length (frame f used) = cond (opens_depot (get_or f 0 0)) (Some used) None

-- the entries whose numbers are not in the word `taken`
unfoldable pub waiting_of : ℕ → List Entry → List Entry
waiting_of taken es = filterb (λ e. not (bit taken e.number)) es

-- the notice of the frame of n bytes, which opens something
abbrev pub notice_at : List ℕ → ℕ → Notice
notice_at bytes n = notice_of (eqb (get_or bytes 0 0) yard_kind) (get_or bytes 1 0) (take (n - 3) (drop 3 bytes))

-- the entry that a scan found: its number, and its notice in the frame of n bytes
unfoldable pub fit_of : Answer Fit → List ℕ → Option Entry
fit_of None bytes = none
fit_of (Some f) bytes = some (entry_of f.number (notice_at bytes f.length))

-- the number is that of a line, and the notice stands in a frame of m bytes
abbrev pub FitsFrame : Answer Fit → ℕ → Type 0
FitsFrame None m = Unit {0}
FitsFrame (Some f) m = (f.number < batch_limit) × (3 ≤ f.length) × (f.length ≤ m)

-- of n lines the numbers that are not taken
unfoldable pub left_numbers : ℕ → ℕ → List ℕ
left_numbers taken n = filterb (λ i. not (bit taken i)) (range n)

-- what is left in the lent places: how many numbers, and every place
pub record Leavings : Type 0 where
  pub count : ℕ
  pub places : List ℕ

abbrev pub leavings : ℕ → List ℕ → Leavings
leavings n places = record { count = n; places = places }

-- some numbers over the first places; those behind keep their values
unfoldable pub left_over : List ℕ → List ℕ → Leavings
unfolding overwrite
left_over ns places = leavings (length ns) (overwrite ns places)

-- one number behind n others, unless it is taken
unfoldable pub put_number : ℕ → ℕ → ℕ → List ℕ → Leavings
put_number taken number n places = cond (bit taken number) (leavings n places) (leavings (n + 1) (set places n number))
