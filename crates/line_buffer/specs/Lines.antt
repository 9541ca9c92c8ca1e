-- THE LINES OF A STREAM in lent memory: the line buffer, the answer behind what is written, and
-- where a step stops. Assumes nothing.
use Rattle.std.specs.Prelude.{◌≡◌, ◌*◌, ◌≤◌, length, Bool, true, false, cond, ◌||◌, List, [], ◌∷◌, ◌++◌, ℕ, ◌+◌, eqb, ltb, leb, take, drop, set}
use Rattle.lists.specs.Lists.{overwrite}
use Rattle.notice.specs.Lines.{line_limit, line_end, frame, read_line}
use Rattle.report.specs.declared.ReportFields.{ReportFields}
use Rattle.update.specs.declared.Returned.{Returned}
use Rattle.transcript.specs.Transcript.{lines_limit}
use Rattle.line_buffer.specs.declared.Gathered.{Gathered}

-- ---- the line buffer

-- the buffer, and how many bytes of the next line it holds
pub record Holding : Type 0 where
  pub line : List ℕ
  pub held : ℕ

abbrev pub holding : List ℕ → ℕ → Holding
holding line held = record { line = line; held = held }

-- a byte behind those that are held; past 517 nothing is kept
unfoldable pub hold_byte : ℕ → Holding → Holding
hold_byte b h = cond (ltb h.held line_limit) (holding (set h.line h.held b) (h.held + 1)) h

-- what the buffer takes of the bytes behind the place `at`: up to the end of a line, or all
pub record PartLeft : Type 0 where
  pub at : ℕ
  pub ended : Bool
  pub buffer : Holding

abbrev pub part_left : Gathered → List ℕ → PartLeft
part_left p line = record { at = p.at; ended = p.ended; buffer = holding line p.held }

unfoldable pub part_from : ℕ → Holding → List ℕ → PartLeft
part_from at h [] = record { at = at; ended = false; buffer = h }
part_from at h (b ∷ bs) = cond (eqb b line_end) (record { at = at + 1; ended = true; buffer = hold_byte b h }) (part_from (at + 1) (hold_byte b h) bs)

-- a text begins with a line that ends and spells a frame of n bytes
pub record StandsWhole (n : ℕ) (text : List ℕ) : Type 0 where
  pub spelled : List ℕ
  pub reads : read_line text ≡ frame spelled (2 * n + 1)
  pub fits : 2 * n + 1 ≤ length text
  pub within : 2 * n + 1 ≤ line_limit

-- ---- the answer

-- the report of line n
abbrev pub report_of : ℕ → Returned → ReportFields
report_of n x = record {
  number = n;
  outcome = x.report.outcome;
  depots = x.after.number;
  chain = x.after.chain;
  pairs = x.after.count;
  searches = x.report.searches;
}

-- a text over the bytes from the place `at` on; those before and behind it stay
unfoldable pub pasted : List ℕ → ℕ → List ℕ → List ℕ
pasted text at old = take at old ++ overwrite text (drop at old)

-- ---- the stop

-- no further line may be begun: a text for which so many bytes have to be free may not fit, or the
-- stream has had its lines
unfoldable pub is_stopped : ℕ → ℕ → ℕ → ℕ → Bool
is_stopped needed lines written room = ltb room (written + needed) || leb lines_limit lines
