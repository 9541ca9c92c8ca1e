-- THE LINES OF A RUN in lent memory: each call whole, its answer and the bytes that it leaves.
-- Assumes nothing.
use Rattle.std.specs.Prelude.{List, ℕ, ◌+◌, ◌*◌, ◌≤◌, length, Result, Ok, Err}
use Rattle.line_buffer.specs.Lines.{pasted}
use Rattle.summary.specs.declared.Summary.{Summary}
use Rattle.summaries.specs.Run.{summing_text, with_file, total_line}
use Rattle.summaries.specs.declared.Totals.{Totals}

-- ---- how great the numbers are

-- the most pairs of 256 depots, and the most that their distances, each below 256, can add up to
abbrev pub most_pairs : ℕ
most_pairs = 32640

abbrev pub most_sum : ℕ
most_sum = 255 * 32640

-- an answer with the numbers that one file can have
unfoldable pub IsOfFile : Result Summary ℕ → Type 0
IsOfFile (Ok s) = (s.sum ≤ most_sum) × (s.pairs ≤ most_pairs)
IsOfFile (Err n) = Unit {0}

-- totals with the numbers that so many files can have
pub record AreOfFiles (t : Totals) : Type 0 where
  pub sum : t.sum ≤ most_sum * t.files
  pub pairs : t.pairs ≤ most_pairs * t.files

-- ---- the calls

-- the line of a file: the place behind it, the totals, and the bytes
unfoldable pub file_call : Totals → Result Summary ℕ → ℕ → List ℕ → ℕ × Totals × List ℕ
file_call t a at out =
    let line = summing_text a in
    (at + length line, with_file a t, pasted line at out)

-- the last line: the place behind it, and the bytes
unfoldable pub total_call : Totals → ℕ → List ℕ → ℕ × List ℕ
total_call t at out = let line = total_line t in (at + length line, pasted line at out)
