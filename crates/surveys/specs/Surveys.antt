-- A RUN OVER NOTICE FILES: what was read of each, and what is written of it. Where the bytes of a
-- file or of the writer are not known, nothing is said of them. Assumes nothing.
use Rattle.std.specs.Prelude.{◌≡◌, true, false, Bool, List, [], ◌∷◌, ◌++◌, ℕ, suc, ◌≤◌, length, Option, None, Some, Result, Ok, Err}
use mathlib.Core.Logic.{◌⊎◌}
use Rattle.std.specs.declared.io.Error.{Error}
use Rattle.std.specs.Io.KnownBytes.{Appends}
use Rattle.transcript.specs.Transcript.{lines_limit, network_in}
use Rattle.transcript.specs.Manner.{as_reports}
use Rattle.stream.specs.Pieces.{Standing}
use Rattle.feeding.specs.Reading.{AppendsPart, HasTurned}
use Rattle.summaries.specs.Run.{summing_of, with_file, file_line, run_text}
use Rattle.summaries.specs.Calls.{IsOfFile}
use Rattle.summaries.specs.declared.Totals.{Totals}
use Rattle.surveys.specs.declared.Reported.{Reported}
use Rattle.surveys.specs.declared.Surveyed.{Surveyed}

-- what was read of a file of these bytes: all, or a first part
abbrev pub IsReadOf : Option (List ℕ) → Bool → List ℕ → Type 0
IsReadOf None whole read = Unit
IsReadOf (Some all) true read = read ≡ all
IsReadOf (Some all) false read = (rest : List ℕ) × (read ++ rest ≡ all)

-- a stream went from s to t over what was read of a file: all of it was used, or the stream has had
-- its lines
pub record Follows (known : Option (List ℕ)) (s t : Standing) (whole : Bool) : Type 0 where
  pub read : List ℕ
  pub is_read : IsReadOf known whole read
  pub used : List ℕ
  pub told : List ℕ
  pub turned : HasTurned as_reports s t used told
  pub rest : List ℕ
  pub parts : used ++ rest ≡ read
  pub over : (rest ≡ []) ⊎ (lines_limit ≤ t.progress.lines)

-- the report on a file's map is that of the network that was read, with the numbers of a file
pub record ReportsFile (known : Option (List ℕ)) (x : Reported) : Type 0 where
  pub read : List ℕ
  pub is_read : IsReadOf known x.whole read
  pub is : x.answer ≡ summing_of (network_in read)
  pub of_file : IsOfFile x.answer

-- the line of what was read of a file is written, or a first part of it; then no totals are left
abbrev pub SurveysFile : Option (List ℕ) → Totals → Option (List ℕ) → Option (List ℕ)
    → Result Surveyed Error → Type 0
SurveysFile known t w v (Ok x) =
    (read : List ℕ) × IsReadOf known x.whole read × Appends w v (file_line read)
    × (x.totals ≡ with_file (summing_of (network_in read)) t)
SurveysFile known t w v (Err why) =
    (read : List ℕ) × IsReadOf known false read × AppendsPart w v (file_line read)

-- what was read of the files from number n on, in the order of their numbers
unfoldable pub AreReadOf : (ℕ → Option (List ℕ)) → ℕ → Bool → List (List ℕ) → Type 0
AreReadOf bytes n whole [] = Unit
AreReadOf bytes n whole (read ∷ reads) =
    IsReadOf (bytes n) whole read × AreReadOf bytes (suc n) whole reads

-- THE RUN over so many files: its text is written, of all their bytes if all could be read, else of
-- what was read of each; where a write failed, a first part of the text
abbrev pub Surveys : (ℕ → Option (List ℕ)) → ℕ → Option (List ℕ) → Option (List ℕ)
    → Result Bool Error → Type 0
Surveys bytes count w v (Ok whole) =
    (reads : List (List ℕ)) × (length reads ≡ count) × AreReadOf bytes 0 whole reads
    × Appends w v (run_text reads)
Surveys bytes count w v (Err why) =
    (reads : List (List ℕ)) × (length reads ≤ count) × AreReadOf bytes 0 false reads
    × AppendsPart w v (run_text reads)
