-- HOW THE OUTCOMES OF AN INPUT ARE TOLD: the whole output for any manner of telling a line's
-- answer. Told as reports it is the transcript (`told_transcript`, proofs/Manners). Assumes
-- nothing.
use Rattle.std.specs.Prelude.{List, ℕ, Option, flat_map}
use Rattle.report.specs.Line.{buffer_limit, report_line}
use Rattle.report.specs.declared.ReportFields.{ReportFields}
use Rattle.transcript.specs.Transcript.{answers_in}

-- the text of a line's answer, by the frame that the line spells, if any, and what its report has;
-- and the bytes that have to be free for a text
pub record Manner : Type 0 where
  pub text : Option (List ℕ) → ReportFields → List ℕ
  pub room : ℕ

-- each answer is its report (rule 10.1)
abbrev pub as_reports : Manner
as_reports = record { text = λ read r. report_line r; room = buffer_limit }

-- the whole output of an input, from an empty map
unfoldable pub told_in : Manner → List ℕ → List ℕ
unfolding answers_in
told_in M input = flat_map (λ a. M.text a.read a.report) (answers_in input)
