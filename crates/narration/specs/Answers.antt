-- WHAT IS PROVED OF THE NARRATION: transcript and narration tell the same answers, line by line,
-- and say the same of each (`tells_alike`, proofs/Theorems).
-- Assumes nothing.
use Rattle.std.specs.Prelude.{◌≡◌, ℕ, Some, None, Ok}
use Rattle.std.specs.List.{flat_map}
use mathlib.Core.List.{List, [], ◌∷◌, ◌++◌, Memᴰ}
use Rattle.notice.specs.Lines.{line_end}
use Rattle.report.specs.Line.{report_line}
use Rattle.report.specs.declared.ReportFields.{ReportFields}
use Rattle.sentences.specs.Reading.{read_sentence}
use Rattle.sentences.specs.declared.Event.{Event}
use Rattle.transcript.specs.Transcript.{update_in, Answer, answers_in, transcript}
use Rattle.narration.specs.Narration.{event_in, named_by, said_on, sentence_text, narration}

-- a text that tells what a report does, of an event: it is a line, and what stands before its end
-- reads as event, outcome and figures of the report
pub record TellsOf (e : Event) (r : ReportFields) (text : List ℕ) : Type 0 where
  pub sentence : List ℕ
  pub is : text ≡ sentence ++ line_end ∷ []
  pub reads : read_sentence sentence ≡ Ok (said_on e r)

-- both tell the answers of an input; where a line spells a frame, its sentence says what its report
-- says, of the event of the update that the frame asks for; any other line keeps its report
pub record TellAlike : Type 0 where
  pub sentences : (input : List ℕ)
      → narration input ≡ flat_map (λ a. sentence_text a.read a.report) (answers_in input)
  pub reports : (input : List ℕ)
      → transcript input ≡ flat_map (λ a. report_line a.report) (answers_in input)
  pub same : (input : List ℕ) (a : Answer) (f : List ℕ) → Memᴰ a (answers_in input)
      → a.read ≡ Some f → TellsOf (event_in f) a.report (sentence_text a.read a.report)
  pub garbled : (r : ReportFields) → sentence_text None r ≡ report_line r
  pub events : (f : List ℕ) → event_in f ≡ named_by (update_in f)
