-- THE NARRATION: each outcome told as a sentence on a line. A line that spells no frame names no
-- event, and keeps its report. It is the transcript in other words: `answers_same` and
-- `garbled_same` (proofs/Theorems) say so of each answer. Assumes nothing.
use Rattle.std.specs.Prelude.{cond, List, [], ◌∷◌, ◌++◌, ℕ, ◌+◌, eqb, get_or, Option, Some, None}
use Rattle.graph.specs.Updates.{Update, opens, joins}
use Rattle.notice.specs.Lines.{line_end, yard_kind, opens_depot}
use Rattle.report.specs.Line.{report_line}
use Rattle.report.specs.declared.ReportFields.{ReportFields}
use Rattle.sentences.specs.Sentence.{said, sentence_of}
use Rattle.sentences.specs.Calls.{buffer_limit}
use Rattle.sentences.specs.declared.Event.{Event}
use Rattle.sentences.specs.declared.Event.TheVariants.{Depot, Yard, Link}
use Rattle.sentences.specs.declared.Said.{Said}
use Rattle.transcript.specs.Manner.{Manner, told_in}

-- the event that a frame names, by its kind
unfoldable pub event_in : List ℕ → Event
unfolding opens_depot
event_in f =
    let kind = get_or f 0 0 in
    let code = get_or f 1 0 in
    cond (opens_depot kind) (cond (eqb kind yard_kind) (Yard code) (Depot code))
    (Link code (get_or f 2 0))

-- and the event of an update: `events_same` (proofs/Theorems) has that a frame names the event of
-- the update that it asks for
unfoldable pub named_by : Update → Event
named_by (opens o) = cond o.yard (Yard o.code) (Depot o.code)
named_by (joins a b) = Link a b

-- what is said of an event: all that its report has, but the line's number
abbrev pub said_on : Event → ReportFields → Said
said_on e r = said e r.outcome (r.depots, r.chain, r.pairs, r.searches)

-- the text of a line's answer: the sentence of its event on a line, or its report
unfoldable pub sentence_text : Option (List ℕ) → ReportFields → List ℕ
unfolding event_in sentence_of report_line
sentence_text None r = report_line r
sentence_text (Some f) r = sentence_of (said_on (event_in f) r) ++ line_end ∷ []

-- the bytes that have to be free are those of a sentence and the line's end; a report takes fewer
abbrev pub as_sentences : Manner
as_sentences = record { text = sentence_text; room = buffer_limit + 1 }

-- the whole output of an input, from an empty map
unfoldable pub narration : List ℕ → List ℕ
unfolding told_in sentence_text
narration input = told_in as_sentences input
