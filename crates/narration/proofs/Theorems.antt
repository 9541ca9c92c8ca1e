-- THE NARRATION IS THE TRANSCRIPT IN OTHER WORDS: both tell the same answers, line by line, and say the same of each. Assumes nothing.
use mathlib.Core.Path.{◌≡◌, refl, ap, ◌∙◌, sym, subst}
use mathlib.Core.Logic.{◌⊎◌, inl, inr}
use mathlib.Core.Bool.{Bool, true, false, cond}
use mathlib.Core.List.Memᴰ
use mathlib.Core.List.{List, [], ◌∷◌, ◌++◌, Memᴰ}
use Prim.Native.Nat.{ℕ, ◌+◌}
use lib.Dec.{eqb}
use lib.ListN.{take, drop, get_or}
use Rattle.std.specs.Prelude.{Option, Some, None, Ok}
use Rattle.std.specs.List.{flat_map}
use Rattle.graph.specs.Network.{Network}
use Rattle.graph.specs.Opening.{notice_of, empty_network}
use Rattle.graph.specs.Updates.{opens, joins}
use Rattle.map.specs.Memory.{base}
use Rattle.map.proofs.Theorems.{base_shape}
use Rattle.notice.specs.Lines.{line_end, yard_kind, opens_depot, lines_of, Line, garbled, frame, read_line}
use Rattle.report.specs.Line.{report_line}
use Rattle.report.specs.declared.ReportFields.{ReportFields}
use Rattle.sentences.specs.Reading.{read_sentence}
use Rattle.sentences.specs.Sentence.{sentence_of, IsWithin}
use Rattle.sentences.specs.declared.Event.{Event}
use Rattle.sentences.specs.declared.Event.TheVariants.{Depot, Yard, Link}
use Rattle.sentences.proofs.Theorems.{reads_written}
use Rattle.update.proofs.Memories.{IsHeld}
use Rattle.update.proofs.Empties.{empty_held}
use Rattle.transcript.specs.Transcript.{lines_limit, update_in, Followed, follow_line, report_on, frame_in, Answer, answers_from, answers_in, transcript}
use Rattle.transcript.specs.Manner.{told_in}
use Rattle.narration.specs.Narration.{event_in, named_by, said_on, sentence_text, narration}
use Rattle.narration.specs.Answers.{TellsOf, TellAlike}
use Rattle.narration.proofs.Widths.{IsTold, line_told, said_within}

-- ---- THE SAME ANSWERS are told by both

pub narration_tells : (input : List ℕ) → narration input ≡ flat_map (λ a. sentence_text a.read a.report) (answers_in input)
unfolding narration told_in
narration_tells input = refl

pub transcript_tells : (input : List ℕ) → transcript input ≡ flat_map (λ a. report_line a.report) (answers_in input)
unfolding transcript
transcript_tells input = refl

-- ---- AND OF EACH BOTH SAY THE SAME

-- the event that a frame names is that of the update that it asks for
pub events_same : (f : List ℕ) → event_in f ≡ named_by (update_in f)
unfolding event_in update_in named_by
events_same f = by_kind (opens_depot (get_or f 0 0))
  where
    yard : Bool
    yard = eqb (get_or f 0 0) yard_kind

    code : ℕ
    code = get_or f 1 0

    second : ℕ
    second = get_or f 2 0

    by_kind : (opening : Bool) → cond opening (cond yard (Yard code) (Depot code)) (Link code second)
        ≡ named_by (cond opening (opens (notice_of yard code (drop 3 f))) (joins code second))
    by_kind true = refl
    by_kind false = refl

-- of a line that spells a frame it is a sentence that reads as what the report says, if that lies within its widths
pub texts_same : (f : List ℕ) (r : ReportFields) → IsWithin (said_on (event_in f) r) → TellsOf (event_in f) r (sentence_text (Some f) r)
unfolding sentence_text
texts_same f r w = record { sentence = sentence_of (said_on (event_in f) r); is = refl; reads = reads_written (said_on (event_in f) r) w }

-- as it does in every answer of an input
within_from : (n : ℕ) (G : Network) → IsHeld base G → (ls : List (List ℕ)) (a : Answer) (f : List ℕ) → Memᴰ a (answers_from n G ls) → a.read ≡ Some f
    → IsWithin (said_on (event_in f) a.report)
unfolding answers_from
within_from n G held [] a f m p = absurd (Memᴰ.not-nil m)
within_from n G held (l ∷ ls) a f m p = go (Memᴰ.cases_cons m) (λ k. within_from (n + 1) (follow_line G (read_line l)).network (line_told G held l).held ls a f k p)
  where
    x : Followed
    x = follow_line G (read_line l)

    told : IsTold x
    told = line_told G held l

    first : Answer
    first = record { read = frame_in (read_line l); report = report_on (n + 1) x }

    by_line : (found : Line) → read_line l ≡ found → frame_in found ≡ Some f → IsWithin (said_on (event_in f) (report_on (n + 1) x))
    by_line garbled e q = absurd cc
    by_line (frame g u) e q = let same : g ≡ f = cc in said_within (n + 1) x told l f u (e ∙ ap (λ (h : List ℕ). frame h u) same)

    go : (a ≡ first) ⊎ Memᴰ a (answers_from (n + 1) x.network ls) → (Memᴰ a (answers_from (n + 1) x.network ls) → IsWithin (said_on (event_in f) a.report))
        → IsWithin (said_on (event_in f) a.report)
    go (inl q) ih = subst (λ (b : Answer). IsWithin (said_on (event_in f) b.report)) (sym q) (by_line (read_line l) refl (sym (ap (λ (b : Answer). b.read) q) ∙ p))
    go (inr k) ih = ih k

pub answers_within : (input : List ℕ) (a : Answer) (f : List ℕ) → Memᴰ a (answers_in input) → a.read ≡ Some f → IsWithin (said_on (event_in f) a.report)
unfolding answers_in
answers_within input a f m p = within_from 0 empty_network (empty_held base base_shape) (take lines_limit (lines_of input)) a f m p

-- so the text of each answer that has a frame tells what its report does
pub answers_same : (input : List ℕ) (a : Answer) (f : List ℕ) → Memᴰ a (answers_in input) → a.read ≡ Some f → TellsOf (event_in f) a.report (sentence_text a.read a.report)
answers_same input a f m p =
    subst (λ (read : Option (List ℕ)). TellsOf (event_in f) a.report (sentence_text read a.report)) (sym p)
    (texts_same f a.report (answers_within input a f m p))

-- and of any other line the report itself
pub garbled_same : (r : ReportFields) → sentence_text None r ≡ report_line r
unfolding sentence_text
garbled_same r = refl

-- ---- as one promise

pub tells_alike : TellAlike
tells_alike = record { sentences = narration_tells; reports = transcript_tells; same = answers_same; garbled = garbled_same; events = events_same }
