-- One outcome of each kind as numbers, both ways, and numbers of nothing, computed; and a call of each kind. Assumes nothing.
use mathlib.Core.Path.{◌≡◌, refl}
use mathlib.Core.List.{[]}
use Rattle.std.specs.Prelude.{ℕ, Some, None, codes as ascii}
use Rattle.decimal.specs.Strip.{goes_on, strip_more, strip_decimal}
use Rattle.outcome.specs.Outcome.{letter_of}
use Rattle.outcome.specs.declared.Change.TheVariants.{Grew, Kept, Shrank}
use Rattle.outcome.specs.declared.Outcome.{Outcome}
use Rattle.outcome.specs.declared.Outcome.TheVariants.{Accepted, Refused}
use Rattle.sentences.specs.Readers.{behind, part}
use Rattle.sentences.specs.Reading.{read_event, read_link, read_outcome, read_said, read_sentence}
use Rattle.sentences.specs.declared.Event.{Event}
use Rattle.sentences.specs.declared.Event.TheVariants.{Depot, Yard, Link, Closing}
use Rattle.sentences.specs.declared.Said.{Said}
use Rattle.c_sentences.specs.declared.Numbers.{Numbers}
use Rattle.c_sentences.specs.Numbers.{event_numbers, outcome_numbers, numbers_of, event_of, outcome_of, said_of}
use Rattle.c_sentences.specs.Outs.{write_out, read_out}

-- an event and an outcome, with the figures of every example
abbrev said : Event → Outcome → Said
said e o = record { event = e; outcome = o; depots = 6; chain = 3; pairs = 2; searches = 6 }

-- and the numbers of the same figures
abbrev numbers : ℕ × ℕ × ℕ → ℕ × ℕ → Numbers
numbers e o = record { event = e; outcome = o; figures = (6, 3, 2, 6) }

-- ---- numbers

pub depot_numbers : numbers_of (said (Depot 5) (Accepted Shrank)) ≡ numbers (1, 5, 0) (83, 0)
unfolding numbers_of event_numbers outcome_numbers letter_of
depot_numbers = refl

pub link_numbers : numbers_of (said (Link 3 5) (Refused 7)) ≡ numbers (2, 3, 5) (0, 7)
unfolding numbers_of event_numbers outcome_numbers
link_numbers = refl

pub yard_said : said_of (numbers (4, 5, 0) (75, 0)) ≡ Some (said (Yard 5) (Accepted Kept))
unfolding said_of event_of outcome_of
yard_said = refl

pub closing_said : said_of (numbers (3, 5, 0) (71, 0)) ≡ Some (said (Closing 5) (Accepted Grew))
unfolding said_of event_of outcome_of
closing_said = refl

-- 71 as a refusal is told from the letter
pub refused_said : said_of (numbers (3, 5, 0) (0, 71)) ≡ Some (said (Closing 5) (Refused 71))
unfolding said_of event_of outcome_of
refused_said = refl

-- ---- numbers of nothing

pub kind_unknown : said_of (numbers (5, 5, 0) (71, 0)) ≡ None
unfolding said_of event_of outcome_of
kind_unknown = refl

pub two_codes_of_a_yard : said_of (numbers (4, 5, 1) (71, 0)) ≡ None
unfolding said_of event_of outcome_of
two_codes_of_a_yard = refl

pub letter_unknown : said_of (numbers (2, 3, 5) (82, 0)) ≡ None
unfolding said_of event_of outcome_of
letter_unknown = refl

pub letter_and_refusal : said_of (numbers (2, 3, 5) (71, 7)) ≡ None
unfolding said_of event_of outcome_of
letter_and_refusal = refl

-- ---- calls

pub short_first : write_out (numbers (5, 5, 0) (71, 0)) [] 8 ≡ (1, 8, [])
unfolding write_out
short_first = refl

pub link_read : (before : Numbers) → read_out (ascii "Linking 3 and 5 was refused with 7: 6 open, chain 3, pairs 2, searches 6.") before ≡ (0, numbers (2, 3, 5) (0, 7))
unfolding read_out read_sentence read_said read_event read_link read_outcome behind part strip_decimal strip_more goes_on numbers_of event_numbers outcome_numbers
link_read before = refl

pub text_unread : (before : Numbers) → read_out (ascii "Linking 3 and 05 was refused with 7: 6 open, chain 3, pairs 2, searches 6.") before ≡ (9, before)
unfolding read_out read_sentence read_said read_event read_link read_outcome behind part strip_decimal strip_more goes_on
text_unread before = refl
