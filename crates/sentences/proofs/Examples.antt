-- One sentence of each start and each middle, both ways, and texts that are garbled, computed. Assumes nothing.
use mathlib.Core.Path.{◌≡◌, refl}
use mathlib.Core.List.{List}
use Prim.Native.Nat.{ℕ}
use Rattle.std.specs.Prelude.{Ok, Err, codes as ascii}
use Rattle.decimal.specs.Decimal.{spell, decimal}
use Rattle.decimal.specs.Strip.{goes_on, strip_more, strip_decimal}
use Rattle.outcome.specs.declared.Change.TheVariants.{Grew, Kept, Shrank}
use Rattle.outcome.specs.declared.Outcome.{Outcome}
use Rattle.outcome.specs.declared.Outcome.TheVariants.{Accepted, Refused}
use Rattle.outcome.specs.declared.Refusal.TheVariants.{Garbled}
use Rattle.sentences.specs.Sentence.{start_of, middle_of, figures_of, sentence_of}
use Rattle.sentences.specs.Readers.{behind, part}
use Rattle.sentences.specs.Reading.{read_event, read_link, read_outcome, read_said, read_sentence}
use Rattle.sentences.specs.declared.Event.{Event}
use Rattle.sentences.specs.declared.Event.TheVariants.{Depot, Yard, Link, Closing}
use Rattle.sentences.specs.declared.Said.{Said}

-- an event and an outcome, with the figures of every example, four that differ
abbrev said : Event → Outcome → Said
said e o = record { event = e; outcome = o; depots = 7; chain = 3; pairs = 2; searches = 6 }

-- ---- written. Wrong: two middles or two starts alike; a separator, or the number of a refusal, left out; the codes of a link or two of the figures
-- in the other order

pub depot_written : sentence_of (said (Depot 5) (Accepted Shrank)) ≡ ascii "Opening depot 5 shrank the chain: 7 open, chain 3, pairs 2, searches 6."
unfolding sentence_of start_of middle_of figures_of decimal spell
depot_written = refl

pub yard_written : sentence_of (said (Yard 5) (Accepted Kept)) ≡ ascii "Opening yard 5 kept the chain: 7 open, chain 3, pairs 2, searches 6."
unfolding sentence_of start_of middle_of figures_of decimal spell
yard_written = refl

pub link_written : sentence_of (said (Link 3 5) (Refused 7)) ≡ ascii "Linking 3 and 5 was refused with 7: 7 open, chain 3, pairs 2, searches 6."
unfolding sentence_of start_of middle_of figures_of decimal spell
link_written = refl

pub closing_written : sentence_of (said (Closing 5) (Accepted Grew)) ≡ ascii "Closing 5 grew the chain: 7 open, chain 3, pairs 2, searches 6."
unfolding sentence_of start_of middle_of figures_of decimal spell
closing_written = refl

-- ---- read

pub depot_read : read_sentence (ascii "Opening depot 5 shrank the chain: 7 open, chain 3, pairs 2, searches 6.") ≡ Ok (said (Depot 5) (Accepted Shrank))
unfolding read_sentence read_said read_event read_link read_outcome behind part strip_decimal strip_more goes_on
depot_read = refl

pub yard_read : read_sentence (ascii "Opening yard 5 kept the chain: 7 open, chain 3, pairs 2, searches 6.") ≡ Ok (said (Yard 5) (Accepted Kept))
unfolding read_sentence read_said read_event read_link read_outcome behind part strip_decimal strip_more goes_on
yard_read = refl

pub link_read : read_sentence (ascii "Linking 3 and 5 was refused with 7: 7 open, chain 3, pairs 2, searches 6.") ≡ Ok (said (Link 3 5) (Refused 7))
unfolding read_sentence read_said read_event read_link read_outcome behind part strip_decimal strip_more goes_on
link_read = refl

pub closing_read : read_sentence (ascii "Closing 5 grew the chain: 7 open, chain 3, pairs 2, searches 6.") ≡ Ok (said (Closing 5) (Accepted Grew))
unfolding read_sentence read_said read_event read_link read_outcome behind part strip_decimal strip_more goes_on
closing_read = refl

pub greatest_read : read_sentence (ascii "Linking 65535 and 0 was refused with 255: 7 open, chain 3, pairs 2, searches 6.") ≡ Ok (said (Link 65535 0) (Refused 255))
unfolding read_sentence read_said read_event read_link read_outcome behind part strip_decimal strip_more goes_on
greatest_read = refl

-- ---- garbled

-- a text that does not read
abbrev IsGarbled : List ℕ → Type 0
IsGarbled text = read_sentence text ≡ Err Garbled

pub leading_zero : IsGarbled (ascii "Opening depot 05 shrank the chain: 7 open, chain 3, pairs 2, searches 6.")
unfolding read_sentence read_said read_event read_link read_outcome behind part strip_decimal strip_more goes_on
leading_zero = refl

pub code_too_large : IsGarbled (ascii "Closing 65536 kept the chain: 7 open, chain 3, pairs 2, searches 6.")
unfolding read_sentence read_said read_event read_link read_outcome behind part strip_decimal strip_more goes_on
code_too_large = refl

pub refusal_too_large : IsGarbled (ascii "Closing 5 was refused with 256: 7 open, chain 3, pairs 2, searches 6.")
unfolding read_sentence read_said read_event read_link read_outcome behind part strip_decimal strip_more goes_on
refusal_too_large = refl

pub pairs_too_large : IsGarbled (ascii "Closing 5 kept the chain: 7 open, chain 3, pairs 4294967296, searches 6.")
unfolding read_sentence read_said read_event read_link read_outcome behind part strip_decimal strip_more goes_on
pairs_too_large = refl

pub no_full_stop : IsGarbled (ascii "Opening depot 5 shrank the chain: 7 open, chain 3, pairs 2, searches 6")
unfolding read_sentence read_said read_event read_link read_outcome behind part strip_decimal strip_more goes_on
no_full_stop = refl

pub line_end : IsGarbled (ascii "Opening depot 5 shrank the chain: 7 open, chain 3, pairs 2, searches 6.\n")
unfolding read_sentence read_said read_event read_link read_outcome behind part strip_decimal strip_more goes_on
line_end = refl

pub lower_case : IsGarbled (ascii "opening depot 5 shrank the chain: 7 open, chain 3, pairs 2, searches 6.")
unfolding read_sentence read_said read_event read_link read_outcome behind part strip_decimal strip_more goes_on
lower_case = refl

pub empty_text : IsGarbled (ascii "")
unfolding read_sentence read_said read_event read_link read_outcome behind part strip_decimal strip_more goes_on
empty_text = refl
