-- WORKED INPUTS that are narrated, by computation. Assumes nothing.
use mathlib.Core.Path.{◌≡◌, refl}
use mathlib.Core.List.{[]}
use Rattle.lists.specs.Lists.{allb}
use Rattle.outcome.specs.Outcome.{letter_of, refusal_of}
use Rattle.plain_list.specs.PlainList.{moved}
use Rattle.decimal.specs.Decimal.{spell, decimal, field}
use Rattle.hexadecimal.specs.Hex.{is_digit, digit_value, bytes_of}
use Rattle.notice.specs.Lines.{end_of, spells_frame, is_frame, read_head}
use Rattle.report.specs.Line.{outcome_text, figures_text}
use Rattle.sentences.specs.Sentence.{start_of, middle_of, figures_of}
use Rattle.transcript.specs.Texts.{bytes_in}
use Rattle.narration.specs.Narration.{narration}

-- nothing in, nothing out
pub nothing : narration [] ≡ []
unfolding narration
nothing = refl

-- a depot, a depot, a yard, a link with the higher code first, a refusal; a garbled line and a last stretch keep their reports
pub each_kind : narration (bytes_in "010000\n01010100\n04020101\n020200\n0201\n010100\n01")
    ≡ bytes_in "Opening depot 0 kept the chain: 1 open, chain 0, pairs 0, searches 1.\nOpening depot 1 grew the chain: 2 open, chain 1, pairs 1, searches 1.\nOpening yard 2 kept the chain: 3 open, chain 1, pairs 1, searches 1.\nLinking 2 and 0 kept the chain: 3 open, chain 1, pairs 1, searches 2.\n5 R9 3 1 1 0\nOpening depot 1 was refused with 5: 3 open, chain 1, pairs 1, searches 0.\n7 R9 3 1 1 0\n"
unfolding bytes_in narration moved allb read_head end_of spells_frame is_frame bytes_of is_digit digit_value
    outcome_text letter_of refusal_of figures_text field decimal spell start_of middle_of figures_of
each_kind = refl
