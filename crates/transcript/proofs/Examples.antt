-- WORKED INPUTS of the stream, by computation: what rules 10.1 and 10.3 say of blank lines, stretches, refusals, links and yards. The seven lines stand
-- in the table of cases (crate cases). Assumes nothing.
use mathlib.Core.Path.{◌≡◌, refl}
use mathlib.Core.List.{List, [], ◌∷◌, ◌++◌}
use Prim.Native.Nat.{ℕ, zero, suc}
use Rattle.lists.specs.Lists.{allb}
use Rattle.outcome.specs.Outcome.{letter_of, refusal_of}
use Rattle.plain_list.specs.PlainList.{moved}
use Rattle.decimal.specs.Decimal.{spell, decimal, field}
use Rattle.hexadecimal.specs.Hex.{is_digit, digit_value, bytes_of}
use Rattle.notice.specs.Lines.{end_of, spells_frame, is_frame, read_head}
use Rattle.report.specs.Line.{outcome_text, figures_text}
use Rattle.transcript.specs.Transcript.{transcript}
use Rattle.transcript.specs.Texts.{bytes_in}

-- nothing in, nothing out
pub nothing : transcript [] ≡ []
unfolding transcript
nothing = refl

-- a last stretch without 0A is garbled, a well-formed frame too; a blank line is; lines are counted from 1
pub stretches : transcript (bytes_in "\n010000\n01010100") ≡ bytes_in "1 R9 0 0 0 0\n2 K 1 0 0 1\n3 R9 1 0 0 0\n"
unfolding bytes_in transcript moved allb read_head end_of spells_frame is_frame bytes_of is_digit digit_value
    outcome_text letter_of refusal_of figures_text field decimal spell
stretches = refl

-- a refused line has the map's present figures and no search: taken, lonely, unsorted, unknown, garbled
pub refusals : transcript (bytes_in "010000\n01010100\n010100\n010200\n0102020100\n01020103\n0102\n") ≡ bytes_in "1 K 1 0 0 1\n2 G 2 1 1 1\n3 R5 2 1 1 0\n4 R6 2 1 1 0\n5 R7 2 1 1 0\n6 R8 2 1 1 0\n7 R9 2 1 1 0\n"
unfolding bytes_in transcript moved allb read_head end_of spells_frame is_frame bytes_of is_digit digit_value
    outcome_text letter_of refusal_of figures_text field decimal spell
refusals = refl

-- a path of three closed to a triangle, its link told with the higher code first: shrank, with three searches; then linked, itself, absent; a count
-- behind the codes and a kind 03 are garbled
pub links : transcript (bytes_in "010000\n01010100\n01020101\n020200\n020002\n020101\n020009\n02000200\n030002\n")
    ≡ bytes_in "1 K 1 0 0 1\n2 G 2 1 1 1\n3 G 3 2 1 1\n4 S 3 1 3 3\n5 R14 3 1 3 0\n6 R13 3 1 3 0\n7 R4 3 1 3 0\n8 R9 3 1 3 0\n9 R9 3 1 3 0\n"
unfolding bytes_in transcript moved allb read_head end_of spells_frame is_frame bytes_of is_digit digit_value
    outcome_text letter_of refusal_of figures_text field decimal spell
links = refl

-- the first opening is a yard's: kept, with one search; so is that of a depot beside it, since nobody else delivers
pub yard_first : transcript (bytes_in "040500\n01060105\n") ≡ bytes_in "1 K 1 0 0 1\n2 K 2 0 0 1\n"
unfolding bytes_in transcript moved allb read_head end_of spells_frame is_frame bytes_of is_digit digit_value
    outcome_text letter_of refusal_of figures_text field decimal spell
yard_first = refl

-- Chains run through yards and end at none. Depot 0, yard 1, yard 2 in a row keep a chain of 0, and the depot 3 behind them makes it 3. The yard 4 beside
-- 0 and 3 shrinks it to 2, in five searches: 4, 0, 1, 2, 3. Depot 5 beside 4 adds two pairs. From yard 6 beside 5 the way to 0 and 3 is 3, which grows
-- nothing; a link of the two yards 4 and 6 keeps all
pub through_yards : transcript (bytes_in "010000\n04010100\n04020101\n01030102\n0404020003\n01050104\n04060105\n020406\n")
    ≡ bytes_in "1 K 1 0 0 1\n2 K 2 0 0 1\n3 K 3 0 0 1\n4 G 4 3 1 1\n5 S 5 2 1 5\n6 K 6 2 3 1\n7 K 7 2 3 1\n8 K 7 2 3 2\n"
unfolding bytes_in transcript moved allb read_head end_of spells_frame is_frame bytes_of is_digit digit_value
    outcome_text letter_of refusal_of figures_text field decimal spell
through_yards = refl

-- a yard is refused as any depot is: taken, lonely, unsorted, unknown; garbled where its neighbours are fewer than it says; and no kind 05 is known
pub yards_refused : transcript (bytes_in "010000\n04010100\n040100\n040200\n0402020100\n04020103\n040201\n050200\n")
    ≡ bytes_in "1 K 1 0 0 1\n2 K 2 0 0 1\n3 R5 2 0 0 0\n4 R6 2 0 0 0\n5 R7 2 0 0 0\n6 R8 2 0 0 0\n7 R9 2 0 0 0\n8 R9 2 0 0 0\n"
unfolding bytes_in transcript moved allb read_head end_of spells_frame is_frame bytes_of is_digit digit_value
    outcome_text letter_of refusal_of figures_text field decimal spell
yards_refused = refl

-- n zeros, as digits
unfoldable pub zeros_text : ℕ → List ℕ
zeros_text zero = []
zeros_text (suc n) = 48 ∷ zeros_text n

-- an overlong line is one garbled line, and the next one begins behind its 0A
pub overlong : transcript (zeros_text 600 ++ bytes_in "\n010000\n") ≡ bytes_in "1 R9 0 0 0 0\n2 K 1 0 0 1\n"
unfolding bytes_in transcript moved allb read_head end_of spells_frame is_frame bytes_of is_digit digit_value
    outcome_text letter_of refusal_of figures_text field decimal spell zeros_text
overlong = refl
