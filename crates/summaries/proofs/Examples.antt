-- RUNS OVER FILES, by computation, with the misreadings that each excludes. Assumes nothing.
use mathlib.Core.Path.{◌≡◌, refl}
use mathlib.Core.List.{[], ◌∷◌}
use Rattle.lists.specs.Lists.{allb}
use Rattle.plain_list.specs.PlainList.{moved}
use Rattle.hexadecimal.specs.Hex.{is_digit, digit_value, bytes_of}
use Rattle.notice.specs.Lines.{end_of, spells_frame, is_frame, read_head}
use Rattle.decimal.specs.Decimal.{spell, decimal}
use Rattle.transcript.specs.Texts.{bytes_in}
use Rattle.summaries.specs.Run.{run_text}

-- No file: the total line alone. Wrong: no total
pub no_files : run_text [] ≡ bytes_in "0 0 0 0\n"
unfolding bytes_in run_text decimal spell
no_files = refl

-- One that is refused: it adds nothing to the total. Wrong: its number added; 0 0 0 0 as its line; the total first
pub refused_alone : run_text (bytes_in "010000\n" ∷ []) ≡ bytes_in "R15\n0 0 0 0\n"
unfolding bytes_in run_text moved allb read_head end_of spells_frame is_frame bytes_of is_digit digit_value decimal spell
refused_alone = refl

-- A path of seven and a path of two: 57 by 22. Wrong: the mean of the means 2 and 1; these added up, by 22; the files in the reverse order
pub means_apart : run_text (bytes_in "010000\n01010100\n01020101\n01030102\n01040103\n01050104\n01060105\n" ∷ bytes_in "010000\n01010100\n" ∷ [])
    ≡ bytes_in "56 21 2 14\n1 1 1 0\n57 22 2 13\n"
unfolding bytes_in run_text moved allb read_head end_of spells_frame is_frame bytes_of is_digit digit_value decimal spell
means_apart = refl

-- a path of three, a single depot, two depots behind a garbled line; the total is of sums, 5 by 4, and leaves the refused map out
pub three_files : run_text (bytes_in "010000\n01010100\n01020101\n" ∷ bytes_in "010000\n" ∷ bytes_in "x\n010500\n01060105\n" ∷ [])
    ≡ bytes_in "4 3 1 1\nR15\n1 1 1 0\n5 4 1 1\n"
unfolding bytes_in run_text moved allb read_head end_of spells_frame is_frame bytes_of is_digit digit_value decimal spell
three_files = refl
