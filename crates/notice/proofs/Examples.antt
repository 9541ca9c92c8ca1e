-- The lines of rule 7.2, and one that opens a yard, computed. Assumes nothing.
use mathlib.Core.Path.{◌≡◌, refl}
use mathlib.Core.Bool.{true, false}
use mathlib.Core.List.{List, [], ◌∷◌, ◌++◌}
use Prim.Native.Nat.{ℕ}
use Rattle.lists.specs.Lists.{allb}
use Rattle.hexadecimal.specs.Hex.{hex_digit, is_digit, digit_value, digits_of, bytes_of}
use Rattle.notice.specs.Lines.{is_frame, line_of, end_of, spells_frame, garbled, frame, read_head, read_line}

-- the frame 01 05 03 00 02 04, and `010503000204` with its ending
abbrev opening : List ℕ
opening = 1 ∷ 5 ∷ 3 ∷ 0 ∷ 2 ∷ 4 ∷ []

abbrev text : List ℕ
text = 48 ∷ 49 ∷ 48 ∷ 53 ∷ 48 ∷ 51 ∷ 48 ∷ 48 ∷ 48 ∷ 50 ∷ 48 ∷ 52 ∷ []

pub opening_written : line_of opening ≡ text ++ 10 ∷ []
unfolding line_of digits_of hex_digit
opening_written = refl

pub opening_read : read_line (text ++ 10 ∷ 48 ∷ []) ≡ frame opening 13
unfolding read_line read_head spells_frame is_frame bytes_of end_of is_digit digit_value allb
opening_read = refl

-- the same with kind 04, which opens a yard: `040503000204`; two codes alone are no such frame, and no kind 05 is known
abbrev yard : List ℕ
yard = 4 ∷ 5 ∷ 3 ∷ 0 ∷ 2 ∷ 4 ∷ []

abbrev yard_text : List ℕ
yard_text = 48 ∷ 52 ∷ 48 ∷ 53 ∷ 48 ∷ 51 ∷ 48 ∷ 48 ∷ 48 ∷ 50 ∷ 48 ∷ 52 ∷ []

pub yard_written : line_of yard ≡ yard_text ++ 10 ∷ []
unfolding line_of digits_of hex_digit
yard_written = refl

pub yard_read : read_line (yard_text ++ 10 ∷ 48 ∷ []) ≡ frame yard 13
unfolding read_line read_head spells_frame is_frame bytes_of end_of is_digit digit_value allb
yard_read = refl

pub kinds_told :
    is_frame (4 ∷ 5 ∷ 1 ∷ []) ∷ is_frame (2 ∷ 5 ∷ 1 ∷ []) ∷ is_frame (5 ∷ 5 ∷ 0 ∷ []) ∷ is_frame (4 ∷ 5 ∷ 0 ∷ []) ∷ []
    ≡ false ∷ true ∷ false ∷ true ∷ []
unfolding is_frame
kinds_told = refl

-- 0D before 0A is no digit; without 0A there is no line
pub carriage_garbled : read_line (text ++ 13 ∷ 10 ∷ []) ≡ garbled
unfolding read_line read_head spells_frame is_frame bytes_of end_of is_digit digit_value allb
carriage_garbled = refl

pub endless_garbled : read_line text ≡ garbled
unfolding read_line read_head spells_frame is_frame bytes_of end_of is_digit digit_value allb
endless_garbled = refl
