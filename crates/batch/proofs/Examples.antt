-- Batches read, computed: what refuses them, in its order, and their entries. Assumes nothing.
use mathlib.Core.Path.{◌≡◌, refl}
use mathlib.Core.Bool.{true, false}
use mathlib.Core.List.{List, [], ◌∷◌, ◌++◌}
use Prim.Native.Nat.{ℕ}
use Rattle.lists.specs.Lists.{range, mapl, allb, first_of}
use Rattle.graph.specs.Opening.{notice_of}
use Rattle.graph.specs.Batch.{entry_of}
use Rattle.hexadecimal.specs.Hex.{is_digit, digit_value, bytes_of}
use Rattle.notice.specs.Lines.{line_end, is_frame, end_of, spells_frame, read_head}
use Rattle.transcript.specs.Texts.{bytes_in}
use Rattle.batch.specs.Lines.{entries_of, batch_faults}

-- n blank lines
unfoldable pub blank : ℕ → List ℕ
blank n = mapl (λ i. line_end) (range n)

-- 65 lines are 11, also on an empty map; 64 blank ones are 12 there, and else 9; so is a last stretch without 0A, here the 65th line
pub refusals :
    first_of (batch_faults 0 (blank 65))
    ∷ first_of (batch_faults 0 (blank 64))
    ∷ first_of (batch_faults 1 (blank 64))
    ∷ first_of (batch_faults 1 (blank 64 ++ bytes_in "0"))
    ∷ first_of (batch_faults 1 (bytes_in "01010100"))
    ∷ []
    ≡ 11 ∷ 12 ∷ 9 ∷ 11 ∷ 9 ∷ []
unfolding batch_faults first_of blank bytes_in mapl range read_head spells_frame is_frame bytes_of end_of is_digit digit_value allb
refusals = refl

-- no lines at all: 12 on an empty map, else nothing refuses them
pub none_read : first_of (batch_faults 0 []) ∷ first_of (batch_faults 1 []) ∷ [] ≡ 12 ∷ 0 ∷ []
unfolding batch_faults first_of
none_read = refl

-- a yard's line opens something, and a link's does not: it is garbled here
pub kinds_read : first_of (batch_faults 1 (bytes_in "04010100\n")) ∷ first_of (batch_faults 1 (bytes_in "04010100\n020001\n")) ∷ [] ≡ 0 ∷ 9 ∷ []
unfolding batch_faults first_of bytes_in read_head spells_frame is_frame bytes_of end_of is_digit digit_value allb
kinds_read = refl

-- 9 beside 5, and the yard 5 beside 0
pub two_read : entries_of (bytes_in "01090105\n04050100\n") ≡ entry_of 0 (notice_of false 9 (5 ∷ [])) ∷ entry_of 1 (notice_of true 5 (0 ∷ [])) ∷ []
unfolding entries_of bytes_in read_head spells_frame is_frame bytes_of end_of is_digit digit_value allb
two_read = refl
