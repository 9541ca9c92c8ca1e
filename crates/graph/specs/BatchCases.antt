-- BATCHES worked by hand and computed by the checker (`refl`), on a map with depot 0 alone. Nobody has to believe this file. Assumes nothing.
use Rattle.std.specs.Prelude.{◌≡◌, refl, Bool, true, false, List, [], ◌∷◌, ℕ}
use Rattle.graph.specs.Opening.{notice_of}
use Rattle.graph.specs.Batch.{Entry, entry_of, batch_of, notices_of, numbers_of, offered}
use Rattle.graph.specs.Cases.{path}

-- accepted, in order, and left over, by number; the codes open after it; and those open where the entries are offered once, in their order
pub record BatchCase : Type 0 where
  pub accepted : List ℕ
  pub left : List ℕ
  pub codes : List ℕ
  pub once : List ℕ

unfoldable pub case_of : List Entry → BatchCase
unfolding batch_of numbers_of notices_of offered path
case_of es =
    let b = batch_of (path 1) es in
    record { accepted = numbers_of b.accepted; left = numbers_of b.left; codes = b.network.depots; once = (offered (path 1) (notices_of es)).depots }

-- two notices for 9, the first of which waits for 5. After 5 has opened, the scan starts again: 9 is linked to 5, and not to 0
abbrev pub twice : List Entry
twice = entry_of 0 (notice_of false 9 (5 ∷ [])) ∷ entry_of 1 (notice_of false 5 (0 ∷ [])) ∷ entry_of 2 (notice_of false 9 (0 ∷ [])) ∷ []

pub twice_first : case_of twice ≡ record { accepted = 1 ∷ 0 ∷ []; left = 2 ∷ []; codes = 0 ∷ 5 ∷ 9 ∷ []; once = 0 ∷ 5 ∷ 9 ∷ [] }
unfolding case_of
twice_first = refl

pub twice_links : ◌≡◌ {A = List Bool} ((batch_of (path 1) twice).network.linked 9 5 ∷ (batch_of (path 1) twice).network.linked 9 0 ∷ []) (true ∷ false ∷ [])
unfolding batch_of path
twice_links = refl

-- the first in the given order is taken, not the lowest code or the notice that another waits for: 9 beside 0, though 5 could be opened too, and 9 beside
-- 5 then. So the notice of line 0 is left over
pub in_order : case_of (entry_of 0 (notice_of false 9 (5 ∷ [])) ∷ entry_of 1 (notice_of false 9 (0 ∷ [])) ∷ entry_of 2 (notice_of false 5 (0 ∷ [])) ∷ [])
    ≡ record { accepted = 1 ∷ 2 ∷ []; left = 0 ∷ []; codes = 0 ∷ 5 ∷ 9 ∷ []; once = 0 ∷ 5 ∷ 9 ∷ [] }
unfolding case_of
in_order = refl

-- a chain in reversed order, each beside the one behind it: all are taken, from the last to the first; offered once, only the last would be
pub reversed : case_of (entry_of 0 (notice_of false 3 (2 ∷ [])) ∷ entry_of 1 (notice_of false 2 (1 ∷ [])) ∷ entry_of 2 (notice_of false 1 (0 ∷ [])) ∷ [])
    ≡ record { accepted = 2 ∷ 1 ∷ 0 ∷ []; left = []; codes = 0 ∷ 1 ∷ 2 ∷ 3 ∷ []; once = 0 ∷ 1 ∷ [] }
unfolding case_of
reversed = refl

-- lonely, unsorted, unknown and taken are left over, in the given order, however often the scan starts again; so is one of two that wait for each other
pub never_fits : case_of (
    entry_of 0 (notice_of false 8 [])
    ∷ entry_of 1 (notice_of false 7 (1 ∷ 0 ∷ []))
    ∷ entry_of 2 (notice_of false 1 (0 ∷ []))
    ∷ entry_of 3 (notice_of false 6 (5 ∷ []))
    ∷ entry_of 4 (notice_of false 0 (1 ∷ []))
    ∷ entry_of 5 (notice_of false 5 (6 ∷ []))
    ∷ [])
    ≡ record { accepted = 2 ∷ []; left = 0 ∷ 1 ∷ 3 ∷ 4 ∷ 5 ∷ []; codes = 0 ∷ 1 ∷ []; once = 0 ∷ 1 ∷ [] }
unfolding case_of
never_fits = refl

-- no entries
pub none_given : case_of [] ≡ record { accepted = []; left = []; codes = 0 ∷ []; once = 0 ∷ [] }
unfolding case_of
none_given = refl
