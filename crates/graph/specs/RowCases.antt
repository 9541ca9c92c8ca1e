-- ROWS AND CODES WORKED BY HAND, computed by the checker (`refl`): a network of rows whose ties go by code. Assumes nothing.
use Rattle.std.specs.Prelude.{◌≡◌, refl, Bool, false, cond, List, [], ◌∷◌, ℕ, eqb, get_or}
use Rattle.graph.specs.Network.{Network}
use Rattle.graph.specs.Opening.{notice_of, empty_network}
use Rattle.graph.specs.Closing.{remove_depot}
use Rattle.graph.specs.Updates.{opens, applied}
use Rattle.graph.specs.Renaming.{renamed_to, move_row, applied_by}
use Rattle.graph.specs.Cases.{ReckoningCase, reckoning}

-- rows 0, 1, 2 take the codes 30, 20, 10; every closed row says 30
unfoldable pub code_of : ℕ → ℕ
code_of r = get_or (30 ∷ 20 ∷ 10 ∷ []) r 30

unfoldable pub row_of : ℕ → ℕ
row_of c = cond (eqb c 30) 0 (cond (eqb c 20) 1 2)

-- 30, and 20 and 10 beside it
unfoldable pub by_rows : Network
unfolding applied_by empty_network code_of row_of
by_rows =
    let one = applied_by code_of row_of empty_network (opens (notice_of false 30 [])) in
    let two = applied_by code_of row_of one (opens (notice_of false 20 (30 ∷ []))) in
    applied_by code_of row_of two (opens (notice_of false 10 (30 ∷ [])))

unfoldable pub by_codes : Network
unfolding applied empty_network
by_codes =
    let one = applied empty_network (opens (notice_of false 30 [])) in
    let two = applied one (opens (notice_of false 20 (30 ∷ []))) in
    applied two (opens (notice_of false 10 (30 ∷ [])))

-- THE TABLE
-- rows, codes: the same reckoning; of the two ends, the one with the lower code comes first, though its row is the higher
-- stale: the new depot is not linked to a closed row that says its neighbour's code
-- left, moved: the rows in their order, after the first has closed, and after the last has taken its place
pub record RowCases : Type 0 where
  pub rows : ReckoningCase
  pub codes : ReckoningCase
  pub stale : Bool
  pub left : List ℕ
  pub moved : List ℕ

pub row_cases : ◌≡◌ {A = RowCases}
    (record {
      rows = reckoning by_rows;
      codes = reckoning by_codes;
      stale = by_rows.linked 1 3;
      left = (remove_depot by_rows (row_of 30)).depots;
      moved = (renamed_to (move_row 0 2) (remove_depot by_rows (row_of 30))).depots;
    })
    (record {
      rows = record { references = 0 ∷ 2 ∷ 1 ∷ []; marks = 256 ∷ 256 ∷ 256 ∷ []; bounds = 2 ∷ 2 ∷ 1 ∷ []; chain = 2; pairs = (1, 2) ∷ [] };
      codes = record { references = 30 ∷ 10 ∷ 20 ∷ []; marks = 256 ∷ 256 ∷ 256 ∷ []; bounds = 2 ∷ 2 ∷ 1 ∷ []; chain = 2; pairs = (10, 20) ∷ [] };
      stale = false;
      left = 2 ∷ 1 ∷ [];
      moved = 0 ∷ 1 ∷ [];
    })
unfolding reckoning by_rows by_codes renamed_to move_row remove_depot row_of
row_cases = refl
