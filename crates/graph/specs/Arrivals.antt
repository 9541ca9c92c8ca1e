-- ROWS IN ORDER OF ARRIVAL: the open rows of a map are the first, and they are listed by their codes. Proved in proofs/Arrivals: `arrived_opens`,
-- `arrived_joins` and `arrived_closes`, every update keeps it; and so does another table of codes (`arrived_same`) that says the same of the open rows.
-- A closing on rows: `rows_closed` (proofs/ClosedRows). A history by rows and by codes: `rows_empty`, `rows_opened`,
-- `rows_joined`, `rows_left` (proofs/RowSteps); of two orders, `rows_equal` (proofs/RowOrders).
-- Assumes nothing.
use Rattle.std.specs.Prelude.{◌≡◌, ℕ, ◌<◌, T, ltb}
use Rattle.lists.specs.Lists.{range}
use Rattle.lists.specs.Rising.{rising_by}
use Rattle.graph.specs.Network.{Network, IsSound, delivers, AreTrue}
use Rattle.graph.specs.Chart.{chart, Pairs, count_pairs}
use Rattle.graph.specs.Closing.{remove_depot, closing}
use Rattle.graph.specs.Correct.{IsNet}
use Rattle.graph.specs.Renaming.{IsRelabelled, renamed_to, move_row, either, HaveSameDistances, AreOpenedAlike}

-- n rows are open, the first n, and no two have one code
pub record AreArrived (code : ℕ → ℕ) (n : ℕ) (G : Network) : Type 0 where
  pub listed : G.depots ≡ rising_by code (range n)
  pub first : (r : ℕ) → G.is_open r ≡ ltb r n
  pub differ : (u v : ℕ) → u < n → v < n → code u ≡ code v → u ≡ v

-- the rows after the row `gap` has closed and the row `last` has taken its place
abbrev pub closed_rows : ℕ → ℕ → Network → Network
closed_rows gap last G = renamed_to (move_row gap last) (remove_depot G gap)

-- THE CLOSING of the code of the row `gap`: G are the rows before it and H the codes, `code` the table before it and `code'` the one after. A map can hold
-- the rows after it, which are the first still; the move alone changes no distance; the rows are the codes left, and what the reckoning leaves is the same
-- up to names.
pub record AreClosedRows (code code' : ℕ → ℕ) (gap last : ℕ) (G H : Network) : Type 0 where
  pub net : IsNet (closed_rows gap last G)
  pub arrived : AreArrived code' last (closed_rows gap last G)
  pub moved : HaveSameDistances (remove_depot G gap) (closed_rows gap last G) (move_row gap last)
  pub relabelled : IsRelabelled (closed_rows gap last G) (remove_depot H (code gap)) code'
  pub distances : HaveSameDistances (closed_rows gap last G) (remove_depot H (code gap)) code'
  pub alike : (D : ℕ) → AreOpenedAlike (closed_rows gap last G) (remove_depot H (code gap)) code' (closing (chart (closed_rows gap last G)) D)
      (closing (chart (remove_depot H (code gap))) D)

-- THE ROWS OF A MAP AND ITS CODES: G are the n open rows, H the network by code
pub record AreRows (code : ℕ → ℕ) (n : ℕ) (G H : Network) : Type 0 where
  pub net : IsNet G
  pub sound : IsSound H
  pub relabelled : IsRelabelled G H code
  pub arrived : AreArrived code n G

-- TWO ORDERS OF ARRIVAL leave maps that are equal by code: as many rows, one network by code, and, of true figures, one chain and the same pairs by code
pub record AreEqualByCode (code code' : ℕ → ℕ) (n n' : ℕ) (G G' : Network) : Type 0 where
  pub number : n ≡ n'
  pub network : renamed_to code G ≡ renamed_to code' G'
  pub chain : (D D' : ℕ) (P P' : Pairs) → AreTrue G (delivers G) D P → AreTrue G' (delivers G') D' P' → D ≡ D'
  pub count : (D D' : ℕ) (P P' : Pairs) → AreTrue G (delivers G) D P → AreTrue G' (delivers G') D' P' → count_pairs G.depots P ≡ count_pairs G'.depots P'
  pub pairs : (D D' : ℕ) (P P' : Pairs) → AreTrue G (delivers G) D P → AreTrue G' (delivers G') D' P'
      → (u v w x : ℕ) → T (G.is_open u) → T (G.is_open v) → T (G'.is_open w) → T (G'.is_open x) → code u ≡ code' w → code v ≡ code' x → either P u v ≡ either P' w x
