-- HOW A SEARCH BEGINS, over lists of words, and what it asks. Nobody has to believe this: `search_leaves` (Layers.antt) is proved of the whole.
-- Assumes nothing.
use Rattle.std.specs.Prelude.{◌≡◌, true, false, not, ◌&&◌, List, ℕ, ◌*◌, ◌≤◌, eqb, length}
use Rattle.lists.specs.Lists.{range, mapl, overwrite}
use Rattle.graph.specs.Distance.{unreached}
use Rattle.rows.specs.Rows.{row_bit, table_bit, encode_row}
use Rattle.map.specs.Room.{Tables}

-- every bit of a table of links stands for a member of a row
pub record HoldsEnds (W : ℕ) (members links : List ℕ) : Type 0 where
  pub row : W ≤ length members
  pub ends : (u v : ℕ) → table_bit W links u v ≡ true → row_bit W members v ≡ true

-- the start of a search from s: no hop, s alone in the even row, all other members left
pub record SearchBegun : Type 0 where
  pub lent : Tables
  pub left : List ℕ

abbrev pub search_begun : Tables → List ℕ → SearchBegun
search_begun B l = record { lent = B; left = l }

unfoldable pub search_begin_of : ℕ → List ℕ → ℕ → Tables → List ℕ → SearchBegun
search_begin_of W members s B left =
    search_begun
    (record {
      hops = overwrite (mapl (λ v. unreached) (range (64 * W))) B.hops;
      even = overwrite (encode_row W (λ v. eqb v s)) B.even;
      odd = overwrite (encode_row W (λ v. false)) B.odd;
    })
    (overwrite (encode_row W (λ v. row_bit W members v && not (eqb v s))) left)
