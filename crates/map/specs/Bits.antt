-- WHICH BITS OF A MAP'S TABLES AND OF ITS YARD SET MAY STAND (rule 1.8). Assumes nothing.
use Rattle.std.specs.Prelude.{Bool, not, ◌&&◌, ◌||◌, List, ℕ, ◌*◌, ◌≤◌, ◌<◌, eqb, ltb, length}
use Rattle.lists.specs.Lists.{range, allb}
use Rattle.graph.specs.Network.{Network, delivers}

-- Bit v of row u of the link table may stand: u and v are open and differ, and bit u of row v is set too.
unfoldable pub sound_link : Network → ℕ → ℕ → Bool
sound_link G u v = G.is_open u && G.is_open v && not (eqb u v) && G.linked v u

-- Every bit of the yard set may stand: its code, one of n, is open.
unfoldable pub sound_yards : ℕ → Network → Bool
sound_yards n G = allb (λ v. not (G.is_yard v) || G.is_open v) (range n)

-- Bit v of row u of the pair table may stand: u < v, and both deliver.
unfoldable pub sound_pair : Network → ℕ → ℕ → Bool
sound_pair G u v = ltb u v && delivers G u && delivers G v

-- ---- what a check is lent

-- A whole open set and a whole table are lent, of 1 to 512 words a row.
pub record IsLent (W : ℕ) (members table : List ℕ) : Type 0 where
  pub positive : 0 < W
  pub most : W < 513
  pub row : W ≤ length members
  pub rows : W * (64 * W) ≤ length table
