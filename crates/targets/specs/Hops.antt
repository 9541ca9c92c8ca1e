-- WHAT A SEARCH LEFT OF THE TARGETS, by the rows and the hop table alone: which network was searched is no matter here. Assumes nothing.
use Rattle.std.specs.Prelude.{◌≡◌, true, cond, List, ℕ, ◌+◌, ◌*◌, ◌≤◌, get_or}
use Rattle.words.specs.Bits.{bit}
use Rattle.rows.specs.Rows.{row_bit}

-- the hop of member b of the word x, which is word w of a row; 0 for what is no member
unfoldable pub hop_in : List ℕ → ℕ → ℕ → ℕ → ℕ
hop_in hops w x b = cond (bit x b) (get_or hops (64 * w + b) 0) 0

-- No target lies past the depth, and what the row `last` holds lies at it: so it is with the last layer of a search that reaches all targets.
pub record IsLastLayer (W : ℕ) (targets last hops : List ℕ) (depth : ℕ) : Type 0 where
  pub most : (v : ℕ) → row_bit W targets v ≡ true → get_or hops v 0 ≤ depth
  pub here : (v : ℕ) → row_bit W last v ≡ true → get_or hops v 0 ≡ depth
