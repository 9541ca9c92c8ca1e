-- In a sound network each bit of the links stands for an open depot: so a search may be lent its open set. Assumes nothing.
use mathlib.Core.Bool.{Bool}
use mathlib.Core.List.{List}
use Prim.Native.Nat.{ℕ, ◌≤◌}
use lib.ListN.{length}
use Rattle.lists.proofs.Tests.{t→true, true→t}
use Rattle.graph.specs.Network.{IsSound, with_yards}
use Rattle.rows.specs.Rows.{row_bit}
use Rattle.map.specs.Memory.{network_of}
use Rattle.layers.specs.Begin.{HoldsEnds}

module _ (W : ℕ) (members links : List ℕ) (long : W ≤ length members) where
  pub holds_ends : IsSound (network_of W members links) → HoldsEnds W members links
  unfolding network_of
  holds_ends sound = record { row = long; ends = λ u v e. t→true (row_bit W members v) (sound.ends u v (true→t e)) }

  -- with yards too
  pub yards_hold_ends : (Y : ℕ → Bool) → IsSound (with_yards Y (network_of W members links)) → HoldsEnds W members links
  unfolding network_of
  yards_hold_ends Y sound = record { row = long; ends = λ u v e. t→true (row_bit W members v) (sound.ends u v (true→t e)) }
