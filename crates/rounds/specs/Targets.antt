-- THE NETWORK OF AN OPEN SET AND A ROW OF TARGETS: what is open and no target is a yard. So the steps of the code are told the depots that deliver.
-- And what a search says of its start, in such a network or any other.
-- Assumes nothing.
use Rattle.std.specs.Prelude.{◌≡◌, true, cond, not, ◌&&◌, List, ℕ, ◌*◌, ◌≤◌, ◌<◌, eqb, length}
use Rattle.graph.specs.Network.{Network, with_yards, delivers}
use Rattle.graph.specs.Distance.{dist}
use Rattle.graph.specs.Chart.{chart, ecc}
use Rattle.rows.specs.Rows.{row_bit}
use Rattle.map.specs.Memory.{network_of}
use Rattle.targets.specs.Reach.{Reached}

abbrev pub target_network : ℕ → List ℕ → List ℕ → List ℕ → Network
target_network W members targets links = with_yards (λ v. row_bit W members v && not (row_bit W targets v)) (network_of W members links)

-- two whole rows, and every target is open: then the targets are the depots that deliver
pub record AreTargets (W : ℕ) (members targets : List ℕ) : Type 0 where
  pub member_row : W ≤ length members
  pub target_row : W ≤ length targets
  pub are_open : (v : ℕ) → row_bit W targets v ≡ true → row_bit W members v ≡ true

-- R is what a search from r says of it, in rows of W words: its eccentricity; the same as its own if it delivers, and else 0; and as its partners the
-- depots that deliver at that distance, none for a yard
pub record Spans (W : ℕ) (G : Network) (r : ℕ) (R : Reached) : Type 0 where
  pub ecc_is : R.ecc ≡ ecc (chart G) r
  pub own_is : R.own ≡ cond (delivers G r) (ecc (chart G) r) 0
  pub partners_are : (v : ℕ) → v < 64 * W → row_bit W R.partners v ≡ (delivers G r && (delivers G v && eqb (dist G r v) (ecc (chart G) r)))
