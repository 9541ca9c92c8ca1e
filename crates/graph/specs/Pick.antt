-- THE PICK of the rounds (rule 5.4), where ties go by code: of depots listed in rising code it is the one of highest degree, and of these the one with
-- the lowest code. Proved in proofs/Picked: `pick_is`, `pick-only`.
-- Assumes nothing.
use Rattle.std.specs.Prelude.{◌≡◌, ℕ, ◌≤◌}
use mathlib.Core.List.{List, Memᴰ}
use Rattle.graph.specs.Chart.{Chart}

-- r is the depot of xs that the rounds search from next: none has a higher degree, and none of the same degree a lower key
pub record IsPick (key : ℕ → ℕ) (C : Chart) (xs : List ℕ) (r : ℕ) : Type 0 where
  pub member : Memᴰ r xs
  pub degree : (w : ℕ) → Memᴰ w xs → C.degree w ≤ C.degree r
  pub code : (w : ℕ) → Memᴰ w xs → C.degree w ≡ C.degree r → key r ≤ key w
