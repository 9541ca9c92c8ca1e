-- THE CONDITIONS OF RULE 8.1 that every call on a map shares, in the published words: 2 and 3.
-- Assumes nothing.
use Rattle.std.specs.Prelude.{◌⊎◌, List, [], ◌∷◌, ℕ}
use Rattle.outcome.specs.Numbers.{spoilt_map, apart_map}
use Rattle.graph.specs.Network.{Network}
use Rattle.graph.specs.Chart.{Pairs}
use Rattle.graph.specs.Refusals.{IsApart}
use Rattle.checks.specs.Sound.{AreLinksSound, AreFiguresSound}

-- n is the number of codes, open and closed.
-- 2, spoilt: the links are not sound
abbrev pub IsSpoilt : ℕ → Network → ℕ → Type 0
IsSpoilt n G number = AreLinksSound n G number → ⊥

-- 2 for a call that changes the map: the links or the figures are not sound
abbrev pub IsMapSpoilt : ℕ → Network → ℕ → Pairs → ℕ → ℕ → Type 0
IsMapSpoilt n G number P chain count = IsSpoilt n G number ⊎ (AreFiguresSound n G P chain count → ⊥)

-- 3, apart: the links are sound, but no walk leads from the lowest open code to some open depot
abbrev pub IsSoundApart : ℕ → Network → ℕ → Type 0
IsSoundApart n G number = AreLinksSound n G number × IsApart G

-- the table for a call that reads the links alone
abbrev pub link_conditions : ℕ → Network → ℕ → List (Type 0 × ℕ)
link_conditions n G number = (IsSpoilt n G number, spoilt_map) ∷ (IsSoundApart n G number, apart_map) ∷ []

-- the table for a call that changes the map
abbrev pub map_conditions : ℕ → Network → ℕ → Pairs → ℕ → ℕ → List (Type 0 × ℕ)
map_conditions n G number P chain count = (IsMapSpoilt n G number P chain count, spoilt_map) ∷ (IsSoundApart n G number, apart_map) ∷ []
