-- WHICH REFUSALS THE TWO CALLS GIVE (rule 8.1), in the published words (rule 11.1).
-- `within_refusals` and `nearest_refusals` (proofs/Theorems) prove it of `within_call` and `nearest_call` for every shape.
-- Assumes nothing.
use Rattle.std.specs.Prelude.{false, ℕ, T, length}
use mathlib.Core.List.{List, [], ◌∷◌, ◌++◌, Memᴰ}
use Rattle.outcome.specs.Numbers.{absent_code, nobody_open}
use Rattle.outcome.specs.Answers.{Left, Refuses}
use Rattle.graph.specs.Network.{Network}
use Rattle.graph.specs.Refusals.{IsAbsent}
use Rattle.map.specs.Memory.{Shape, places, map_network}
use Rattle.map.specs.Room.{Tables}
use Rattle.map.specs.declared.Record.{Record}
use Rattle.lent_map.specs.Faults.{lent_conditions}
use Rattle.search.specs.Refusals.{search_buffers, search_conditions}
use Rattle.nearby.specs.declared.NearestDepot.{NearestDepot}

-- ---- the depots within k handovers

-- 1 short (the places for the codes too), 2 spoilt (links alone), 3 apart, 4 absent
abbrev pub within_conditions : Shape → Record → List ℕ → Tables → List ℕ → ℕ → List (Type 0 × ℕ)
within_conditions K rec links B codes code =
    lent_conditions K (search_buffers K links B ++ (places K, length codes) ∷ []) false rec links []
    ++ (IsAbsent (map_network K rec links) code, absent_code)
    ∷ []

-- Of a program whose call is `step`: refused with the first that holds, and then nothing changes
abbrev pub WithinRefuses : Shape → (Record → List ℕ → Tables → List ℕ → ℕ → ℕ → Left ℕ (Tables × List ℕ)) → Type 0
WithinRefuses K step =
    (rec : Record) (links : List ℕ) (B : Tables) (codes : List ℕ) (code k : ℕ)
    → Refuses (within_conditions K rec links B codes code) (B, codes) (step rec links B codes code k)

-- ---- the nearest depot of a list

-- 10, nobody: no depot of the list is open
abbrev pub IsNobody : Network → List ℕ → Type 0
IsNobody G listed = (v : ℕ) → Memᴰ v listed → T (G.is_open v) → ⊥

-- those of a search (1 short, 2 spoilt, 3 apart, 4 absent), then 10 nobody
abbrev pub nearest_conditions : Shape → Record → List ℕ → Tables → ℕ → List ℕ → List (Type 0 × ℕ)
nearest_conditions K rec links B code listed =
    search_conditions K rec links B code ++ (IsNobody (map_network K rec links) listed, nobody_open) ∷ []

abbrev pub NearestRefuses : Shape → (Record → List ℕ → Tables → ℕ → List ℕ → Left NearestDepot Tables) → Type 0
NearestRefuses K step =
    (rec : Record) (links : List ℕ) (B : Tables) (code : ℕ) (listed : List ℕ)
    → Refuses (nearest_conditions K rec links B code listed) B (step rec links B code listed)
