-- THE CONDITIONS OF RULE 8.1 that speak of the network and a notice, 3 to 8, in the published words; and those of a link, 4, 13 and 14.
-- `notice_refusals` (proofs/Refusals) says that `open_faults` gives the first of 5 to 8 that holds, and 0 exactly if none does; `link_refusals` says it of
-- `link_faults`.
-- Assumes nothing.
use Rattle.std.specs.Prelude.{◌≡◌, ◌⊎◌, ℕ, suc, ◌≤◌, ◌<◌, T, length, get_or}
use mathlib.Core.List.{List, [], ◌∷◌, Memᴰ}
use Rattle.outcome.specs.Numbers.{absent_code, taken_code, lonely_depot, unsorted_neighbours, unknown_neighbour, itself_linked, linked_already, cut_map}
use Rattle.graph.specs.Network.{Network, Walk}
use Rattle.graph.specs.Opening.{Notice}
use Rattle.graph.specs.Closing.{remove_depot, AreApart}
use Rattle.graph.specs.Updates.{Update, opens, joins}

-- 3, apart (where the links are sound): no walk leads from the lowest open code to some open depot
pub record IsApart (G : Network) : Type 0 where
  pub lowest : ℕ
  pub is_open : T (G.is_open lowest)
  pub is_lowest : (u : ℕ) → T (G.is_open u) → lowest ≤ u
  pub depot : ℕ
  pub is_depot : T (G.is_open depot)
  pub no_walk : (k : ℕ) → Walk G k lowest depot → ⊥

-- 4, absent: the code is closed
abbrev pub IsAbsent : Network → ℕ → Type 0
IsAbsent G code = T (G.is_open code) → ⊥

-- 5, taken: the code is open
abbrev pub IsTaken : Network → ℕ → Type 0
IsTaken G code = T (G.is_open code)

-- 6, lonely: no neighbours, though a depot is open
abbrev pub IsLonely : Network → List ℕ → Type 0
IsLonely G ns = (ns ≡ []) × ((u : ℕ) × T (G.is_open u))

-- 7, unsorted: some neighbour is not above the one before it
abbrev pub IsUnsorted : List ℕ → Type 0
IsUnsorted ns = (i : ℕ) × (suc i < length ns) × (get_or ns (suc i) 0 ≤ get_or ns i 0)

-- 8, unknown: some neighbour is closed
abbrev pub IsUnknown : Network → List ℕ → Type 0
IsUnknown G ns = (v : ℕ) × Memᴰ v ns × (T (G.is_open v) → ⊥)

-- the table for a notice
abbrev pub notice_conditions : Network → Notice → List (Type 0 × ℕ)
notice_conditions G o =
    (IsTaken G o.code, taken_code)
    ∷ (IsLonely G o.neighbours, lonely_depot)
    ∷ (IsUnsorted o.neighbours, unsorted_neighbours)
    ∷ (IsUnknown G o.neighbours, unknown_neighbour)
    ∷ []

-- 13, itself: the two ends of a link are one
abbrev pub IsItself : ℕ → ℕ → Type 0
IsItself a b = a ≡ b

-- 14, linked: the two ends are linked
abbrev pub AreLinked : Network → ℕ → ℕ → Type 0
AreLinked G a b = T (G.linked a b)

-- the table for a link: 4 is for either end
abbrev pub link_conditions : Network → ℕ → ℕ → List (Type 0 × ℕ)
link_conditions G a b =
    (IsAbsent G a ⊎ IsAbsent G b, absent_code)
    ∷ (IsItself a b, itself_linked)
    ∷ (AreLinked G a b, linked_already)
    ∷ []

-- 17, cut: two of those left open would lie apart
abbrev pub IsCut : Network → ℕ → Type 0
IsCut G c = AreApart (remove_depot G c)

-- the table for a closing
abbrev pub close_conditions : Network → ℕ → List (Type 0 × ℕ)
close_conditions G c = (IsAbsent G c, absent_code) ∷ (IsCut G c, cut_map) ∷ []

-- the table for an update
abbrev pub own_conditions : Network → Update → List (Type 0 × ℕ)
own_conditions G (opens o) = notice_conditions G o
own_conditions G (joins a b) = link_conditions G a b
