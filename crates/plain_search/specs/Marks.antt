-- THE MARKS OF A CALL. Assumes nothing.
use Rattle.std.specs.Prelude.{◌≡◌, ℕ, ◌+◌, ◌<◌, true, false, ◌⊎◌, eqb, List, [], None, count_by, slice_index, slice_index_or, IsSomeAnd}
use Rattle.plain_search.specs.declared.TheConstants.{CODES}
use Rattle.plain_search.specs.declared.Sheet.{Sheet}

-- how many depots are marked as searched
abbrev pub count_searched : List ℕ → ℕ
count_searched skips = count_by (λ mark. eqb mark 256) skips

-- r was searched, and what its search found keeps every distance of v below the chain
abbrev pub Covers : List ℕ → Sheet → ℕ → ℕ → ℕ → Type 0
Covers skips sheet r v chain =
    (slice_index skips r ≡ 256)
    × IsSomeAnd (slice_index_or (slice_index_or sheet.distances r []) v None) (λ d. slice_index sheet.eccentricities r + d < chain)

-- every open depot was searched, or some searched depot covers it
abbrev pub AreCovered : List ℕ → Sheet → ℕ → Type 0
AreCovered skips sheet chain = (v : ℕ) → v < CODES → slice_index_or sheet.depots v false ≡ true
    → (slice_index skips v ≡ 256) ⊎ ((r : ℕ) × (r < CODES) × Covers skips sheet r v chain)
