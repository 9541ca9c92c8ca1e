-- THE SHEET. Assumes nothing.
use Rattle.std.specs.Prelude.{◌≡◌, ℕ, ◌<◌, ◌≤◌, Bool, true, false, cond, not, ◌&&◌, eqb, ltb, Option, Some, None, Result, Ok, Err, MatchOption, unwrap_or}
use Rattle.std.specs.Prelude.{List, [], ◌∷◌, length, map, replicate, count_by, EachIndex, SomeIndex, slice_index, slice_index_or, slice_set}
use Rattle.std.specs.List.{list_all}
use Rattle.plain_search.specs.declared.TheConstants.{CODES}
use Rattle.plain_search.specs.declared.Change.{Change}
use Rattle.plain_search.specs.declared.Change.TheVariants.{Grew, Kept, Shrank}
use Rattle.plain_search.specs.declared.Refusal.{Refusal}
use Rattle.plain_search.specs.declared.Refusal.TheVariants.{Short, Taken, Lonely, Unsorted, Unknown}
use Rattle.plain_search.specs.declared.Sheet.{Sheet}

-- how many of the flags stand
abbrev pub standing : List Bool → ℕ
standing flags = count_by (λ flag. flag) flags

-- no depot is open, no two codes are linked
abbrev pub empty_sheet : Sheet
empty_sheet = record {
  depots = replicate CODES false;
  links = replicate CODES (replicate CODES false);
  distances = replicate CODES (replicate CODES None);
  eccentricities = replicate CODES 0;
  pairs = replicate CODES (replicate CODES false);
  chain = 0;
}

-- ---- what an opening is refused for

-- the depot of a code is open
abbrev pub is_open : List Bool → ℕ → Bool
is_open depots code = slice_index_or depots code false

-- each code is above the one before it
unfoldable pub rising : List ℕ → Bool
rising [] = true
rising (u ∷ []) = true
rising (u ∷ v ∷ vs) = ltb u v && rising (v ∷ vs)

-- the first of these that holds: a buffer is short; the code is open; it has no neighbours, and there is a depot; they are not rising; one is not open
abbrev pub refusal_of : List Bool → ℕ → List ℕ → Bool → Option Refusal
refusal_of depots code neighbours short =
    cond short (Some Short)
    (cond (is_open depots code) (Some Taken)
    (cond (eqb (length neighbours) 0 && not (eqb (standing depots) 0)) (Some Lonely)
    (cond (not (rising neighbours)) (Some Unsorted)
    (cond (not (list_all (is_open depots) neighbours)) (Some Unknown) None))))

-- ---- what an opening leaves

-- the links with one of u to v
abbrev pub linked_to : List (List Bool) → ℕ → ℕ → List (List Bool)
linked_to links u v = slice_set links u (slice_set (slice_index_or links u []) v true)

-- the links with those between a code and its neighbours, both ways
unfoldable pub linked : List (List Bool) → ℕ → List ℕ → List (List Bool)
linked links code [] = links
linked links code (v ∷ vs) = linked (linked_to (linked_to links code v) v code) code vs

-- a number is the greatest of some
abbrev pub IsGreatest : List ℕ → ℕ → Type 0
IsGreatest numbers n = EachIndex numbers (λ k. slice_index numbers k ≤ n) × SomeIndex numbers (λ k. slice_index numbers k ≡ n)

-- of the codes below a bound, each open depot's eccentricity is the greatest of its distances
abbrev pub AreEccentricities : Sheet → ℕ → Type 0
AreEccentricities sheet bound = (u : ℕ) → u < bound → is_open sheet.depots u ≡ true →
    IsGreatest (map (λ d. unwrap_or d 0) (slice_index_or sheet.distances u [])) (slice_index sheet.eccentricities u)

-- v is above u, and at a distance from it that is as long as the chain
abbrev pub far : ℕ → ℕ → ℕ → Option ℕ → Bool
far chain u v None = false
far chain u v (Some d) = ltb u v && eqb d chain

-- of the codes below a bound, each one's row of pairs has those that are so far
abbrev pub ArePairs : Sheet → ℕ → Type 0
ArePairs sheet bound = (u v : ℕ) → u < bound → v < CODES →
    slice_index_or (slice_index_or sheet.pairs u []) v false
    ≡ far sheet.chain u v (slice_index_or (slice_index_or sheet.distances u []) v None)

-- how the chain changed
abbrev pub change_of : ℕ → ℕ → Change
change_of before after = cond (ltb before after) Grew (cond (eqb before after) Kept Shrank)

-- An accepted opening: depots and links are those with the notice added, and eccentricities, chain and pairs are those of the distances that the search
-- found. Nothing is said of the distances: the test compares them with the map's, which are proved.
pub record IsAccepted (before after : Sheet) (code : ℕ) (neighbours : List ℕ) (answer : Result Change Refusal) : Type 0 where
  pub depots : after.depots ≡ slice_set before.depots code true
  pub links : after.links ≡ linked before.links code neighbours
  pub eccentricities : AreEccentricities after CODES
  pub chain : IsGreatest after.eccentricities after.chain
  pub pairs : ArePairs after CODES
  pub change : answer ≡ Ok (change_of before.chain after.chain)

-- an opening: refused, with nothing changed, or accepted
abbrev pub IsOpening : Sheet → Sheet → ℕ → List ℕ → Bool → Result Change Refusal → Type 0
IsOpening before after code neighbours short answer =
    MatchOption (refusal_of before.depots code neighbours short)
    (IsAccepted before after code neighbours answer)
    (λ k. (answer ≡ Err k) × (after ≡ before))
