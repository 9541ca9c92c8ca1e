-- BRANCH PROFILES of small networks, worked by hand and computed by the checker (`refl`), with the misunderstanding that each excludes. Assumes nothing.
use Rattle.std.specs.Prelude.{◌≡◌, refl, List, [], ◌∷◌, ℕ}
use Rattle.std.proofs.Math.Option.{none, some}
use Rattle.lists.specs.Lists.{memb, first_of}
use Rattle.graph.specs.Network.{Network, with_yards}
use Rattle.graph.specs.Chart.{chart}
use Rattle.graph.specs.Cases.{path}
use Rattle.graph.specs.RuleCases.{linked_by}
use Rattle.graph.specs.Branch.{branch_faults, branch}

-- its refusal, of the network G with the yards ys
unfoldable pub refusal : Network → List ℕ → ℕ
unfolding memb first_of branch_faults
refusal G ys = first_of (branch_faults (with_yards (λ c. memb c ys) G))

-- the ring of four, and the star of the depots 3, 5, 12 and 40 around 9
unfoldable pub ring : Network
unfolding linked_by
ring = linked_by (0 ∷ 1 ∷ 2 ∷ 3 ∷ []) ((0, 1) ∷ (1, 2) ∷ (2, 3) ∷ (0, 3) ∷ [])

unfoldable pub star : Network
unfolding linked_by
star = linked_by (3 ∷ 5 ∷ 9 ∷ 12 ∷ 40 ∷ []) ((3, 9) ∷ (5, 9) ∷ (9, 12) ∷ (9, 40) ∷ [])

pub record BranchCases : Type 0 where
  pub seven : branch (chart (path 7)) ≡ record { first_start = 0; second_start = 6; chain = 6; pair = some (6, 0) }
  pub two : branch (chart (path 2)) ≡ record { first_start = 0; second_start = 1; chain = 1; pair = some (1, 0) }
  -- a single depot: both searches are from it, and there is no pair
  pub single : branch (chart (path 1)) ≡ record { first_start = 0; second_start = 0; chain = 0; pair = none }
  -- of those farthest from 3 the lowest, 5, and of those farthest from 5 the lowest, 3; shown in this order, not by code
  pub star_lowest : branch (chart star) ≡ record { first_start = 3; second_start = 5; chain = 2; pair = some (5, 3) }
  -- 4-2-0-1-3: the first search is from the middle, whose eccentricity is not the chain
  pub from_middle : branch (chart (linked_by (0 ∷ 1 ∷ 2 ∷ 3 ∷ 4 ∷ []) ((2, 4) ∷ (0, 2) ∷ (0, 1) ∷ (1, 3) ∷ [])))
      ≡ record { first_start = 0; second_start = 3; chain = 4; pair = some (3, 4) }
  -- links are counted once each
  pub accepted : refusal star [] ≡ 0
  -- an empty map has no links, and these are not one fewer than no depots
  pub empty : refusal (path 0) [] ≡ 18
  pub looped_ring : refusal ring [] ≡ 18
  -- 18 comes before 19
  pub looped_yard : refusal ring (0 ∷ []) ≡ 18
  pub yard : refusal (path 3) (2 ∷ []) ≡ 19
  pub single_yard : refusal (path 1) (0 ∷ []) ≡ 19

pub branch_cases : BranchCases
unfolding branch chart path star ring linked_by refusal
branch_cases = record {
  seven = refl;
  two = refl;
  single = refl;
  star_lowest = refl;
  from_middle = refl;
  accepted = refl;
  empty = refl;
  looped_ring = refl;
  looped_yard = refl;
  yard = refl;
  single_yard = refl;
}
