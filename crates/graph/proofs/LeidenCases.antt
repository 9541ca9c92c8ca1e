-- THE LEIDEN METHOD on small networks, worked by hand and computed by the checker (`refl`): its references in order and its chain, with the
-- misunderstanding that each excludes. Assumes nothing.
use Rattle.std.specs.Prelude.{◌≡◌, refl, List, [], ◌∷◌, ℕ}
use Rattle.lists.specs.Lists.{memb}
use Rattle.graph.specs.Network.{Network, with_yards}
use Rattle.graph.specs.Chart.{chart}
use Rattle.graph.specs.Cases.{path}
use Rattle.graph.specs.RuleCases.{linked_by}
use Rattle.graph.specs.Leiden.{chain_low, leiden}

pub record Referred : Type 0 where
  pub references : List ℕ
  pub chain : ℕ

-- of the network G with the yards ys
unfoldable pub referred : Network → List ℕ → Referred
unfolding memb chart leiden chain_low
referred G ys = let C = chart (with_yards (λ c. memb c ys) G) in let B = leiden C in record { references = B.references; chain = chain_low C B }

pub record LeidenCases : Type 0 where
  -- Without a destination nothing is searched: the empty map, and yards alone.
  pub empty : referred (path 0) [] ≡ record { references = []; chain = 0 }
  pub yards_alone : referred (path 7) (0 ∷ 1 ∷ 2 ∷ 3 ∷ 4 ∷ 5 ∷ 6 ∷ []) ≡ record { references = []; chain = 0 }
  -- A single depot's bounds, 0 and 65,535, have not met: it is searched.
  pub single : referred (path 1) [] ≡ record { references = 0 ∷ []; chain = 0 }
  -- The path of seven: 1 by degree and code, 3 by its lower bound, 0 by its upper bound.
  pub seven : referred (path 7) [] ≡ record { references = 1 ∷ 3 ∷ 0 ∷ []; chain = 6 }
  -- The path 0-1-2-3-4 with 5 beside 0, 2 and 4.
  pub sixth : referred (linked_by (0 ∷ 1 ∷ 2 ∷ 3 ∷ 4 ∷ 5 ∷ []) ((0, 1) ∷ (1, 2) ∷ (2, 3) ∷ (3, 4) ∷ (0, 5) ∷ (2, 5) ∷ (4, 5) ∷ [])) []
      ≡ record { references = 2 ∷ 5 ∷ 0 ∷ []; chain = 3 }
  -- Yards at both ends: the chain is that of the five between. Yards between the ends: the chain runs through them, and 1, a yard, is searched.
  pub end_yards : referred (path 7) (0 ∷ 6 ∷ []) ≡ record { references = 1 ∷ 3 ∷ []; chain = 4 }
  pub inner_yards : referred (path 7) (1 ∷ 2 ∷ 3 ∷ 4 ∷ 5 ∷ []) ≡ record { references = 1 ∷ 6 ∷ []; chain = 6 }
  -- One destination, 3: its chain is 0.
  pub one_destination : referred (path 7) (0 ∷ 1 ∷ 2 ∷ 4 ∷ 5 ∷ 6 ∷ []) ≡ record { references = 1 ∷ 3 ∷ []; chain = 0 }
  -- 2-0-3-1: the first turn goes by upper bounds, the second by lower ones. Begun the other way round, or without a distance as a lower bound, it would
  -- take two references.
  pub turns : referred (linked_by (0 ∷ 1 ∷ 2 ∷ 3 ∷ []) ((0, 2) ∷ (0, 3) ∷ (1, 3) ∷ [])) [] ≡ record { references = 0 ∷ 3 ∷ 1 ∷ []; chain = 3 }
  -- The yard 0 with depot 1: a yard is picked as any depot, and its distance to 1 bounds no eccentricity from below: the chain would be 1.
  pub yard_first : referred (path 2) (0 ∷ []) ≡ record { references = 0 ∷ 1 ∷ []; chain = 0 }
  -- The yard 0, its depot 1 and the yard 2: the degree of 1, two yards, comes before the lower code.
  pub degree_first : referred (path 3) (0 ∷ 2 ∷ []) ≡ record { references = 1 ∷ []; chain = 0 }
  -- 0 is a yard of the ring 0-4-2-1-3-5. After the third search, from 4, 2 leaves by the chain's lower bound that this search has given.
  pub new_bound : referred (linked_by (0 ∷ 1 ∷ 2 ∷ 3 ∷ 4 ∷ 5 ∷ []) ((0, 4) ∷ (0, 5) ∷ (1, 2) ∷ (1, 3) ∷ (2, 4) ∷ (3, 5) ∷ [])) (0 ∷ [])
      ≡ record { references = 0 ∷ 1 ∷ 4 ∷ 5 ∷ []; chain = 3 }
  -- 0 is a yard. 3 leaves with an upper bound of just the chain's lower bound.
  pub at_most : referred (linked_by (0 ∷ 1 ∷ 2 ∷ 3 ∷ 4 ∷ 5 ∷ []) ((0, 4) ∷ (1, 3) ∷ (1, 4) ∷ (2, 4) ∷ (3, 5) ∷ [])) (0 ∷ [])
      ≡ record { references = 4 ∷ 1 ∷ 0 ∷ 2 ∷ []; chain = 4 }
  -- 0-3-1-2 with the yards 1 and 2. 2 leaves since its bounds have met, above the chain's: it is not searched.
  pub bounds_meet : referred (linked_by (0 ∷ 1 ∷ 2 ∷ 3 ∷ []) ((0, 3) ∷ (1, 2) ∷ (1, 3) ∷ [])) (1 ∷ 2 ∷ []) ≡ record { references = 1 ∷ 0 ∷ 3 ∷ []; chain = 1 }
  -- 0-1-4-3-2-5 with the yards 1, 2 and 5: 0 leaves, though twice its lower bound is below the chain's upper one.
  pub no_half : referred (linked_by (0 ∷ 1 ∷ 2 ∷ 3 ∷ 4 ∷ 5 ∷ []) ((0, 1) ∷ (1, 4) ∷ (2, 3) ∷ (2, 5) ∷ (3, 4) ∷ [])) (1 ∷ 2 ∷ 5 ∷ [])
      ≡ record { references = 1 ∷ 2 ∷ 5 ∷ 3 ∷ []; chain = 3 }

pub leiden_cases : LeidenCases
unfolding referred path linked_by
leiden_cases = record {
  empty = refl;
  yards_alone = refl;
  single = refl;
  seven = refl;
  sixth = refl;
  end_yards = refl;
  inner_yards = refl;
  one_destination = refl;
  turns = refl;
  yard_first = refl;
  degree_first = refl;
  new_bound = refl;
  at_most = refl;
  bounds_meet = refl;
  no_half = refl;
}
