-- THE BOUNDS OF MOVEMENT ARE TIGHT, AND YARDS ARE THE EXCEPTION: worked by hand and computed by the checker (`refl`). Assumes nothing.
use Rattle.std.specs.Prelude.{◌≡◌, refl, false, [], ◌∷◌}
use Rattle.graph.specs.Chart.{diameter}
use Rattle.graph.specs.Opening.{notice_of, with_depot}
use Rattle.graph.specs.Linking.{add_link}
use Rattle.graph.specs.Cases.{path}
use Rattle.graph.specs.YardCases.{yards_on}

pub record MovementCases : Type 0 where
  -- the path 0-1-2: a depot at an end raises 2 to 3, a link of its ends halves 2 to 1
  pub was : diameter (path 3) ≡ 2
  pub raised : diameter (with_depot (path 3) (notice_of false 3 (2 ∷ []))) ≡ 3
  pub halved : diameter (add_link (path 3) 0 2) ≡ 1
  -- a depot and two yards in a row: a depot beside the second yard raises 0 to 3
  pub none : diameter (yards_on (1 ∷ 2 ∷ []) 3) ≡ 0
  pub leapt : diameter (with_depot (yards_on (1 ∷ 2 ∷ []) 3) (notice_of false 3 (2 ∷ []))) ≡ 3
  -- two depots with four yards between them: a link of the two lets 5 fall to 1
  pub far : diameter (yards_on (1 ∷ 2 ∷ 3 ∷ 4 ∷ []) 6) ≡ 5
  pub fell : diameter (add_link (yards_on (1 ∷ 2 ∷ 3 ∷ 4 ∷ []) 6) 0 5) ≡ 1

pub movement_cases : MovementCases
unfolding diameter with_depot add_link yards_on path
movement_cases = record { was = refl; raised = refl; halved = refl; none = refl; leapt = refl; far = refl; fell = refl }
