-- A SECOND TABLE on lent memory: the shrink of graph's RuleCases, opened from the empty map. Its
-- number of searches, 5, is that of the new depot as first reference and the stored pair's way
-- through it as candidate; rounds from candidate 0, or a whole reckoning, take 7. `rule_cases_hold`
-- (proofs/Rules) says it of `update_call base`. Assumes nothing.
use Rattle.std.specs.Prelude.{◌≡◌, false, List, [], ◌∷◌}
use Rattle.graph.specs.Opening.{notice_of}
use Rattle.graph.specs.Updates.{Update, opens}
use Rattle.map.specs.Memory.{base}
use Rattle.update.specs.Memory.{empty_memory}
use Rattle.update.specs.UpdateCall.{Step}
use Rattle.cases.specs.Results.{Line, LentUpdate, answers_of, updates_of, AllLong}

-- the path of six, then depot 6 beside 1 and 4
abbrev pub shrink_lines : List Update
shrink_lines =
    opens (notice_of false 0 [])
    ∷ opens (notice_of false 1 (0 ∷ []))
    ∷ opens (notice_of false 2 (1 ∷ []))
    ∷ opens (notice_of false 3 (2 ∷ []))
    ∷ opens (notice_of false 4 (3 ∷ []))
    ∷ opens (notice_of false 5 (4 ∷ []))
    ∷ opens (notice_of false 6 (1 ∷ 4 ∷ []))
    ∷ []

-- letter (75 K, 71 G, 83 S) and refusal; figures; searches; and the pairs
abbrev pub shrink_answers : List Line
shrink_answers =
    ((75, 0), (1, 0, 0), 1, [])
    ∷ ((71, 0), (2, 1, 1), 1, (0, 1) ∷ [])
    ∷ ((71, 0), (3, 2, 1), 1, (0, 2) ∷ [])
    ∷ ((71, 0), (4, 3, 1), 1, (0, 3) ∷ [])
    ∷ ((71, 0), (5, 4, 1), 1, (0, 4) ∷ [])
    ∷ ((71, 0), (6, 5, 1), 1, (0, 5) ∷ [])
    ∷ ((83, 0), (7, 4, 1), 5, (0, 5) ∷ [])
    ∷ []

-- of a program whose opening call is `opening`: each call is lent the map as it stands after the
-- one before, and any other memory that is long enough
pub record RuleCases (opening : Step) : Type 0 where
  pub shrunk : (cs : List LentUpdate) → updates_of cs ≡ shrink_lines → AllLong cs
      → answers_of opening (empty_memory base) cs ≡ shrink_answers
