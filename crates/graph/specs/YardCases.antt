-- CASES OF TRANSIT YARDS, worked by hand and computed by the checker (`refl`): small networks, with the misunderstanding that each excludes.
-- Assumes nothing.
use Rattle.std.specs.Prelude.{◌≡◌, refl, Bool, true, false, List, [], ◌∷◌, ℕ}
use Rattle.lists.specs.Lists.{memb}
use Rattle.graph.specs.Network.{Network, with_yards}
use Rattle.graph.specs.Opening.{notice_of}
use Rattle.graph.specs.Updates.{Update, opens}
use Rattle.graph.specs.Batch.{Entry, entry_of, batch_of}
use Rattle.graph.specs.Nearby.{within_list, nearest_listed}
use Rattle.graph.specs.Cases.{path, reckoning, report_of, follow_all, no_depot}
use Rattle.graph.specs.RuleCases.{opened_by}
use Rattle.graph.specs.LinkCases.{linked_later}
use Rattle.graph.specs.BatchCases.{case_of}

-- the path 0-1-..-(k - 1) with yards at ys
unfoldable pub yards_on : List ℕ → ℕ → Network
unfolding memb path
yards_on ys k = with_yards (λ c. memb c ys) (path k)

-- ---- histories

-- The first opening is a yard; then a depot that delivers, beside it. Yard 2 is 3 from depot 0, where the chain is 2. Yard 6 shortens the one pair.
abbrev pub mixed_lines : List Update
mixed_lines =
    opens (notice_of true 3 [])
    ∷ opens (notice_of false 0 (3 ∷ []))
    ∷ opens (notice_of false 1 (3 ∷ []))
    ∷ opens (notice_of true 2 (1 ∷ []))
    ∷ opens (notice_of false 4 (2 ∷ []))
    ∷ opens (notice_of false 5 (4 ∷ []))
    ∷ opens (notice_of true 6 (0 ∷ 4 ∷ []))
    ∷ []

-- Yard 7 is as far from depot 2 as the chain is long, 3, and the one pair (0,1) is shortened.
abbrev pub loop_lines : List Update
loop_lines =
    opens (notice_of false 0 [])
    ∷ opens (notice_of true 3 (0 ∷ []))
    ∷ opens (notice_of false 2 (3 ∷ []))
    ∷ opens (notice_of true 4 (2 ∷ []))
    ∷ opens (notice_of false 1 (4 ∷ []))
    ∷ opens (notice_of true 5 (0 ∷ []))
    ∷ opens (notice_of true 6 (1 ∷ 5 ∷ []))
    ∷ opens (notice_of true 7 (0 ∷ 1 ∷ []))
    ∷ []

-- A depot and two yards in a row, then a depot beside the second yard. A yard's code is taken as any other.
abbrev pub row_lines : List Update
row_lines =
    opens (notice_of false 0 [])
    ∷ opens (notice_of true 1 (0 ∷ []))
    ∷ opens (notice_of true 2 (1 ∷ []))
    ∷ opens (notice_of false 3 (2 ∷ []))
    ∷ opens (notice_of false 1 (0 ∷ []))
    ∷ []

-- a depot that waits for a yard of the same batch
abbrev pub waiting_for_yard : List Entry
waiting_for_yard = entry_of 0 (notice_of false 9 (5 ∷ [])) ∷ entry_of 1 (notice_of true 5 (0 ∷ [])) ∷ []

-- ---- THE TABLE

pub record YardCases : Type 0 where
  -- A first opening as a yard, and a depot into a map of yards alone: kept, at chain 0 without pairs. Yard 2 makes nothing grow. Yard 6: shrank.
  pub mixed : follow_all no_depot mixed_lines
      ≡ record { letter = 75; refusal = 0; number = 1; chain = 0; count = 0; searches = 1; pairs = [] }
      ∷ record { letter = 75; refusal = 0; number = 2; chain = 0; count = 0; searches = 1; pairs = [] }
      ∷ record { letter = 71; refusal = 0; number = 3; chain = 2; count = 1; searches = 1; pairs = (0, 1) ∷ [] }
      ∷ record { letter = 75; refusal = 0; number = 4; chain = 2; count = 1; searches = 1; pairs = (0, 1) ∷ [] }
      ∷ record { letter = 71; refusal = 0; number = 5; chain = 4; count = 1; searches = 1; pairs = (0, 4) ∷ [] }
      ∷ record { letter = 71; refusal = 0; number = 6; chain = 5; count = 1; searches = 1; pairs = (0, 5) ∷ [] }
      ∷ record { letter = 83; refusal = 0; number = 7; chain = 3; count = 2; searches = 7; pairs = (0, 5) ∷ (1, 5) ∷ [] }
      ∷ []
  -- The eccentricity of yard 7 is the chain, and it keeps nothing: shrank.
  pub loop : follow_all no_depot loop_lines
      ≡ record { letter = 75; refusal = 0; number = 1; chain = 0; count = 0; searches = 1; pairs = [] }
      ∷ record { letter = 75; refusal = 0; number = 2; chain = 0; count = 0; searches = 1; pairs = [] }
      ∷ record { letter = 71; refusal = 0; number = 3; chain = 2; count = 1; searches = 1; pairs = (0, 2) ∷ [] }
      ∷ record { letter = 75; refusal = 0; number = 4; chain = 2; count = 1; searches = 1; pairs = (0, 2) ∷ [] }
      ∷ record { letter = 71; refusal = 0; number = 5; chain = 4; count = 1; searches = 1; pairs = (0, 1) ∷ [] }
      ∷ record { letter = 75; refusal = 0; number = 6; chain = 4; count = 1; searches = 1; pairs = (0, 1) ∷ [] }
      ∷ record { letter = 83; refusal = 0; number = 7; chain = 3; count = 1; searches = 7; pairs = (0, 1) ∷ [] }
      ∷ record { letter = 83; refusal = 0; number = 8; chain = 2; count = 3; searches = 8; pairs = (0, 1) ∷ (0, 2) ∷ (1, 2) ∷ [] }
      ∷ []
  -- Where there are yards, one opening may lengthen the chain by more than 1: here from 0 to 3.
  pub row : follow_all no_depot row_lines
      ≡ record { letter = 75; refusal = 0; number = 1; chain = 0; count = 0; searches = 1; pairs = [] }
      ∷ record { letter = 75; refusal = 0; number = 2; chain = 0; count = 0; searches = 1; pairs = [] }
      ∷ record { letter = 75; refusal = 0; number = 3; chain = 0; count = 0; searches = 1; pairs = [] }
      ∷ record { letter = 71; refusal = 0; number = 4; chain = 3; count = 1; searches = 1; pairs = (0, 3) ∷ [] }
      ∷ record { letter = 82; refusal = 5; number = 4; chain = 3; count = 1; searches = 0; pairs = (0, 3) ∷ [] }
      ∷ []
  -- The path of two with chain 0 and the pair (0,1), then yard 2 beside 1: kept, and the pair, false as it is, stays. Its bound is its eccentricity.
  pub chainless : opened_by (path 2) (notice_of true 2 (1 ∷ [])) 0 ((0, 1) ∷ [])
      ≡ record { letter = 75; final = record { references = 2 ∷ []; marks = 257 ∷ 257 ∷ 256 ∷ []; bounds = 65535 ∷ 65535 ∷ 2 ∷ []; chain = 0; pairs = (0, 1) ∷ [] } }
  -- The same with chain 2 and no pair: shrank, though 2 is the yard's eccentricity.
  pub pairless : opened_by (path 2) (notice_of true 2 (1 ∷ [])) 2 []
      ≡ record { letter = 83; final = record { references = 2 ∷ 1 ∷ 0 ∷ []; marks = 256 ∷ 256 ∷ 256 ∷ []; bounds = 1 ∷ 1 ∷ 2 ∷ []; chain = 1; pairs = (0, 1) ∷ [] } }
  -- The path of six, then yard 6 beside 1 and 4: shrank. 6 is the first reference, and its bounds skip 1 and 4 at once.
  pub shrunk : opened_by (path 6) (notice_of true 6 (1 ∷ 4 ∷ [])) 5 ((0, 5) ∷ [])
      ≡ record {
        letter = 83;
        final = record {
          references = 6 ∷ 2 ∷ 3 ∷ 0 ∷ 5 ∷ [];
          marks = 256 ∷ 6 ∷ 256 ∷ 256 ∷ 6 ∷ 256 ∷ 256 ∷ [];
          bounds = 4 ∷ 3 ∷ 3 ∷ 3 ∷ 3 ∷ 4 ∷ 2 ∷ [];
          chain = 4;
          pairs = (0, 5) ∷ [];
        };
      }
  -- The path of seven with a yard at 3: it is searched in its turn, and its bound skips depot 4.
  pub middle : reckoning (yards_on (3 ∷ []) 7)
      ≡ record {
        references = 1 ∷ 2 ∷ 3 ∷ 5 ∷ 0 ∷ 6 ∷ [];
        marks = 256 ∷ 256 ∷ 256 ∷ 256 ∷ 3 ∷ 256 ∷ 256 ∷ [];
        bounds = 6 ∷ 5 ∷ 4 ∷ 3 ∷ 4 ∷ 5 ∷ 6 ∷ [];
        chain = 6;
        pairs = (0, 6) ∷ [];
      }
  -- The same with a yard at 4: it is skipped as a depot is.
  pub skipped : reckoning (yards_on (4 ∷ []) 7)
      ≡ record {
        references = 1 ∷ 2 ∷ 3 ∷ 5 ∷ 0 ∷ 6 ∷ [];
        marks = 256 ∷ 256 ∷ 256 ∷ 256 ∷ 3 ∷ 256 ∷ 256 ∷ [];
        bounds = 6 ∷ 5 ∷ 4 ∷ 3 ∷ 4 ∷ 5 ∷ 6 ∷ [];
        chain = 6;
        pairs = (0, 6) ∷ [];
      }
  -- The same with yards at 0, 1 and 6. 1 is searched first, and 4 is the greatest distance from it; 5 from 0: neither is the candidate, nor a pair's.
  pub ends : reckoning (yards_on (0 ∷ 1 ∷ 6 ∷ []) 7)
      ≡ record {
        references = 1 ∷ 2 ∷ 3 ∷ 4 ∷ 5 ∷ 0 ∷ 6 ∷ [];
        marks = 256 ∷ 256 ∷ 256 ∷ 256 ∷ 256 ∷ 256 ∷ 256 ∷ [];
        bounds = 5 ∷ 4 ∷ 3 ∷ 2 ∷ 2 ∷ 3 ∷ 4 ∷ [];
        chain = 3;
        pairs = (2, 5) ∷ [];
      }
  -- Yards alone: they are searched, and there is nothing to reach.
  pub alone : reckoning (yards_on (0 ∷ 1 ∷ []) 2)
      ≡ record { references = 0 ∷ 1 ∷ []; marks = 256 ∷ 256 ∷ []; bounds = 0 ∷ 0 ∷ []; chain = 0; pairs = [] }
  -- The path of seven with yards at both ends, which are linked: both are the first references.
  pub closed : linked_later (yards_on (0 ∷ 6 ∷ []) 7) 0 6 4 ((1, 5) ∷ [])
      ≡ record {
        letter = 83;
        final = record {
          references = 0 ∷ 6 ∷ 1 ∷ 2 ∷ 3 ∷ 4 ∷ 5 ∷ [];
          marks = 256 ∷ 256 ∷ 256 ∷ 256 ∷ 256 ∷ 256 ∷ 256 ∷ [];
          bounds = 3 ∷ 3 ∷ 3 ∷ 2 ∷ 3 ∷ 3 ∷ 3 ∷ [];
          chain = 3;
          pairs = (1, 4) ∷ (1, 5) ∷ (2, 5) ∷ [];
        };
      }
  -- The report of the path of seven with yards at both ends is that of the path of five: 4 pairs at distance 1, 3 at 2, 2 at 3, 1 at 4.
  pub report : report_of 8 (yards_on (0 ∷ 6 ∷ []) 7)
      ≡ record { sum = 20; pairs = 10; quotient = 2; remainder = 0; counts = 0 ∷ 0 ∷ 1 ∷ 2 ∷ 2 ∷ 0 ∷ 0 ∷ 0 ∷ [] }
  -- Depots near one are open ones, yards too.
  pub within : within_list (yards_on (2 ∷ 3 ∷ []) 7) 3 1 ≡ 2 ∷ 3 ∷ 4 ∷ []
  pub nearest : nearest_listed (yards_on (2 ∷ 3 ∷ []) 7) 3 (0 ∷ 2 ∷ 5 ∷ []) ≡ 2
  -- A batch: the yard opens first, and the depot beside it then; only the yard is one.
  pub batch : case_of waiting_for_yard ≡ record { accepted = 1 ∷ 0 ∷ []; left = []; codes = 0 ∷ 5 ∷ 9 ∷ []; once = 0 ∷ 5 ∷ [] }
  pub batch_yards : ◌≡◌ {A = List Bool} ((batch_of (path 1) waiting_for_yard).network.is_yard 5 ∷ (batch_of (path 1) waiting_for_yard).network.is_yard 9 ∷ []) (true ∷ false ∷ [])

pub yard_cases : YardCases
unfolding yards_on path reckoning follow_all no_depot opened_by linked_later report_of within_list nearest_listed case_of batch_of
yard_cases = record {
  mixed = refl;
  loop = refl;
  row = refl;
  chainless = refl;
  pairless = refl;
  shrunk = refl;
  middle = refl;
  skipped = refl;
  ends = refl;
  alone = refl;
  closed = refl;
  report = refl;
  within = refl;
  nearest = refl;
  batch = refl;
  batch_yards = refl;
}
