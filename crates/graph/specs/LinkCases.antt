-- CASES OF LINKS ADDED LATER, computed by the checker (`refl`): a small network for each rule, with the misunderstanding that it excludes.
-- Assumes nothing.
use Rattle.std.specs.Prelude.{◌≡◌, refl, List, [], ◌∷◌, ℕ}
use Rattle.lists.specs.Lists.{first_of}
use Rattle.outcome.specs.Outcome.{letter_of}
use Rattle.outcome.specs.declared.Outcome.TheVariants.{Accepted}
use Rattle.graph.specs.Network.{Network}
use Rattle.graph.specs.Chart.{chart}
use Rattle.graph.specs.Linking.{add_link, link_faults, linking_codes}
use Rattle.graph.specs.Cases.{path}
use Rattle.graph.specs.RuleCases.{listed, linked_by, read_state, Opening}

-- a and b linked in G, with the stored chain D and the stored pairs ps
unfoldable pub linked_later : Network → ℕ → ℕ → ℕ → List (ℕ × ℕ) → Opening
unfolding add_link chart listed linking_codes letter_of read_state
linked_later G a b D ps =
    let H = add_link G a b in
    let x = linking_codes (chart H) a b D (listed ps) in
    record { letter = letter_of (Accepted x.change); final = read_state H x.final }

-- the refusal of the link of a and b in the path of seven, 0 if it is accepted
unfoldable pub link_refusal : ℕ → ℕ → ℕ
unfolding first_of link_faults path
link_refusal a b = first_of (link_faults (path 7) a b)

-- ---- THE TABLE

pub record LinkCases : Type 0 where
  -- The path of seven, then 4 and 2, told the higher first. 2 is searched first: 2 and 4 both offer 3 the bound 4, and its mark names 2.
  pub tie : linked_later (path 7) 4 2 6 ((0, 6) ∷ [])
      ≡ record {
        letter = 83;
        final = record {
          references = 2 ∷ 4 ∷ 0 ∷ 6 ∷ [];
          marks = 256 ∷ 2 ∷ 256 ∷ 2 ∷ 256 ∷ 4 ∷ 256 ∷ [];
          bounds = 5 ∷ 4 ∷ 3 ∷ 4 ∷ 3 ∷ 4 ∷ 5 ∷ [];
          chain = 5;
          pairs = (0, 6) ∷ [];
        };
      }
  -- The path of nine, then 3 and 5. 3 offers 6 the bound 6, below the candidate 7, and yet 6 is not skipped before 5 has offered it 5.
  pub both : linked_later (path 9) 3 5 8 ((0, 8) ∷ [])
      ≡ record {
        letter = 83;
        final = record {
          references = 3 ∷ 5 ∷ 0 ∷ 8 ∷ [];
          marks = 256 ∷ 3 ∷ 3 ∷ 256 ∷ 3 ∷ 256 ∷ 5 ∷ 5 ∷ 256 ∷ [];
          bounds = 7 ∷ 6 ∷ 5 ∷ 4 ∷ 5 ∷ 4 ∷ 5 ∷ 6 ∷ 7 ∷ [];
          chain = 7;
          pairs = (0, 8) ∷ [];
        };
      }
  -- The path of seven closed to a ring: the one stored pair is at distance 1 now, and the candidate rises from 1 to 3.
  pub ring : linked_later (path 7) 0 6 6 ((0, 6) ∷ [])
      ≡ record {
        letter = 83;
        final = record {
          references = 0 ∷ 6 ∷ 1 ∷ 2 ∷ 3 ∷ 4 ∷ 5 ∷ [];
          marks = 256 ∷ 256 ∷ 256 ∷ 256 ∷ 256 ∷ 256 ∷ 256 ∷ [];
          bounds = 3 ∷ 3 ∷ 3 ∷ 3 ∷ 3 ∷ 3 ∷ 3 ∷ [];
          chain = 3;
          pairs = (0, 3) ∷ (0, 4) ∷ (1, 4) ∷ (1, 5) ∷ (2, 5) ∷ (2, 6) ∷ (3, 6) ∷ [];
        };
      }
  -- Two leaves of the star of 0, 2 and 3 around 1: two of the three pairs are left, and the chain is kept. Both ends are marked, and nobody else.
  pub star : linked_later (linked_by (0 ∷ 1 ∷ 2 ∷ 3 ∷ []) ((0, 1) ∷ (1, 2) ∷ (1, 3) ∷ [])) 3 0 2 ((0, 2) ∷ (0, 3) ∷ (2, 3) ∷ [])
      ≡ record {
        letter = 75;
        final = record {
          references = 0 ∷ 3 ∷ [];
          marks = 256 ∷ 257 ∷ 257 ∷ 256 ∷ [];
          bounds = 2 ∷ 65535 ∷ 65535 ∷ 2 ∷ [];
          chain = 2;
          pairs = (0, 2) ∷ (2, 3) ∷ [];
        };
      }
  -- False but sound figures follow the same steps. The ring again, with the pair (2,3) in place of (0,6): its way is 5 through 0 and 6 through 6, so
  -- that both ends are looked at. No search reaches 5; it is the chain, without pairs.
  pub wrong : linked_later (path 7) 0 6 6 ((2, 3) ∷ [])
      ≡ record {
        letter = 83;
        final = record {
          references = 0 ∷ 6 ∷ 2 ∷ 4 ∷ [];
          marks = 256 ∷ 0 ∷ 256 ∷ 2 ∷ 256 ∷ 6 ∷ 256 ∷ [];
          bounds = 3 ∷ 4 ∷ 3 ∷ 4 ∷ 3 ∷ 4 ∷ 3 ∷ [];
          chain = 5;
          pairs = [];
        };
      }
  -- The path of three with chain 0 and pair (0,1), then 0 and 2: kept, and the pair stays.
  pub chainless : linked_later (path 3) 0 2 0 ((0, 1) ∷ [])
      ≡ record {
        letter = 75;
        final = record {
          references = 0 ∷ 2 ∷ [];
          marks = 256 ∷ 257 ∷ 256 ∷ [];
          bounds = 1 ∷ 65535 ∷ 1 ∷ [];
          chain = 0;
          pairs = (0, 1) ∷ [];
        };
      }
  -- The same without a pair: kept all the same, though the searches find depots at distance 1.
  pub bare : linked_later (path 3) 0 2 0 []
      ≡ record {
        letter = 75;
        final = record { references = 0 ∷ 2 ∷ []; marks = 256 ∷ 257 ∷ 256 ∷ []; bounds = 1 ∷ 65535 ∷ 1 ∷ []; chain = 0; pairs = [] };
      }
  -- The same path with chain 1 and no pairs: shrank, from candidate 0, though both ends have the eccentricity 1.
  pub pairless : linked_later (path 3) 0 2 1 []
      ≡ record {
        letter = 83;
        final = record {
          references = 0 ∷ 2 ∷ 1 ∷ [];
          marks = 256 ∷ 256 ∷ 256 ∷ [];
          bounds = 1 ∷ 1 ∷ 1 ∷ [];
          chain = 1;
          pairs = (0, 1) ∷ (0, 2) ∷ (1, 2) ∷ [];
        };
      }
  -- The search from the lower end raises the candidate (wrong: S [0, 4, 7, 1, 3, 5, 8, 2, 6])
  pub lower_raises : linked_later (linked_by (0 ∷ 1 ∷ 2 ∷ 3 ∷ 4 ∷ 5 ∷ 6 ∷ 7 ∷ 8 ∷ []) ((0, 8) ∷ (1, 7) ∷ (1, 8) ∷ (2, 5) ∷ (3, 4) ∷ (3, 7) ∷ (4, 6) ∷ (5, 7) ∷ [])) 0 4 6 ((0, 6) ∷ [])
      ≡ record {
        letter = 83;
        final = record {
          references = 0 ∷ 4 ∷ 7 ∷ 8 ∷ 2 ∷ 6 ∷ [];
          marks = 256 ∷ 7 ∷ 256 ∷ 7 ∷ 256 ∷ 7 ∷ 256 ∷ 256 ∷ 256 ∷ [];
          bounds = 5 ∷ 4 ∷ 5 ∷ 4 ∷ 4 ∷ 4 ∷ 5 ∷ 3 ∷ 4 ∷ [];
          chain = 5;
          pairs = (0, 2) ∷ (2, 6) ∷ [];
        };
      }
  -- The search from the higher end raises the candidate (wrong: S [0, 2, 1, 3, 5, 6, 8, 4, 7])
  pub higher_raises : linked_later (linked_by (0 ∷ 1 ∷ 2 ∷ 3 ∷ 4 ∷ 5 ∷ 6 ∷ 7 ∷ 8 ∷ []) ((0, 3) ∷ (0, 7) ∷ (1, 3) ∷ (1, 5) ∷ (1, 6) ∷ (2, 8) ∷ (4, 5) ∷ (6, 8) ∷ [])) 0 2 6 ((2, 7) ∷ [])
      ≡ record {
        letter = 83;
        final = record {
          references = 0 ∷ 2 ∷ 1 ∷ 8 ∷ 4 ∷ 7 ∷ [];
          marks = 256 ∷ 256 ∷ 256 ∷ 1 ∷ 256 ∷ 1 ∷ 1 ∷ 256 ∷ 256 ∷ [];
          bounds = 4 ∷ 3 ∷ 5 ∷ 4 ∷ 5 ∷ 4 ∷ 4 ∷ 5 ∷ 4 ∷ [];
          chain = 5;
          pairs = (2, 4) ∷ (4, 7) ∷ [];
        };
      }
  -- Two stored pairs: the candidate is the greatest of their ways (wrong: S [1, 3, 5, 2, 6, 0, 4])
  pub greatest : linked_later (linked_by (0 ∷ 1 ∷ 2 ∷ 3 ∷ 4 ∷ 5 ∷ 6 ∷ []) ((0, 5) ∷ (1, 4) ∷ (1, 6) ∷ (2, 5) ∷ (2, 6) ∷ (3, 5) ∷ [])) 1 3 5 ((0, 4) ∷ (3, 4) ∷ [])
      ≡ record {
        letter = 83;
        final = record {
          references = 1 ∷ 3 ∷ 2 ∷ 6 ∷ 0 ∷ 4 ∷ [];
          marks = 256 ∷ 256 ∷ 256 ∷ 256 ∷ 256 ∷ 3 ∷ 256 ∷ [];
          bounds = 4 ∷ 3 ∷ 3 ∷ 2 ∷ 4 ∷ 3 ∷ 3 ∷ [];
          chain = 4;
          pairs = (0, 4) ∷ [];
        };
      }
  -- False figures: the way of (3,4) through the higher end is 5, through the lower one 6 (wrong: K [0, 6])
  pub higher_way : linked_later (linked_by (0 ∷ 1 ∷ 2 ∷ 3 ∷ 4 ∷ 5 ∷ 6 ∷ []) ((0, 1) ∷ (1, 2) ∷ (2, 3) ∷ (3, 4) ∷ (4, 5) ∷ (5, 6) ∷ [])) 0 6 6 ((3, 4) ∷ [])
      ≡ record {
        letter = 83;
        final = record {
          references = 0 ∷ 6 ∷ 2 ∷ 4 ∷ [];
          marks = 256 ∷ 0 ∷ 256 ∷ 2 ∷ 256 ∷ 6 ∷ 256 ∷ [];
          bounds = 3 ∷ 4 ∷ 3 ∷ 4 ∷ 3 ∷ 4 ∷ 3 ∷ [];
          chain = 5;
          pairs = [];
        };
      }
  -- Refusals. A closed code with itself, and at either end: 4. An open one with itself: 13. Linked, either way round: 14. A link that is accepted.
  pub absent : link_refusal 7 7 ∷ link_refusal 7 3 ∷ link_refusal 3 7 ∷ [] ≡ 4 ∷ 4 ∷ 4 ∷ []
  pub refusals : link_refusal 3 3 ∷ link_refusal 3 4 ∷ link_refusal 4 3 ∷ link_refusal 0 2 ∷ [] ≡ 13 ∷ 14 ∷ 14 ∷ 0 ∷ []

pub linking-cases : LinkCases
unfolding linked_later link_refusal linked_by path
linking-cases = record {
  tie = refl;
  both = refl;
  ring = refl;
  star = refl;
  wrong = refl;
  chainless = refl;
  bare = refl;
  pairless = refl;
  lower_raises = refl;
  higher_raises = refl;
  greatest = refl;
  higher_way = refl;
  absent = refl;
  refusals = refl;
}
