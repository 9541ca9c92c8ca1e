-- A SECOND TABLE OF CASES, computed by the checker (`refl`): a small network for each rule that the examples of the rules leave open, with the
-- misunderstanding that it excludes. Assumes nothing.
use Rattle.std.specs.Prelude.{◌≡◌, refl, false, ◌&&◌, ◌||◌, List, [], ◌∷◌, ℕ, eqb}
use Rattle.lists.specs.Lists.{anyb, memb, mapl}
use Rattle.outcome.specs.Outcome.{letter_of}
use Rattle.outcome.specs.declared.Outcome.TheVariants.{Accepted}
use Rattle.graph.specs.Network.{Network}
use Rattle.graph.specs.Distance.{vertices}
use Rattle.graph.specs.Chart.{chart, Pairs}
use Rattle.graph.specs.Rounds.{State, mark_of, bound_of}
use Rattle.graph.specs.Opening.{Notice, notice_of, with_depot, opening}
use Rattle.graph.specs.Nearby.{within_list, nearest_listed}
use Rattle.graph.specs.Cases.{pair_list, path, ReckoningCase, reckoning}

-- the pairs of a list
unfoldable pub listed : List (ℕ × ℕ) → Pairs
unfolding anyb
listed ps u v = anyb (λ p. eqb u p.0 && eqb v p.1) ps

-- the network of the depots vs with the links ls
unfoldable pub linked_by : List ℕ → List (ℕ × ℕ) → Network
unfolding memb listed
linked_by vs ls = record { depots = vs; is_open = λ c. memb c vs; is_yard = λ c. false; linked = λ u v. listed ls u v || listed ls v u }

-- what an opening's state says of the depots of G
unfoldable pub read_state : Network → State → ReckoningCase
unfolding mapl pair_list
read_state G S =
    let vs = vertices G in
    record {
      references = S.references;
      marks = mapl (λ v. mark_of 256 257 (S.status v)) vs;
      bounds = mapl (λ v. bound_of (S.status v)) vs;
      chain = S.candidate;
      pairs = pair_list vs S.pairs;
    }

-- an opening: its letter (ASCII: G K S), and what it leaves
pub record Opening : Type 0 where
  pub letter : ℕ
  pub final : ReckoningCase

-- the notice o opened in G, with the stored chain D and the stored pairs ps
unfoldable pub opened_by : Network → Notice → ℕ → List (ℕ × ℕ) → Opening
unfolding with_depot chart listed opening letter_of read_state
opened_by G o D ps =
    let H = with_depot G o in
    let x = opening (chart H) o.code D (listed ps) in
    record { letter = letter_of (Accepted x.change); final = read_state H x.final }

-- the same of a depot that delivers: a beside ns
unfoldable pub opened : Network → ℕ → List ℕ → ℕ → List (ℕ × ℕ) → Opening
unfolding opened_by
opened G a ns D ps = opened_by G (notice_of false a ns) D ps

-- ---- THE TABLE

pub record RuleCases : Type 0 where
  -- The path of seven with depot 7 beside 4. 7 gets the bound 5 from 4, again from 3, and is skipped after 0: its mark is 4, the earliest of the two.
  pub tie : reckoning (linked_by (0 ∷ 1 ∷ 2 ∷ 3 ∷ 4 ∷ 5 ∷ 6 ∷ 7 ∷ []) ((0, 1) ∷ (1, 2) ∷ (2, 3) ∷ (3, 4) ∷ (4, 5) ∷ (5, 6) ∷ (4, 7) ∷ []))
      ≡ record {
        references = 4 ∷ 1 ∷ 2 ∷ 3 ∷ 5 ∷ 0 ∷ 6 ∷ [];
        marks = 256 ∷ 256 ∷ 256 ∷ 256 ∷ 256 ∷ 256 ∷ 256 ∷ 4 ∷ [];
        bounds = 6 ∷ 5 ∷ 4 ∷ 3 ∷ 4 ∷ 5 ∷ 6 ∷ 5 ∷ [];
        chain = 6;
        pairs = (0, 6) ∷ [];
      }
  -- The path 0-1-2-3-5 with depot 4 beside 2. The search from 0 raises the candidate from 3 to 4, and 4, with bound 3, is skipped by the new one.
  pub risen : reckoning (linked_by (0 ∷ 1 ∷ 2 ∷ 3 ∷ 4 ∷ 5 ∷ []) ((0, 1) ∷ (1, 2) ∷ (2, 3) ∷ (3, 5) ∷ (2, 4) ∷ []))
      ≡ record {
        references = 2 ∷ 1 ∷ 3 ∷ 0 ∷ 5 ∷ [];
        marks = 256 ∷ 256 ∷ 256 ∷ 256 ∷ 2 ∷ 256 ∷ [];
        bounds = 4 ∷ 3 ∷ 2 ∷ 3 ∷ 3 ∷ 4 ∷ [];
        chain = 4;
        pairs = (0, 5) ∷ [];
      }
  -- Depot 200 has a neighbour in each of the four words of its row, one more than depot 0: it comes first, and no word goes uncounted.
  pub words : reckoning (linked_by (0 ∷ 1 ∷ 2 ∷ 3 ∷ 70 ∷ 130 ∷ 200 ∷ 255 ∷ []) ((0, 1) ∷ (0, 2) ∷ (0, 3) ∷ (1, 200) ∷ (70, 200) ∷ (130, 200) ∷ (200, 255) ∷ []))
      ≡ record {
        references = 200 ∷ 0 ∷ 1 ∷ 2 ∷ 3 ∷ 70 ∷ 130 ∷ 255 ∷ [];
        marks = 256 ∷ 256 ∷ 256 ∷ 256 ∷ 256 ∷ 256 ∷ 256 ∷ 256 ∷ [];
        bounds = 3 ∷ 2 ∷ 4 ∷ 4 ∷ 4 ∷ 4 ∷ 3 ∷ 4 ∷ [];
        chain = 4;
        pairs = (2, 70) ∷ (2, 130) ∷ (2, 255) ∷ (3, 70) ∷ (3, 130) ∷ (3, 255) ∷ [];
      }
  -- The path of six, then depot 6 beside 1 and 4: shrank. 6 is the first reference; the candidate is 4, the way from 0 to 5 through 6, so that 1 and 4
  -- are skipped at once. Rounds from candidate 0, and a whole reckoning, search both.
  pub shrunk : opened (path 6) 6 (1 ∷ 4 ∷ []) 5 ((0, 5) ∷ [])
      ≡ record {
        letter = 83;
        final = record {
          references = 6 ∷ 2 ∷ 3 ∷ 0 ∷ 5 ∷ [];
          marks = 256 ∷ 6 ∷ 256 ∷ 256 ∷ 6 ∷ 256 ∷ 256 ∷ [];
          bounds = 4 ∷ 3 ∷ 3 ∷ 3 ∷ 3 ∷ 4 ∷ 2 ∷ [];
          chain = 4;
          pairs = (0, 5) ∷ [];
        };
      }
  -- False but sound figures follow the same steps. The path of three with chain 9 and pair (0,1), then depot 3 beside 2: the candidate is 5, the way
  -- from 0 to 1 through 3. No search reaches it; it is the chain, without pairs.
  pub unreached : opened (path 3) 3 (2 ∷ []) 9 ((0, 1) ∷ [])
      ≡ record { letter = 83; final = record { references = 3 ∷ 1 ∷ []; marks = 1 ∷ 256 ∷ 3 ∷ 256 ∷ []; bounds = 3 ∷ 2 ∷ 4 ∷ 3 ∷ []; chain = 5; pairs = [] } }
  -- An empty map with chain 3: shrank to 0.
  pub chained : opened (path 0) 0 [] 3 []
      ≡ record { letter = 83; final = record { references = 0 ∷ []; marks = 256 ∷ []; bounds = 0 ∷ []; chain = 0; pairs = [] } }
  -- The path of two with chain 0 and pair (0,1), then depot 2 beside 1: grew, and the stored pair is gone. Only 2 was searched.
  pub chainless : opened (path 2) 2 (1 ∷ []) 0 ((0, 1) ∷ [])
      ≡ record { letter = 71; final = record { references = 2 ∷ []; marks = 257 ∷ 257 ∷ 256 ∷ []; bounds = 65535 ∷ 65535 ∷ 2 ∷ []; chain = 2; pairs = (0, 2) ∷ [] } }
  -- Two stored pairs, (0,6) and (3,6), with ways of 4 and 2 through 7: the candidate is the greatest, 4. From the least, depot 4 is searched too.
  pub greatest : opened (linked_by (0 ∷ 1 ∷ 2 ∷ 3 ∷ 4 ∷ 5 ∷ 6 ∷ []) ((0, 1) ∷ (1, 2) ∷ (1, 3) ∷ (2, 4) ∷ (4, 5) ∷ (5, 6) ∷ [])) 7 (2 ∷ 3 ∷ 6 ∷ []) 5 ((0, 6) ∷ (3, 6) ∷ [])
      ≡ record {
        letter = 83;
        final = record {
          references = 7 ∷ 1 ∷ 2 ∷ 3 ∷ 5 ∷ 6 ∷ 0 ∷ [];
          marks = 256 ∷ 256 ∷ 256 ∷ 256 ∷ 2 ∷ 256 ∷ 256 ∷ 256 ∷ [];
          bounds = 4 ∷ 3 ∷ 2 ∷ 3 ∷ 3 ∷ 4 ∷ 4 ∷ 3 ∷ [];
          chain = 4;
          pairs = (0, 5) ∷ (0, 6) ∷ [];
        };
      }
  -- The search from the new depot 9 raises the candidate, by which 1, 2 and 8 are skipped after the next search.
  pub raised : opened (linked_by (0 ∷ 1 ∷ 2 ∷ 3 ∷ 4 ∷ 5 ∷ 6 ∷ 7 ∷ 8 ∷ []) ((0, 6) ∷ (1, 4) ∷ (1, 6) ∷ (2, 3) ∷ (2, 4) ∷ (4, 8) ∷ (5, 7) ∷ (5, 8) ∷ [])) 9 (5 ∷ 6 ∷ []) 6 ((0, 7) ∷ [])
      ≡ record {
        letter = 83;
        final = record {
          references = 9 ∷ 4 ∷ 5 ∷ 6 ∷ 0 ∷ 3 ∷ 7 ∷ [];
          marks = 256 ∷ 4 ∷ 4 ∷ 256 ∷ 256 ∷ 256 ∷ 256 ∷ 256 ∷ 4 ∷ 256 ∷ [];
          bounds = 5 ∷ 4 ∷ 4 ∷ 5 ∷ 3 ∷ 4 ∷ 4 ∷ 5 ∷ 4 ∷ 5 ∷ [];
          chain = 5;
          pairs = (0, 3) ∷ (3, 7) ∷ (3, 9) ∷ [];
        };
      }
  -- On the path of seven, from 3. 0 handovers: itself alone. 2: the depots at exactly 2 too, on both sides, and rising. 65,535, the hop of a closed
  -- code, and more: all seven, and no closed code.
  pub within : mapl (within_list (path 7) 3) (0 ∷ 2 ∷ 65535 ∷ 65536 ∷ [])
      ≡ (3 ∷ []) ∷ (1 ∷ 2 ∷ 3 ∷ 4 ∷ 5 ∷ []) ∷ (0 ∷ 1 ∷ 2 ∷ 3 ∷ 4 ∷ 5 ∷ 6 ∷ []) ∷ (0 ∷ 1 ∷ 2 ∷ 3 ∷ 4 ∷ 5 ∷ 6 ∷ []) ∷ []
  -- 5 and 1 are both at 2 from 3: the lower code, not the first listed, whichever comes first; the closed 9 is none.
  pub nearest_tie : nearest_listed (path 7) 3 (9 ∷ 5 ∷ 1 ∷ 0 ∷ 5 ∷ []) ≡ 1
  pub nearest_tie_back : nearest_listed (path 7) 3 (0 ∷ 1 ∷ 5 ∷ []) ≡ 1
  -- From 6 the nearest is 4: not the first listed, the lowest or the last. Where the start is listed it is itself the nearest.
  pub nearest_middle : nearest_listed (path 7) 6 (0 ∷ 4 ∷ 2 ∷ 200 ∷ []) ≡ 4
  pub nearest_self : nearest_listed (path 7) 6 (5 ∷ 6 ∷ 5 ∷ []) ≡ 6

pub rule_cases : RuleCases
unfolding linked_by reckoning opened path within_list nearest_listed mapl
rule_cases = record {
  tie = refl;
  risen = refl;
  words = refl;
  shrunk = refl;
  unreached = refl;
  chained = refl;
  chainless = refl;
  greatest = refl;
  raised = refl;
  within = refl;
  nearest_tie = refl;
  nearest_tie_back = refl;
  nearest_middle = refl;
  nearest_self = refl;
}
