-- CLOSINGS WORKED BY HAND, computed by the checker (`refl`). Assumes nothing.
use Rattle.std.specs.Prelude.{◌≡◌, refl, List, [], ◌∷◌, ℕ, zero, suc, eqb, length}
use Rattle.lists.specs.Lists.{first_of}
use Rattle.outcome.specs.Outcome.{letter_of}
use Rattle.outcome.specs.declared.Outcome.TheVariants.{Accepted}
use Rattle.graph.specs.Network.{with_yards}
use Rattle.graph.specs.Chart.{chart}
use Rattle.graph.specs.Closing.{remove_depot, close_faults, closing}
use Rattle.graph.specs.Cases.{path, AnswerLine, PlainMap, line_for}
use Rattle.graph.specs.RuleCases.{listed, linked_by}

-- the map after a closing, with its line; k is its refusal, 0 if it is accepted
unfoldable pub close_one : ℕ → PlainMap → ℕ → PlainMap × AnswerLine
unfolding remove_depot chart closing line_for letter_of
close_one zero M c =
    let H = remove_depot M.net c in
    let x = closing (chart H) M.chain in
    let N : PlainMap = record { net = H; chain = x.final.candidate; pairs = x.final.pairs } in
    (N, line_for (letter_of (Accepted x.change)) 0 (length x.final.references) N)
close_one (suc k) M c = (M, line_for 82 (suc k) 0 M)

unfoldable pub close_all : PlainMap → List ℕ → List AnswerLine
unfolding close_one first_of close_faults
close_all M [] = []
close_all M (c ∷ cs) = let r = close_one (first_of (close_faults M.net c)) M c in r.1 ∷ close_all r.0 cs

-- ---- THE TABLE

pub record CloseCases : Type 0 where
  -- 5 between 7 and 300: it cannot close, an end can, and the chain shrinks
  pub row : close_all (record { net = linked_by (5 ∷ 7 ∷ 300 ∷ []) ((5, 7) ∷ (5, 300) ∷ []); chain = 2; pairs = listed ((7, 300) ∷ []) }) (5 ∷ 300 ∷ [])
      ≡ record { letter = 82; refusal = 17; number = 3; chain = 2; count = 1; searches = 0; pairs = (7, 300) ∷ [] }
      ∷ record { letter = 83; refusal = 0; number = 2; chain = 1; count = 1; searches = 2; pairs = (5, 7) ∷ [] }
      ∷ []
  -- a ring of five opened at 0 grows to a path of four; then a closed code, and a depot without which 1 would be left alone
  pub ring : close_all
      (record {
        net = linked_by (0 ∷ 1 ∷ 2 ∷ 3 ∷ 4 ∷ []) ((0, 1) ∷ (1, 2) ∷ (2, 3) ∷ (3, 4) ∷ (0, 4) ∷ []);
        chain = 2;
        pairs = listed ((0, 2) ∷ (0, 3) ∷ (1, 3) ∷ (1, 4) ∷ (2, 4) ∷ []);
      })
      (0 ∷ 0 ∷ 2 ∷ [])
      ≡ record { letter = 71; refusal = 0; number = 4; chain = 3; count = 1; searches = 4; pairs = (1, 4) ∷ [] }
      ∷ record { letter = 82; refusal = 4; number = 4; chain = 3; count = 1; searches = 0; pairs = (1, 4) ∷ [] }
      ∷ record { letter = 82; refusal = 17; number = 4; chain = 3; count = 1; searches = 0; pairs = (1, 4) ∷ [] }
      ∷ []
  -- the path of seven loses its end, and then would be cut
  pub seven : close_all (record { net = path 7; chain = 6; pairs = listed ((0, 6) ∷ []) }) (6 ∷ 3 ∷ [])
      ≡ record { letter = 83; refusal = 0; number = 6; chain = 5; count = 1; searches = 6; pairs = (0, 5) ∷ [] }
      ∷ record { letter = 82; refusal = 17; number = 6; chain = 5; count = 1; searches = 0; pairs = (0, 5) ∷ [] }
      ∷ []
  -- the yard 1 of three that are all linked closes: no figure moves
  pub yard : close_all
      (record { net = with_yards (λ c. eqb c 1) (linked_by (0 ∷ 1 ∷ 2 ∷ []) ((0, 1) ∷ (0, 2) ∷ (1, 2) ∷ [])); chain = 1; pairs = listed ((0, 2) ∷ []) })
      (1 ∷ [])
      ≡ record { letter = 75; refusal = 0; number = 2; chain = 1; count = 1; searches = 2; pairs = (0, 2) ∷ [] } ∷ []
  -- the only depot: no depot is left to search from
  pub only : close_all (record { net = path 1; chain = 0; pairs = listed [] }) (0 ∷ [])
      ≡ record { letter = 75; refusal = 0; number = 0; chain = 0; count = 0; searches = 0; pairs = [] } ∷ []
  -- the same with the false chain 5 and a false pair: shrank
  pub wrong : close_all (record { net = path 1; chain = 5; pairs = listed ((0, 0) ∷ []) }) (0 ∷ [])
      ≡ record { letter = 83; refusal = 0; number = 0; chain = 0; count = 0; searches = 0; pairs = [] } ∷ []

pub close_cases : CloseCases
unfolding close_all linked_by path
close_cases = record { row = refl; ring = refl; seven = refl; yard = refl; only = refl; wrong = refl }
