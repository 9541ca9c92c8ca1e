-- THE WORKED CASES over networks, computed by the checker (`refl`): the empty map, the single map and the path of seven reckoned (rule 5.6), the
-- report of the path of seven, the order in which depots are listed, and the seven stream lines (rule 10.5). Assumes nothing.
use Rattle.std.specs.Prelude.{◌≡◌, refl, false, cond, ◌&&◌, ◌||◌, List, [], ◌∷◌, ◌++◌, ℕ, zero, suc, ◌/◌, ◌%◌, eqb, ltb, length, get_or}
use Rattle.lists.specs.Lists.{range, mapl, first_of}
use Rattle.outcome.specs.Outcome.{letter_of}
use Rattle.outcome.specs.declared.Outcome.TheVariants.{Accepted}
use Rattle.graph.specs.Network.{Network}
use Rattle.graph.specs.Distance.{vertices}
use Rattle.graph.specs.Chart.{chart, Pairs, count_pairs}
use Rattle.graph.specs.Summary.{distance_sum, pair_number, ecc_count}
use Rattle.graph.specs.Rounds.{mark_of, bound_of, reckon}
use Rattle.graph.specs.Opening.{notice_of, empty_network, add_depot}
use Rattle.graph.specs.Updates.{Update, opens, update_faults, applied, steps}

-- the depot u with each of the depots that P pairs it with
unfoldable pub partners : Pairs → ℕ → List ℕ → List (ℕ × ℕ)
partners P u [] = []
partners P u (v ∷ vs) = let r = partners P u vs in cond (P u v) ((u, v) ∷ r) r

-- the same for each of the depots us
unfoldable pub pairs_from : Pairs → List ℕ → List ℕ → List (ℕ × ℕ)
unfolding partners
pairs_from P vs [] = []
pairs_from P vs (u ∷ us) = partners P u vs ++ pairs_from P vs us

-- the pairs among the depots vs, as a list
unfoldable pub pair_list : List ℕ → Pairs → List (ℕ × ℕ)
unfolding pairs_from
pair_list vs P = pairs_from P vs vs

-- ---- the whole reckoning

-- the path 0-1-..-(k - 1)
unfoldable pub path : ℕ → Network
unfolding range
path k = record { depots = range k; is_open = λ c. ltb c k; is_yard = λ c. false; linked = λ u v. ltb u k && ltb v k && (eqb (suc u) v || eqb u (suc v)) }

-- references in order; marks and bounds of the open depots; chain; pairs
pub record ReckoningCase : Type 0 where
  pub references : List ℕ
  pub marks : List ℕ
  pub bounds : List ℕ
  pub chain : ℕ
  pub pairs : List (ℕ × ℕ)

unfoldable pub reckoning : Network → ReckoningCase
unfolding chart reckon mapl pair_list
reckoning G =
    let S = reckon (chart G) in
    let vs = vertices G in
    record {
      references = S.references;
      marks = mapl (λ v. mark_of 256 257 (S.status v)) vs;
      bounds = mapl (λ v. bound_of (S.status v)) vs;
      chain = S.candidate;
      pairs = pair_list vs S.pairs;
    }

-- ---- the network report

-- sum of the distances, number of pairs, quotient and remainder; how many depots have the eccentricities 0, 1, ..
pub record ReportCase : Type 0 where
  pub sum : ℕ
  pub pairs : ℕ
  pub quotient : ℕ
  pub remainder : ℕ
  pub counts : List ℕ

unfoldable pub report_of : ℕ → Network → ReportCase
unfolding chart distance_sum pair_number ecc_count mapl range
report_of limit G =
    let C = chart G in
    record {
      sum = distance_sum C;
      pairs = pair_number C;
      quotient = distance_sum C / pair_number C;
      remainder = distance_sum C % pair_number C;
      counts = mapl (ecc_count C) (range limit);
    }

-- the path of seven: 6 pairs at distance 1, 5 at 2, .., 1 at 6
pub reporting : report_of 8 (path 7) ≡ record { sum = 56; pairs = 21; quotient = 2; remainder = 14; counts = 0 ∷ 0 ∷ 0 ∷ 1 ∷ 2 ∷ 2 ∷ 2 ∷ 0 ∷ [] }
unfolding report_of path
reporting = refl

-- ---- the order of the depots

-- the depots 0, 1 and 2, opened in turn with the keys 30, 10 and 20, each beside the first, are listed by their keys
unfoldable pub listed_by_key : Network
unfolding empty_network add_depot
listed_by_key =
    let key : ℕ → ℕ = λ v. get_or (30 ∷ 10 ∷ 20 ∷ []) v 0 in
    let one = add_depot key empty_network false 0 (λ v. false) in
    add_depot key (add_depot key one false 1 (λ v. eqb v 0)) false 2 (λ v. eqb v 0)

pub listing : listed_by_key.depots ≡ 1 ∷ 2 ∷ 0 ∷ []
unfolding listed_by_key
listing = refl

-- ---- the seven stream lines

-- letter (ASCII: G K S, or R) and refusal; the figures of a report line; the pairs themselves
pub record AnswerLine : Type 0 where
  pub letter : ℕ
  pub refusal : ℕ
  pub number : ℕ
  pub chain : ℕ
  pub count : ℕ
  pub searches : ℕ
  pub pairs : List (ℕ × ℕ)

-- a map without words: the network with its figures
pub record PlainMap : Type 0 where
  pub net : Network
  pub chain : ℕ
  pub pairs : Pairs

unfoldable pub line_for : ℕ → ℕ → ℕ → PlainMap → AnswerLine
unfolding count_pairs pair_list
line_for l k s M =
    let vs = vertices M.net in
    record { letter = l; refusal = k; number = length vs; chain = M.chain; count = count_pairs vs M.pairs; searches = s; pairs = pair_list vs M.pairs }

-- the map after an update, with its line; k is its refusal, 0 if it is accepted
unfoldable pub follow_one : ℕ → PlainMap → Update → PlainMap × AnswerLine
unfolding applied chart steps line_for letter_of
follow_one zero M o =
    let H = applied M.net o in
    let x = steps (chart H) o M.chain M.pairs in
    let N : PlainMap = record { net = H; chain = x.final.candidate; pairs = x.final.pairs } in
    (N, line_for (letter_of (Accepted x.change)) 0 (length x.final.references) N)
follow_one (suc k) M o = (M, line_for 82 (suc k) 0 M)

unfoldable pub follow_all : PlainMap → List Update → List AnswerLine
unfolding follow_one first_of update_faults
follow_all M [] = []
follow_all M (o ∷ os) = let r = follow_one (first_of (update_faults M.net o)) M o in r.1 ∷ follow_all r.0 os

unfoldable pub no_depot : PlainMap
unfolding empty_network
no_depot = record { net = empty_network; chain = 0; pairs = λ u v. false }

abbrev pub seven_lines : List Update
seven_lines =
    opens (notice_of false 0 [])
    ∷ opens (notice_of false 1 (0 ∷ []))
    ∷ opens (notice_of false 2 (1 ∷ []))
    ∷ opens (notice_of false 3 (2 ∷ []))
    ∷ opens (notice_of false 4 (3 ∷ []))
    ∷ opens (notice_of false 5 (0 ∷ 2 ∷ 4 ∷ []))
    ∷ opens (notice_of false 5 (0 ∷ 2 ∷ 4 ∷ []))
    ∷ []

-- THE TABLE
pub record NetworkCases : Type 0 where
  pub empty : ReckoningCase
  pub single : ReckoningCase
  pub seven : ReckoningCase
  pub stream : List AnswerLine

pub cases : ◌≡◌ {A = NetworkCases}
    (record { empty = reckoning (path 0); single = reckoning (path 1); seven = reckoning (path 7); stream = follow_all no_depot seven_lines })
    (record {
      empty = record { references = []; marks = []; bounds = []; chain = 0; pairs = [] };
      single = record { references = 0 ∷ []; marks = 256 ∷ []; bounds = 0 ∷ []; chain = 0; pairs = [] };
      seven = record {
        references = 1 ∷ 2 ∷ 3 ∷ 5 ∷ 0 ∷ 6 ∷ [];
        marks = 256 ∷ 256 ∷ 256 ∷ 256 ∷ 3 ∷ 256 ∷ 256 ∷ [];
        bounds = 6 ∷ 5 ∷ 4 ∷ 3 ∷ 4 ∷ 5 ∷ 6 ∷ [];
        chain = 6;
        pairs = (0, 6) ∷ [];
      };
      stream =
          record { letter = 75; refusal = 0; number = 1; chain = 0; count = 0; searches = 1; pairs = [] }
          ∷ record { letter = 71; refusal = 0; number = 2; chain = 1; count = 1; searches = 1; pairs = (0, 1) ∷ [] }
          ∷ record { letter = 71; refusal = 0; number = 3; chain = 2; count = 1; searches = 1; pairs = (0, 2) ∷ [] }
          ∷ record { letter = 71; refusal = 0; number = 4; chain = 3; count = 1; searches = 1; pairs = (0, 3) ∷ [] }
          ∷ record { letter = 71; refusal = 0; number = 5; chain = 4; count = 1; searches = 1; pairs = (0, 4) ∷ [] }
          ∷ record { letter = 83; refusal = 0; number = 6; chain = 3; count = 2; searches = 6; pairs = (0, 3) ∷ (1, 4) ∷ [] }
          ∷ record { letter = 82; refusal = 5; number = 6; chain = 3; count = 2; searches = 0; pairs = (0, 3) ∷ (1, 4) ∷ [] }
          ∷ [];
    })
unfolding reckoning path follow_all no_depot
cases = refl
