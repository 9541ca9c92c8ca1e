-- THE REFERENCE ROUNDS and the whole reckoning (rules 5.1 to 5.5), over a chart. The method is
-- Algorithm 1 of Y. Fujiwara, M. Onizuka, M. Kitsuregawa, "Real-Time Diameter Monitoring for
-- Time-Evolving Graphs".
-- Assumes nothing.
use Rattle.std.specs.Prelude.{Bool, true, false, cond, not, ◌&&◌, ◌||◌, List, [], ◌∷◌, ◌++◌, ℕ, zero, suc, ◌+◌, max, min, eqb, ltb, length}
use Rattle.std.proofs.Math.Option.{Option, none, some}
use Rattle.lists.specs.Lists.{filterb}
use Rattle.graph.specs.Distance.{unreached}
use Rattle.graph.specs.Chart.{Chart, ecc, Pairs, own_pairs}

-- Where a depot stands in the rounds. A waiting depot is one that the rules call remaining.
pub data Status : Type 0 where
  waiting : ℕ → ℕ → Status  -- its bound, and the earliest reference that gave it
  skipped : ℕ → ℕ → Status  -- the same, when it was skipped
  searched : ℕ → Status  -- its eccentricity

abbrev pub is_waiting : Status → Bool
is_waiting (waiting b g) = true
is_waiting (skipped b g) = false
is_waiting (searched e) = false

-- the skip table's number (rule 6.1): the reference of a skipped depot, else one of two marks (256 and 257 in a map)
abbrev pub mark_of : ℕ → ℕ → Status → ℕ
mark_of searched_mark other_mark (waiting b g) = other_mark
mark_of searched_mark other_mark (skipped b g) = g
mark_of searched_mark other_mark (searched e) = searched_mark

-- the bound table's number (rule 6.2)
abbrev pub bound_of : Status → ℕ
bound_of (waiting b g) = unreached
bound_of (skipped b g) = b
bound_of (searched e) = e

pub record State : Type 0 where
  pub candidate : ℕ
  pub pairs : Pairs
  pub status : ℕ → Status
  pub references : List ℕ  -- so far, in order; the number of searches is its length

-- rule 5.3, of one depot: it is offered the bound x by the reference r, and skipped if its bound is then below the candidate c
unfoldable pub offer : ℕ → ℕ → ℕ → Status → Status
offer c r x (waiting b g) =
    let b' = min x b in
    let g' = cond (ltb x b) r g in
    cond (ltb b' c) (skipped b' g') (waiting b' g')
offer c r x (skipped b g) = skipped b g
offer c r x (searched e) = searched e

-- the candidate after a search from r with eccentricity e (rule 5.2): only a destination raises it
unfoldable pub raise : Chart → ℕ → ℕ → ℕ → ℕ
raise C r e c = cond (C.is_destination r) (max e c) c

-- the pairs after it: r's own alone if e is above the candidate c, r's own added if e is c and not 0
unfoldable pub join_pairs : Chart → ℕ → ℕ → ℕ → Pairs → Pairs
unfolding own_pairs
join_pairs C r e c P =
    cond (C.is_destination r && ltb c e) (own_pairs C r e)
    (cond (eqb e c && not (eqb e 0)) (λ u v. P u v || own_pairs C r e u v) P)

-- one round: a search from r, candidate and pairs, r leaves, bounds of the others, skipping with the new candidate
unfoldable pub round : Chart → ℕ → State → State
unfolding ecc raise join_pairs offer
round C r S =
    let e = ecc C r in
    let c = raise C r e S.candidate in
    record {
      candidate = c;
      pairs = join_pairs C r e S.candidate S.pairs;
      status = λ v. cond (eqb v r) (searched e) (offer c r (e + C.distance r v) (S.status v));
      references = S.references ++ (r ∷ []);
    }

-- the better of two depots to search from next (rule 5.4): the higher degree, the first (lower code) on a tie
unfoldable pub better : Chart → ℕ → Option ℕ → ℕ
better C v none = v
better C v (some w) = cond (ltb (C.degree v) (C.degree w)) w v

unfoldable pub pick : Chart → List ℕ → Option ℕ
unfolding better
pick C [] = none
pick C (v ∷ vs) = some (better C v (pick C vs))

unfoldable pub remaining : Chart → State → List ℕ
unfolding filterb
remaining C S = filterb (λ v. is_waiting (S.status v)) C.depots

-- the state as it is where no depot is picked, and what follows where one is
unfoldable pub or_stop : Option ℕ → State → (ℕ → State) → State
or_stop none S f = S
or_stop (some r) S f = f r

-- rounds until none remains, at most k of them: each takes a depot away, so that the number of depots is enough (`rounds_right`)
unfoldable pub rounds : Chart → ℕ → State → State
unfolding pick remaining round or_stop
rounds C zero S = S
rounds C (suc k) S = or_stop (pick C (remaining C S)) S (λ r. rounds C k (round C r S))

-- the start: no pair, every depot waiting without a reference yet (any bound is smaller than 65,535)
unfoldable pub start : ℕ → State
start c = record { candidate = c; pairs = λ u v. false; status = λ v. waiting unreached 0; references = [] }

-- the whole reckoning (rule 5.5)
unfoldable pub reckon : Chart → State
unfolding rounds start
reckon C = rounds C (length C.depots) (start 0)
