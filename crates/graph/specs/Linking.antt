-- A LINK ADDED LATER between two open depots, its ends, over the network itself: no word, no table.
-- Chain and pairs move as in an opening (rules 4.3 and 4.4), by the ways through both ends. Proved
-- in proofs/LinkTheorems: `linked_net`, `linking_correct`, `linking_covered`, `linking_sound`,
-- `linking_never`, `linking-says`; `link_distance`; and `link_refusals` (proofs/Refusals).
-- Assumes nothing.
use Rattle.std.specs.Prelude.{Bool, cond, if◌then◌else◌, not, ◌&&◌, ◌||◌, List, [], ◌∷◌, ◌++◌, ℕ, ◌+◌, max, min, eqb, length}
use Rattle.outcome.specs.Numbers.{absent_code, itself_linked, linked_already}
use Rattle.outcome.specs.declared.Change.TheVariants.{Kept, Shrank}
use Rattle.graph.specs.Network.{Network}
use Rattle.graph.specs.Distance.{unreached}
use Rattle.graph.specs.Chart.{Chart, ecc, Pairs}
use Rattle.graph.specs.Rounds.{waiting, searched, State, offer, raise, join_pairs, round, rounds, start}
use Rattle.graph.specs.Opening.{Opened, via, staying_pairs, any_pair, shrunk_candidate}

-- the network with the link of a and b, both ways round
unfoldable pub add_link : Network → ℕ → ℕ → Network
add_link G a b = record {
  depots = G.depots;
  is_open = G.is_open;
  is_yard = G.is_yard;
  linked = λ u v. (eqb u a && eqb v b) || (eqb v a && eqb u b) || G.linked u v;
}

-- the conditions 4, 13 and 14 as tests, each with its number: an end is absent, a closed code with itself too; itself; linked
unfoldable pub link_faults : Network → ℕ → ℕ → List (Bool × ℕ)
link_faults G a b = (not (G.is_open a && G.is_open b), absent_code) ∷ (eqb a b, itself_linked) ∷ (G.linked a b, linked_already) ∷ []

-- ---- what an accepted link does

-- the lesser of the ways from u to v through the two ends
unfoldable pub via_either : Chart → ℕ → ℕ → ℕ → ℕ → ℕ
unfolding via
via_either C a b u v = min (via C a u v) (via C b u v)

-- a call that searched from the two ends alone, with the chain c and the pairs Q
unfoldable pub searched_twice : Chart → ℕ → ℕ → ℕ → Pairs → State
unfolding ecc
searched_twice C lo hi c Q = record {
  candidate = c;
  pairs = Q;
  status = λ v. cond (eqb v lo) (searched (ecc C lo)) (cond (eqb v hi) (searched (ecc C hi)) (waiting unreached 0));
  references = lo ∷ hi ∷ [];
}

-- a round (rules 5.2 and 5.3) in which no depot is skipped: bounds are held against 0 in place of the candidate
unfoldable pub unskipped_round : Chart → ℕ → State → State
unfolding ecc raise join_pairs offer
unskipped_round C r S =
    let e = ecc C r in
    record {
      candidate = raise C r e S.candidate;
      pairs = join_pairs C r e S.candidate S.pairs;
      status = λ v. cond (eqb v r) (searched e) (offer 0 r (e + C.distance r v) (S.status v));
      references = S.references ++ (r ∷ []);
    }

-- the state after the searches from both ends, from the candidate c: depots are skipped only after both
unfoldable pub first_two : Chart → ℕ → ℕ → ℕ → State
unfolding round unskipped_round start
first_two C lo hi c = round C hi (unskipped_round C lo (start c))

-- Linking lo and hi, which are searched in this order: C is the chart with the link in place, D and
-- P the chain and the pairs that were stored. By one test (rule 15.3): it never grew, and no
-- eccentricity keeps it.
unfoldable pub linking : Chart → ℕ → ℕ → ℕ → Pairs → Opened
unfolding any_pair via_either staying_pairs shrunk_candidate searched_twice first_two rounds
linking C lo hi D P =
    let left = staying_pairs (via_either C lo hi) D P in
    let c = shrunk_candidate C.depots (via_either C lo hi) D P in
    if any_pair C.depots left || eqb D 0
    then record { change = Kept; final = searched_twice C lo hi D left }
    else record { change = Shrank; final = rounds C (length C.depots) (first_two C lo hi c) }

-- Linking the codes a and b, told in either order: the lower one is searched first.
unfoldable pub linking_codes : Chart → ℕ → ℕ → ℕ → Pairs → Opened
unfolding linking
linking_codes C a b D P = linking C (min a b) (max a b) D P
