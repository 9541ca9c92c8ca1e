-- THE OPENING OF A DEPOT (rules 4.1 to 4.6), one that delivers or a yard, over the network itself:
-- no word, no table. The method is Algorithm 2 of Y. Fujiwara, M. Onizuka, M. Kitsuregawa,
-- "Real-Time Diameter Monitoring for Time-Evolving Graphs"; its Lemma 5 leaves out the premise that
-- `grows_by` asks about (rule 4.5).
-- Assumes nothing.
use Rattle.std.specs.Prelude.{Bool, true, false, cond, if◌then◌else◌, not, ◌&&◌, ◌||◌, List, [], ◌∷◌, ℕ, ◌+◌, min, eqb, ltb, length}
use Rattle.lists.specs.Lists.{anyb, allb, max_of, memb, insert_by}
use Rattle.outcome.specs.Numbers.{taken_code, lonely_depot, unsorted_neighbours, unknown_neighbour}
use Rattle.outcome.specs.declared.Change.{Change}
use Rattle.outcome.specs.declared.Change.TheVariants.{Grew, Kept, Shrank}
use Rattle.graph.specs.Network.{Network}
use Rattle.graph.specs.Distance.{vertices, unreached}
use Rattle.graph.specs.Chart.{Chart, ecc, Pairs, own_pairs}
use Rattle.graph.specs.Rounds.{waiting, searched, State, round, rounds, start}

-- ---- notices

-- being a yard is part of the notice
pub record Notice : Type 0 where
  pub yard : Bool
  pub code : ℕ
  pub neighbours : List ℕ

abbrev pub notice_of : Bool → ℕ → List ℕ → Notice
notice_of yard code neighbours = record { yard = yard; code = code; neighbours = neighbours }

unfoldable pub empty_network : Network
empty_network = record { depots = []; is_open = λ c. false; is_yard = λ c. false; linked = λ u v. false }

-- the network with the depot a, a yard if y says so, linked to those that `beside` tells and listed by its key
unfoldable pub add_depot : (ℕ → ℕ) → Network → Bool → ℕ → (ℕ → Bool) → Network
unfolding insert_by
add_depot key G y a beside = record {
  depots = insert_by key a G.depots;
  is_open = λ c. eqb c a || G.is_open c;
  is_yard = λ c. (y && eqb c a) || G.is_yard c;
  linked = λ u v. (eqb u a && beside v) || (eqb v a && beside u) || G.linked u v;
}

-- where depots are told by their codes, ties go to the lowest code: the code itself is the key
abbrev pub by_code : ℕ → ℕ
by_code c = c

-- the network with the depot of a notice
unfoldable pub with_depot : Network → Notice → Network
unfolding add_depot memb
with_depot G o = add_depot by_code G o.yard o.code (λ v. memb v o.neighbours)

unfoldable pub strictly_rising : List ℕ → Bool
strictly_rising [] = true
strictly_rising (x ∷ []) = true
strictly_rising (x ∷ y ∷ ys) = ltb x y && strictly_rising (y ∷ ys)

unfoldable pub is_empty : List ℕ → Bool
is_empty [] = true
is_empty (x ∷ xs) = false

-- the conditions 5 to 8 of rule 8.1 as tests, each with its number: taken, lonely, unsorted, unknown; `known` tells the open codes, n counts them
unfoldable pub notice_faults : (ℕ → Bool) → ℕ → Notice → List (Bool × ℕ)
unfolding is_empty strictly_rising allb
notice_faults known n o =
    (known o.code, taken_code)
    ∷ (is_empty o.neighbours && ltb 0 n, lonely_depot)
    ∷ (not (strictly_rising o.neighbours), unsorted_neighbours)
    ∷ (not (allb known o.neighbours), unknown_neighbour)
    ∷ []

-- the same on a network whose depots are codes
unfoldable pub open_faults : Network → Notice → List (Bool × ℕ)
unfolding notice_faults
open_faults G o = notice_faults G.is_open (length (vertices G)) o

-- ---- what an accepted opening does

-- what an opening leaves: how the chain moved, and the rounds' state (chain, pairs, marks,
-- references)
pub record Opened : Type 0 where
  pub change : Change
  pub final : State

-- the length of the way from u to v through a
unfoldable pub via : Chart → ℕ → ℕ → ℕ → ℕ
via C a u v = C.distance a u + C.distance a v

-- the stored pairs that stay: those whose way is not below D (rule 4.3)
unfoldable pub staying_pairs : (ℕ → ℕ → ℕ) → ℕ → Pairs → Pairs
staying_pairs way D P u v = P u v && not (ltb (way u v) D)

unfoldable pub any_pair : List ℕ → Pairs → Bool
unfolding anyb
any_pair vs P = anyb (λ u. anyb (λ v. P u v) vs) vs

-- the candidate of a shrink (rule 4.4), over the pairs of the depots vs
unfoldable pub shrunk_candidate : List ℕ → (ℕ → ℕ → ℕ) → ℕ → Pairs → ℕ
unfolding max_of
shrunk_candidate vs way D P = max_of (λ u. max_of (λ v. cond (P u v) (min D (way u v)) 0) vs) vs

-- a call that searched from a alone, with the chain c and the pairs Q
unfoldable pub searched_once : Chart → ℕ → ℕ → Pairs → State
unfolding ecc
searched_once C a c Q = record {
  candidate = c;
  pairs = Q;
  status = λ v. cond (eqb v a) (searched (ecc C a)) (waiting unreached 0);
  references = a ∷ [];
}

-- whether the chain D grows by the opening of a (rule 4.2): e(a) > D. A yard makes no chain grow
unfoldable pub grows_by : Chart → ℕ → ℕ → Bool
unfolding ecc
grows_by C a D = C.is_destination a && ltb D (ecc C a)

-- whether it is kept whatever pairs stay (rule 4.3): e(a) = D. A yard's eccentricity keeps nothing,
-- and it has no own pairs: with a yard it is a chain that was 0
unfoldable pub kept_by : Chart → ℕ → ℕ → Bool
unfolding ecc
kept_by C a D = cond (C.is_destination a) (eqb (ecc C a) D) (eqb D 0)

-- Opening a: C is the chart with a in place, D and P the chain and the pairs that were stored. The
-- tests come in the order of rules 4.2 to 4.4, growth first (rule 4.5).
unfoldable pub opening : Chart → ℕ → ℕ → Pairs → Opened
unfolding grows_by kept_by own_pairs any_pair via staying_pairs shrunk_candidate searched_once
opening C a D P =
    let e = ecc C a in
    let left = staying_pairs (via C a) D P in
    let c = shrunk_candidate C.depots (via C a) D P in
    if grows_by C a D then record { change = Grew; final = searched_once C a e (own_pairs C a e) }
    else if kept_by C a D then
    record { change = Kept; final = searched_once C a D (λ u v. left u v || own_pairs C a D u v) }
    else if any_pair C.depots left then record { change = Kept; final = searched_once C a D left }
    else record { change = Shrank; final = rounds C (length C.depots) (round C a (start c)) }
