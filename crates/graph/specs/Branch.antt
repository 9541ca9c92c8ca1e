-- THE BRANCH PROFILE: on a network without any loop two searches give the chain, the first from the lowest depot, the second from the lowest of those
-- farthest from it. Over a chart; what it asks of the network, that the links are one fewer than the depots, is over the network.
-- Assumes nothing.
use Rattle.std.specs.Prelude.{◌≡◌, Bool, true, cond, not, ◌&&◌, List, [], ◌∷◌, ℕ, suc, ◌≤◌, max, min, T, eqb, ltb, length}
use Rattle.std.proofs.Math.Option.{Option, none, some}
use Rattle.lists.specs.Lists.{anyb}
use Rattle.graph.specs.Network.{Network, IsDist, delivers, IsEcc, IsDiameter, IsFarthest}
use Rattle.graph.specs.Distance.{vertices}
use Rattle.graph.specs.Chart.{Chart, chart, ecc, count_pairs}
use Rattle.graph.specs.Rounds.{reckon}

-- the number of links, each counted once, at its lower code. Twice this is the sum of the degrees (`links_twice`).
unfoldable pub link_count : Network → ℕ
unfolding count_pairs
link_count G = count_pairs (vertices G) (λ u v. ltb u v && G.linked u v)

-- the links are not one fewer than the depots, as on an empty map
unfoldable pub looped : Network → Bool
unfolding link_count
looped G = not (eqb (suc (link_count G)) (length (vertices G)))

-- some open depot is a yard
unfoldable pub has_yard : Network → Bool
unfolding anyb
has_yard G = anyb G.is_yard (vertices G)

-- the numbers of the two refusals
abbrev pub looped_map : ℕ
looped_map = 18

abbrev pub yards_open : ℕ
yards_open = 19

-- the conditions under which a branch profile is refused, each with its number, in the order in which they are looked at
unfoldable pub branch_faults : Network → List (Bool × ℕ)
unfolding looped has_yard
branch_faults G = (looped G, looped_map) ∷ (has_yard G, yards_open) ∷ []

-- the same in words (`branch_refusals`)
abbrev pub IsLooped : Network → Type 0
IsLooped G = suc (link_count G) ≡ length (vertices G) → ⊥

abbrev pub HasYard : Network → Type 0
HasYard G = (v : ℕ) × T (G.is_open v) × T (G.is_yard v)

abbrev pub branch_conditions : Network → List (Type 0 × ℕ)
branch_conditions G = (IsLooped G, looped_map) ∷ (HasYard G, yards_open) ∷ []

-- the first of a list that passes the test, 0 if none does: the one of the lowest code where codes rise
unfoldable pub lowest_of : (ℕ → Bool) → List ℕ → ℕ
lowest_of p [] = 0
lowest_of p (v ∷ vs) = cond (p v) v (lowest_of p vs)

-- the lowest depot farthest from u
unfoldable pub lowest_farthest : Chart → ℕ → ℕ
unfolding lowest_of ecc
lowest_farthest C u = lowest_of (λ v. eqb (C.distance u v) (ecc C u)) C.depots

-- the two starts; the chain; and the pair of the second start with the lowest of those farthest from it, none where there is one depot
pub record Branch : Type 0 where
  pub first_start : ℕ
  pub second_start : ℕ
  pub chain : ℕ
  pub pair : Option (ℕ × ℕ)

unfoldable pub branch : Chart → Branch
unfolding lowest_of lowest_farthest ecc
branch C =
    let s = lowest_of (λ v. true) C.depots in
    let a = lowest_farthest C s in
    record { first_start = s; second_start = a; chain = ecc C a; pair = cond (ltb 1 (length C.depots)) (some (a, lowest_farthest C a)) none }

-- ---- what is proved of it

-- v is the depot farthest from u of the lowest code, `key` telling codes
pub record IsLowestFarthest (key : ℕ → ℕ) (G : Network) (u v : ℕ) : Type 0 where
  pub is_open : T (G.is_open v)
  pub ecc : ℕ
  pub is_ecc : IsEcc G (delivers G) u ecc
  pub is_dist : IsDist G u v ecc
  pub is_lowest : (w : ℕ) → T (G.is_open w) → IsDist G u w ecc → key v ≤ key w

-- WHAT IS PROVED OF IT (`branch_correct`), for a network that a map can hold, whose links are one fewer than its depots, without yards, and whose
-- depots are listed in rising order of their keys: the chain is the diameter and the first engine's. The pair is in the order shown.
pub record IsBranch (key : ℕ → ℕ) (G : Network) (b : Branch) : Type 0 where
  pub first_open : T (G.is_open b.first_start)
  pub first_lowest : (w : ℕ) → T (G.is_open w) → key b.first_start ≤ key w
  pub second_farthest : IsLowestFarthest key G b.first_start b.second_start
  pub chain : IsDiameter G (delivers G) b.chain
  pub same : b.chain ≡ (reckon (chart G)).candidate
  pub pair : (u v : ℕ) → b.pair ≡ some (u, v) → (u ≡ b.second_start) × IsLowestFarthest key G u v × IsFarthest G (delivers G) (min u v) (max u v)
  pub alone : b.pair ≡ none → length (vertices G) ≡ 1
