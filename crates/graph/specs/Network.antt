-- THE PUBLISHED DEFINITIONS (rules 2.1 to 2.3): a network of depots, walks, distance, eccentricity,
-- diameter (the trade's longest chain) and farthest pairs; and transit yards, where chains run
-- through and none begins or ends. Without yards distance, eccentricity and diameter are those of
-- F. W. Takes, "Algorithms for Analyzing and Mining Real-World Graphs", farthest pairs those of Y.
-- Fujiwara, M. Onizuka, M. Kitsuregawa, "Real-Time Diameter Monitoring for Time-Evolving Graphs",
-- each once.
-- Assumes nothing.
use Rattle.std.specs.Prelude.{◌≡◌, ◌⊎◌, ◌↔◌, Bool, true, false, not, ◌&&◌, List, ℕ, zero, suc, ◌≤◌, ◌<◌, T}
use Rattle.lists.specs.Lists.{memb, distinct}

-- An undirected, unweighted network: its open depots, listed in the order in which ties are settled (the earlier one wins); which depots are open,
-- which of these are yards, and which two are linked (adjacent).
pub record Network : Type 0 where
  pub depots : List ℕ
  pub is_open : ℕ → Bool
  pub is_yard : ℕ → Bool
  pub linked : ℕ → ℕ → Bool

-- the same network with the yards that Y tells
abbrev pub with_yards : (ℕ → Bool) → Network → Network
with_yards Y G = record { depots = G.depots; is_open = G.is_open; is_yard = Y; linked = G.linked }

-- A sound network is a simple graph: the open depots are those listed, each once; yards are open; links join two different open depots, both ways
-- round. Of the order nothing is asked: no figure depends on it.
pub record IsSound (G : Network) : Type 0 where
  pub listed : (u : ℕ) → G.is_open u ≡ memb u G.depots
  pub once : distinct G.depots ≡ true
  pub yards : (u : ℕ) → T (G.is_yard u) → T (G.is_open u)
  pub ends : (u v : ℕ) → T (G.linked u v) → T (G.is_open v)
  pub loopless : (u v : ℕ) → T (G.linked u v) → u ≡ v → ⊥
  pub symmetric : (u v : ℕ) → T (G.linked u v) → T (G.linked v u)

-- a walk of k links from u to v
pub data Walk (G : Network) : ℕ → ℕ → ℕ → Type 0 where
  stay : {u : ℕ} → Walk G zero u u
  step : {k u v w : ℕ} → T (G.linked u v) → Walk G k v w → Walk G (suc k) u w

-- every two open depots are joined by a walk (the trade's word for a network that is not so: apart)
abbrev pub IsConnected : Network → Type 0
IsConnected G = (u v : ℕ) → T (G.is_open u) → T (G.is_open v) → (k : ℕ) × Walk G k u v

-- The distance from u to v is d: some walk of d links joins them, and none is shorter.
pub record IsDist (G : Network) (u v d : ℕ) : Type 0 where
  pub walk : Walk G d u v
  pub least : (k : ℕ) → Walk G k u v → d ≤ k

-- m is the greatest number with the property P, 0 if there is none
pub record IsGreatest (P : ℕ → Type 0) (m : ℕ) : Type 0 where
  pub upper : (k : ℕ) → P k → k ≤ m
  pub attained : (m ≡ 0) ⊎ P m

-- the destinations, between which chains are counted: the open depots that are no yards. A chain may run through yards
unfoldable pub delivers : Network → ℕ → Bool
delivers G v = G.is_open v && not (G.is_yard v)

-- no depot is a yard: every open one delivers (`no_yard_delivers`, proofs/Yards)
abbrev pub HasNoYard : Network → Type 0
HasNoYard G = (v : ℕ) → G.is_yard v ≡ false

-- Q tells the destinations: of a network they are `delivers G`.
-- The eccentricity of u is e: the greatest distance from u to a destination.
-- (On a network in parts it is the greatest finite one; every call refuses such a network.)
abbrev pub IsEcc : Network → (ℕ → Bool) → ℕ → ℕ → Type 0
IsEcc G Q u e = IsGreatest (λ k. (v : ℕ) × T (Q v) × IsDist G u v k) e

-- The diameter, the longest chain, is D: the greatest eccentricity of a destination.
abbrev pub IsDiameter : Network → (ℕ → Bool) → ℕ → Type 0
IsDiameter G Q D = IsGreatest (λ k. (u : ℕ) × T (Q u) × IsEcc G Q u k) D

-- u < v are a farthest (diametral) pair: their distance is the diameter
pub record IsFarthest (G : Network) (Q : ℕ → Bool) (u v : ℕ) : Type 0 where
  pub before : u < v
  pub first : T (Q u)
  pub second : T (Q v)
  pub diameter : ℕ
  pub is_diameter : IsDiameter G Q diameter
  pub is_dist : IsDist G u v diameter

-- The figures are true (rule 2.5): D is the diameter, and P tells the farthest pairs.
pub record AreTrue (G : Network) (Q : ℕ → Bool) (D : ℕ) (P : ℕ → ℕ → Bool) : Type 0 where
  pub chain : IsDiameter G Q D
  pub pairs : (u v : ℕ) → T (P u v) ↔ IsFarthest G Q u v
