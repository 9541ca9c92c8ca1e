-- SEARCH FROM A GROUP: every depot's distance to the nearest of a set of depots. First what the words mean, then the same computed. A single depot is a
-- group of one: `hops_single` and `dist_single` (proofs) say that the search of Distance.antt is that case.
-- Assumes nothing.
use Rattle.std.specs.Prelude.{◌≡◌, Bool, not, cond, List, [], ◌∷◌, ℕ, zero, suc, ◌≤◌, T, length}
use mathlib.Core.List.{Memᴰ}
use Rattle.lists.specs.Lists.{filterb, allb, max_of, memb}
use Rattle.outcome.specs.Numbers.{absent_code, nobody_open}
use Rattle.graph.specs.Network.{Network, Walk, IsDist, IsGreatest, delivers}
use Rattle.graph.specs.Distance.{vertices, unreached, next_hop}
use Rattle.graph.specs.Opening.{is_empty}

-- a walk of k links to v from a member of the group S
pub record Reach (G : Network) (S : ℕ → Bool) (k v : ℕ) : Type 0 where
  pub start : ℕ
  pub is_member : T (S start)
  pub walk : Walk G k start v

-- The distance from the group S to v is d: some walk of d links joins a member to v, and none is shorter. (So it is the distance from the nearest
-- member: `nearest`.)
pub record IsDistFrom (G : Network) (S : ℕ → Bool) (v d : ℕ) : Type 0 where
  pub reach : Reach G S d v
  pub least : (k : ℕ) → Reach G S k v → d ≤ k

-- the eccentricity of the group: the greatest of these distances to a destination; Q tells these
abbrev pub IsEccFrom : Network → (ℕ → Bool) → (ℕ → Bool) → ℕ → Type 0
IsEccFrom G Q S e = IsGreatest (λ k. (v : ℕ) × T (Q v) × IsDistFrom G S v k) e

-- ---- computed

-- the group of the codes of a list, which may repeat
unfoldable pub group : List ℕ → ℕ → Bool
unfolding memb
group codes v = memb v codes

-- the hop table of a search from S after k layers: the members are at distance 0
unfoldable pub hops_from : List ℕ → (ℕ → ℕ → Bool) → (ℕ → Bool) → ℕ → ℕ → ℕ
unfolding next_hop
hops_from vs adjacent S zero = λ v. cond (S v) 0 unreached
hops_from vs adjacent S (suc k) = next_hop vs adjacent k (hops_from vs adjacent S k)

-- the distance from S to v, `unreached` if no walk joins them; as many layers as depots are enough
unfoldable pub dist_from : Network → (ℕ → Bool) → ℕ → ℕ
unfolding hops_from
dist_from G S = let vs = vertices G in hops_from vs G.linked S (length vs)

-- the greatest distance to a destination
unfoldable pub ecc_from : Network → (ℕ → Bool) → (ℕ → Bool) → ℕ
unfolding max_of filterb dist_from
ecc_from G Q S = max_of (dist_from G S) (filterb Q (vertices G))

-- the distance of the last layer: it covers all open depots, yards too
unfoldable pub last_from : Network → (ℕ → Bool) → ℕ
unfolding max_of dist_from
last_from G S = max_of (dist_from G S) (vertices G)

-- ---- refusals

-- the conditions under which a search from a group is refused, each with its number, in the order in which they are looked at
unfoldable pub group_faults : Network → List ℕ → List (Bool × ℕ)
unfolding allb is_empty
group_faults G codes = (not (allb G.is_open codes), absent_code) ∷ (is_empty codes, nobody_open) ∷ []

-- the same in words (`group_refusals`)
abbrev pub group_conditions : Network → List ℕ → List (Type 0 × ℕ)
group_conditions G codes = ((v : ℕ) × Memᴰ v codes × (T (G.is_open v) → ⊥), absent_code) ∷ (codes ≡ [], nobody_open) ∷ []

-- ---- what is proved

-- the members are open
abbrev pub AreMembers : Network → (ℕ → Bool) → Type 0
AreMembers G S = (v : ℕ) → T (S v) → T (G.is_open v)

-- A search from the group S is right (`group_correct`): h tells every open depot's distance to the nearest member and marks a closed code; e is the
-- group's eccentricity, over the destinations; l is the distance of the last layer, over all open depots.
pub record IsGroupSearch (G : Network) (S : ℕ → Bool) (h : ℕ → ℕ) (e l : ℕ) : Type 0 where
  pub distance : (v : ℕ) → T (G.is_open v) → IsDistFrom G S v (h v)
  pub nearest : (v : ℕ) → T (G.is_open v) → (u : ℕ) × T (S u) × IsDist G u v (h v)
  pub no_nearer : (u v d : ℕ) → T (S u) → IsDist G u v d → h v ≤ d
  pub closed : (v : ℕ) → (T (G.is_open v) → ⊥) → h v ≡ unreached
  pub eccentricity : IsEccFrom G (delivers G) S e
  pub last : IsEccFrom G G.is_open S l
