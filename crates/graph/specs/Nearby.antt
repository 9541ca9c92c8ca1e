-- DEPOTS NEAR ONE (rules 13.1 and 13.2): those at most k links from it, and the nearest of a list. Computed, and in the published words;
-- `within_is` and `nearest_is` (proofs/Nearby) join the two.
-- Assumes nothing.
use Rattle.std.specs.Prelude.{◌≡◌, ◌↔◌, cond, ◌&&◌, ◌||◌, ℕ, suc, ◌≤◌, ◌<◌, T, eqb, ltb, leb, length, get_or}
use mathlib.Core.List.{List, [], ◌∷◌, Memᴰ}
use Rattle.lists.specs.Lists.{filterb}
use Rattle.graph.specs.Network.{Network, IsDist}
use Rattle.graph.specs.Distance.{vertices, dist}

-- ---- within k links

-- the depots at most k links from s, in their order; `dist` of a closed code is 65,535, but it is no depot
unfoldable pub within_list : Network → ℕ → ℕ → List ℕ
unfolding filterb dist
within_list G s k = filterb (λ v. leb (dist G s v) k) (vertices G)

-- each number is above the one before it
abbrev pub IsRising : List ℕ → Type 0
IsRising l = (i : ℕ) → suc i < length l → get_or l i 0 < get_or l (suc i) 0

-- These codes are the depots at most k links from s, rising: each of them, and no other.
pub record AreWithin (G : Network) (s k : ℕ) (codes : List ℕ) : Type 0 where
  pub listed : (v : ℕ) → Memᴰ v codes ↔ (T (G.is_open v) × ((d : ℕ) × IsDist G s v d × (d ≤ k)))
  pub rising : IsRising codes
  pub alone : k ≡ 0 → codes ≡ s ∷ []

-- ---- the nearest of a list

-- of two depots the nearer by h, the lower code on a tie
unfoldable pub nearer_of : (ℕ → ℕ) → ℕ → ℕ → ℕ
nearer_of h c v = cond (ltb (h v) (h c) || (eqb (h v) (h c) && ltb v c)) v c

-- of c and a list of depots
unfoldable pub nearest_from : (ℕ → ℕ) → ℕ → List ℕ → ℕ
unfolding nearer_of
nearest_from h c [] = c
nearest_from h c (v ∷ vs) = nearest_from h (nearer_of h c v) vs

-- of a list of depots; 0 for none, which no call asks
unfoldable pub nearest_of : (ℕ → ℕ) → List ℕ → ℕ
unfolding nearest_from
nearest_of h [] = 0
nearest_of h (v ∷ vs) = nearest_from h v vs

-- the open depot of a list that is nearest to s
unfoldable pub nearest_listed : Network → ℕ → List ℕ → ℕ
unfolding filterb dist nearest_of
nearest_listed G s listed = nearest_of (dist G s) (filterb G.is_open listed)

-- v, at distance d from s, is the nearest open depot of the list: none is nearer, and none of a lower code as near.
pub record IsNearest (G : Network) (s : ℕ) (listed : List ℕ) (v d : ℕ) : Type 0 where
  pub is_listed : Memᴰ v listed
  pub is_open : T (G.is_open v)
  pub is_dist : IsDist G s v d
  pub nearest : (w e : ℕ) → Memᴰ w listed → T (G.is_open w) → IsDist G s w e → d ≤ e
  pub lowest : (w : ℕ) → Memᴰ w listed → T (G.is_open w) → IsDist G s w d → v ≤ w
