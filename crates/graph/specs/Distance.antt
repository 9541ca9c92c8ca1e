-- DISTANCES COMPUTED: breadth-first search, layer by layer. `dist_is` and `connected_iff` (proofs) say that these are the published words.
-- Assumes nothing.
use Rattle.std.specs.Prelude.{Bool, true, cond, ◌&&◌, List, [], ◌∷◌, ℕ, zero, suc, eqb, ltb, length}
use Rattle.lists.specs.Lists.{anyb, allb}
use Rattle.graph.specs.Network.{Network}

-- the open depots, in their order
abbrev pub vertices : Network → List ℕ
vertices G = G.depots

-- the hop table's mark of a closed code, and of what no walk reaches
abbrev pub unreached : ℕ
unreached = 65535

-- one place of the next hop table: h holds the distances up to k; v is at k + 1 if it has none yet and a depot at k is linked to it
unfoldable pub next_hop : List ℕ → (ℕ → ℕ → Bool) → ℕ → (ℕ → ℕ) → ℕ → ℕ
unfolding anyb
next_hop vs adjacent k h v = cond (ltb (h v) unreached) (h v) (cond (anyb (λ w. eqb (h w) k && adjacent w v) vs) (suc k) unreached)

-- the hop table of a search from u after k layers: the distance of v if it is at most k, and `unreached` otherwise
unfoldable pub hops : List ℕ → (ℕ → ℕ → Bool) → ℕ → ℕ → ℕ → ℕ
unfolding next_hop
hops vs adjacent u zero = λ v. cond (eqb u v) 0 unreached
hops vs adjacent u (suc k) = next_hop vs adjacent k (hops vs adjacent u k)

-- the distance from u to v, `unreached` if no walk joins them; as many layers as depots are enough (`dist_below`)
unfoldable pub dist : Network → ℕ → ℕ → ℕ
unfolding hops
dist G u = let vs = vertices G in hops vs G.linked u (length vs)

-- every open depot is reached from the first one
unfoldable pub reached_all : Network → List ℕ → Bool
unfolding dist allb
reached_all G [] = true
reached_all G (r ∷ vs) = allb (λ v. ltb (dist G r v) unreached) vs

unfoldable pub connected : Network → Bool
unfolding reached_all
connected G = reached_all G (vertices G)
