-- MANY SEARCHES IN ONE SWEEP: the link table is walked once per layer, for all starts at once. Over a network: what a word's bit says of the start u and
-- the depot v is a test of u and v here, so that the same code twice is one start.
-- Assumes nothing.
use Rattle.std.specs.Prelude.{◌≡◌, ◌⊎◌, Bool, true, false, cond, not, ◌&&◌, ◌||◌, List, [], ◌∷◌, ℕ, zero, suc, ◌≤◌, ◌<◌, T, eqb, ltb, length}
use mathlib.Core.List.{Memᴰ}
use Rattle.lists.specs.Lists.{anyb, allb, max_of, memb}
use Rattle.outcome.specs.Numbers.{absent_code}
use Rattle.graph.specs.Network.{Network, IsDist, IsEcc}
use Rattle.graph.specs.Distance.{vertices, unreached, dist}
use Rattle.graph.specs.Opening.{is_empty}

pub record Wave : Type 0 where
  pub seen : ℕ → ℕ → Bool  -- the search from u has reached v
  pub front : ℕ → ℕ → Bool  -- it did so in the last walk
  pub hop : ℕ → ℕ → ℕ  -- the hop table of the search from u
  pub walks : ℕ  -- table walks so far

unfoldable pub at_starts : Wave
at_starts = record { seen = eqb; front = eqb; hop = λ u v. cond (eqb u v) 0 unreached; walks = 0 }

-- the search from u reaches v in this walk: a depot that it reached in the last one is linked to v, and it has not reached v yet
unfoldable pub reaches_now : List ℕ → (ℕ → ℕ → Bool) → Wave → ℕ → ℕ → Bool
unfolding anyb
reaches_now vs adjacent W u v = anyb (λ w. W.front u w && adjacent w v) vs && not (W.seen u v)

-- one walk of the link table, for all starts
unfoldable pub walk_once : List ℕ → (ℕ → ℕ → Bool) → Wave → Wave
unfolding reaches_now
walk_once vs adjacent W = record {
  seen = λ u v. W.seen u v || reaches_now vs adjacent W u v;
  front = reaches_now vs adjacent W;
  hop = λ u v. cond (reaches_now vs adjacent W u v) (suc W.walks) (W.hop u v);
  walks = suc W.walks;
}

-- some search reached some depot in the last walk
unfoldable pub moved_on : List ℕ → List ℕ → Wave → Bool
unfolding anyb
moved_on vs starts W = anyb (λ u. anyb (W.front u) vs) starts

unfoldable pub while_moving : Bool → Wave → (Wave → Wave) → Wave
while_moving true W f = f W
while_moving false W f = W

-- walks until one reaches nothing, at most n of them
unfoldable pub walk_all : List ℕ → (ℕ → ℕ → Bool) → List ℕ → ℕ → Wave → Wave
unfolding walk_once moved_on while_moving
walk_all vs adjacent starts zero W = W
walk_all vs adjacent starts (suc n) W = let X = walk_once vs adjacent W in while_moving (moved_on vs starts X) X (walk_all vs adjacent starts n)

-- as many walks as there are depots are enough (`sweep_correct`)
unfoldable pub sweep : Network → List ℕ → Wave
unfolding walk_all at_starts
sweep G starts = let vs = vertices G in walk_all vs G.linked starts (length vs) at_starts

-- the depth of the search from u: the greatest distance over all open depots, yards among them
unfoldable pub depth : Network → ℕ → ℕ
unfolding max_of dist
depth G u = max_of (dist G u) (vertices G)

-- ---- refusals

-- at most so many starts, one bit of a word for each
abbrev pub most_starts : ℕ
most_starts = 64

abbrev pub crowd_of_starts : ℕ
crowd_of_starts = 20

-- the conditions under which a sweep is refused, each with its number, in the order in which they are looked at
unfoldable pub sweep_faults : Network → List ℕ → List (Bool × ℕ)
unfolding allb is_empty
sweep_faults G starts = (is_empty starts || ltb most_starts (length starts), crowd_of_starts) ∷ (not (allb G.is_open starts), absent_code) ∷ []

-- the same in words (`sweep_refusals`)
abbrev pub sweep_conditions : Network → List ℕ → List (Type 0 × ℕ)
sweep_conditions G starts =
    ((starts ≡ []) ⊎ (most_starts < length starts), crowd_of_starts) ∷ ((v : ℕ) × Memᴰ v starts × (T (G.is_open v) → ⊥), absent_code) ∷ []

-- ---- what is proved

-- A sweep from the starts (`sweep_correct`): each table is that of the start's own search, and has every open depot's distance; the walks are one
-- more than the greatest depth of a start, which is its greatest distance to an open depot, yards among them; they are no more than the depots.
pub record IsSweep (G : Network) (starts : List ℕ) (W : Wave) : Type 0 where
  pub hop : (u : ℕ) → T (memb u starts) → W.hop u ≡ dist G u
  pub distance : (u v : ℕ) → T (memb u starts) → T (G.is_open v) → IsDist G u v (W.hop u v)
  pub walks : W.walks ≡ suc (max_of (depth G) starts)
  pub deepest : (u : ℕ) → T (memb u starts) → IsEcc G G.is_open u (depth G u)
  pub few : W.walks ≤ length (vertices G)
