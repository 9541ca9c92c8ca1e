-- The stale pairs dropped by the hops of searches: what stays and the greatest way are the network's, where the ways by the hops are. Assumes nothing.
use mathlib.Core.Path.{◌≡◌, refl, sym, ap, ap₂, ◌∙◌}
use mathlib.Core.Logic.{◌⊎◌, inl, inr}
use mathlib.Core.Bool.{Bool, true, false, cond, not, ◌&&◌}
use mathlib.Core.List.{List, [], ◌∷◌}
use Prim.Native.Nat.{ℕ, ◌+◌, ◌*◌, ◌≤◌, ◌<◌, min}
use native.Mathlib.Nat.{le_antisymm}
use native.Mathlib.Omega.{arith}
use lib.Dec.{T, ltb}
use lib.ListN.{get_or}
use Rattle.std.proofs.lemmas.Bool.{cases_Bool, and_parts}
use Rattle.lists.specs.Lists.{range, anyb, max_of}
use Rattle.lists.proofs.Tests.{t→true, true→t, clash}
use Rattle.lists.proofs.Members.{any_intro, any_elim, range_in, range_out}
use Rattle.lists.proofs.Counts.{max_ge, max_ext, max_le_of}
use Rattle.lists.proofs.Fills.{fill_at}
use Rattle.graph.specs.Network.{Network, delivers}
use Rattle.graph.specs.Distance.{dist}
use Rattle.graph.specs.Chart.{chart, Pairs, count_pairs}
use Rattle.graph.specs.Opening.{via, staying_pairs, any_pair, shrunk_candidate}
use Rattle.graph.specs.Correct.{IsNet}
use Rattle.graph.proofs.Charts.{depot_in, depot_out}
use Rattle.rows.specs.Rows.{table_bit}
use Rattle.map.specs.Room.{Tables}
use Rattle.layers.specs.Layers.{search_leaves}
use Rattle.pairs.specs.Pairs.{Tally, tally, tally_of}
use Rattle.stale_pairs.specs.Stale.{Dropped, dropped, way_by, drop_of}
use Rattle.pairs.proofs.PairCounts.{pairs_none, pairs_zero}
use Rattle.pairs.proofs.Tallies.{tally_ext}
use Rattle.stale_pairs.proofs.Theorems.{drop_way}
use Rattle.graph.proofs.Delivers.{delivers_open}

-- ---- the way by the hops of a search

hop : (W : ℕ) (G : Network) (a : ℕ) (T₀ : Tables) (v : ℕ) → v < 64 * W → get_or (search_leaves W G a T₀).hops v 0 ≡ dist G a v
unfolding search_leaves
hop W G a T₀ v l = fill_at (dist G a) T₀.hops (64 * W) v 0 l

pub way_by_search : (W : ℕ) (G : Network) (a : ℕ) (T₀ : Tables) (u v : ℕ) → u < 64 * W → v < 64 * W → way_by (search_leaves W G a T₀).hops u v ≡ via (chart G) a u v
unfolding via chart
way_by_search W G a T₀ u v l m = ap₂ (λ (x y : ℕ). x + y) (hop W G a T₀ u l) (hop W G a T₀ v m)

-- ---- the stored pairs t, on the network G. The code goes by the ways `way`, which are the network's ways `far`

module _ (W : ℕ) (G : Network) (net : IsNet G) (below : (v : ℕ) → T (G.is_open v) → v < 64 * W) (way far : ℕ → ℕ → ℕ)
    (alike : (u v : ℕ) → u < 64 * W → v < 64 * W → way u v ≡ far u v) (D : ℕ) (t : List ℕ)
    (ends : (u v : ℕ) → T (table_bit W t u v) → T (delivers G u) × T (delivers G v)) where
  abbrev Left : Pairs
  Left = staying_pairs far D (table_bit W t)

  stay : (u v : ℕ) → u < 64 * W → v < 64 * W → staying_pairs way D (table_bit W t) u v ≡ Left u v
  unfolding staying_pairs
  stay u v l m = ap (λ (x : ℕ). table_bit W t u v && not (ltb x D)) (alike u v l m)

  left_stored : (u v : ℕ) → Left u v ≡ true → T (table_bit W t u v)
  unfolding staying_pairs
  left_stored u v h = true→t (and_parts (table_bit W t u v) (not (ltb (far u v) D)) h).0

  -- ---- the greatest way

  closed_row : (u v : ℕ) → G.is_open u ≡ false → table_bit W t u v ≡ false
  closed_row u v q = go (cases_Bool (table_bit W t u v))
    where
      go : (table_bit W t u v ≡ true) ⊎ (table_bit W t u v ≡ false) → table_bit W t u v ≡ false
      go (inl h) = absurd (clash (t→true (G.is_open u) (delivers_open G u (ends u v (true→t h)).0)) q)
      go (inr h) = h

  closed_column : (u v : ℕ) → G.is_open v ≡ false → table_bit W t u v ≡ false
  closed_column u v q = go (cases_Bool (table_bit W t u v))
    where
      go : (table_bit W t u v ≡ true) ⊎ (table_bit W t u v ≡ false) → table_bit W t u v ≡ false
      go (inl h) = absurd (clash (t→true (G.is_open v) (delivers_open G v (ends u v (true→t h)).1)) q)
      go (inr h) = h

  abbrev reach : ℕ → ℕ → ℕ
  reach u v = cond (table_bit W t u v) (min D (far u v)) 0

  row_zero : (u : ℕ) → G.is_open u ≡ false → (xs : List ℕ) → max_of (reach u) xs ≡ 0
  unfolding max_of
  row_zero u q [] = refl
  row_zero u q (x ∷ xs) = let z : reach u x ≡ 0 = ap (λ (b : Bool). cond b (min D (far u x)) 0) (closed_row u x q) in omega (arith, row_zero u q xs)

  -- what is 0 at closed codes has the same greatest value among all codes and among the depots
  among : (f : ℕ → ℕ) → ((v : ℕ) → G.is_open v ≡ false → f v ≡ 0) → max_of f (range (64 * W)) ≡ max_of f (chart G).depots
  among f h =
      le_antisymm
      (max_le_of f (range (64 * W)) (max_of f (chart G).depots) (λ v m. go v (cases_Bool (G.is_open v))))
      (max_le_of f (chart G).depots (max_of f (range (64 * W))) (λ v m. max_ge f (range (64 * W)) (range_in (64 * W) (below v (depot_out G net m)))))
    where
      go : (v : ℕ) → (G.is_open v ≡ true) ⊎ (G.is_open v ≡ false) → f v ≤ max_of f (chart G).depots
      go v (inl o) = max_ge f (chart G).depots (depot_in G net v (true→t o))
      go v (inr c) = omega (arith, h v c)

  -- THE GREATEST WAY IS THE CANDIDATE
  pub way_is : shrunk_candidate (range (64 * W)) way D (table_bit W t) ≡ shrunk_candidate (chart G).depots far D (table_bit W t)
  unfolding shrunk_candidate
  way_is =
      max_ext (λ u. max_of (λ v. cond (table_bit W t u v) (min D (way u v)) 0) (range (64 * W))) (λ u. max_of (reach u) (chart G).depots) (range (64 * W))
      (λ u l. max_ext (λ v. cond (table_bit W t u v) (min D (way u v)) 0) (reach u) (range (64 * W))
      (λ v m. ap (λ (x : ℕ). cond (table_bit W t u v) (min D x) 0) (alike u v (range_out (64 * W) l) (range_out (64 * W) m)))
      ∙ among (reach u) (λ v q. ap (λ (b : Bool). cond b (min D (far u v)) 0) (closed_column u v q)))
      ∙ among (λ u. max_of (reach u) (chart G).depots) (λ u q. row_zero u q (chart G).depots)

  -- ---- what is left

  module _ {t' : List ℕ} {n w : ℕ} (q : dropped (tally t' n) w ≡ drop_of W way D t) where
    pub left_is : tally t' n ≡ tally_of W Left t
    unfolding drop_of
    left_is = ap (λ (x : Dropped). x.left) q ∙ tally_ext W (staying_pairs way D (table_bit W t)) Left t stay

    pub candidate_is : w ≡ shrunk_candidate (chart G).depots far D (table_bit W t)
    candidate_is = drop_way W way D t q ∙ way_is

    count_is : n ≡ count_pairs (range (64 * W)) Left
    unfolding tally_of
    count_is = ap (λ (x : Tally). x.count) left_is

    -- a count of 0 says that no pair is left, any other that one is
    pub none_left : n ≡ 0 → any_pair (chart G).depots Left ≡ false
    unfolding any_pair
    none_left z = go (cases_Bool (anyb (λ u. anyb (λ v. Left u v) (chart G).depots) (chart G).depots))
      where
        go : (anyb (λ u. anyb (λ v. Left u v) (chart G).depots) (chart G).depots ≡ true) ⊎ (anyb (λ u. anyb (λ v. Left u v) (chart G).depots) (chart G).depots ≡ false)
            → anyb (λ u. anyb (λ v. Left u v) (chart G).depots) (chart G).depots ≡ false
        go (inr h) = h
        go (inl h) =
            let x = any_elim (λ u. anyb (λ v. Left u v) (chart G).depots) (chart G).depots h in
            let y = any_elim (λ v. Left x.0 v) (chart G).depots x.2 in
            absurd (clash y.2 (pairs_zero (64 * W) Left (sym count_is ∙ z) x.0 y.0 (below x.0 (depot_out G net x.1)) (below y.0 (depot_out G net y.1))))

    pub some_left : (n ≡ 0 → ⊥) → any_pair (chart G).depots Left ≡ true
    unfolding any_pair
    some_left ne = go (cases_Bool (anyb (λ u. anyb (λ v. Left u v) (chart G).depots) (chart G).depots))
      where
        go : (anyb (λ u. anyb (λ v. Left u v) (chart G).depots) (chart G).depots ≡ true) ⊎ (anyb (λ u. anyb (λ v. Left u v) (chart G).depots) (chart G).depots ≡ false)
            → anyb (λ u. anyb (λ v. Left u v) (chart G).depots) (chart G).depots ≡ true
        go (inl h) = h
        go (inr h) = absurd (ne (count_is ∙ pairs_none (64 * W) Left (λ u v l m. at u v (cases_Bool (Left u v)))))
          where
            at : (u v : ℕ) → (Left u v ≡ true) ⊎ (Left u v ≡ false) → Left u v ≡ false
            at u v (inr k) = k
            at u v (inl k) =
                let o = ends u v (left_stored u v k) in
                absurd (clash (any_intro (λ u. anyb (λ v. Left u v) (chart G).depots) (chart G).depots (depot_in G net u (delivers_open G u o.0)) (any_intro (λ v. Left u v) (chart G).depots (depot_in G net v (delivers_open G v o.1)) k)) h)
