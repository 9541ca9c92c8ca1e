-- Breadth-first search meets the least walk length: `dist` is the distance. Assumes nothing.
use mathlib.Core.Path.{◌≡◌, refl, sym, ◌∙◌, subst}
use mathlib.Core.Logic.{◌⊎◌, inl, inr}
use mathlib.Core.Bool.{Bool, true, false, ◌&&◌}
use mathlib.Core.List.{List, Memᴰ}
use Prim.Native.Nat.{ℕ, zero, suc, ◌≤◌, ◌<◌, zero-le}
use native.Mathlib.Nat.{le_antisymm, le_refl, le_of_eq, lt_irrefl, lt_of_le_of_lt}
use native.Mathlib.Decide.{dec_le, dec_lt}
use native.Mathlib.Omega.{arith}
use lib.Dec.{T, eqb, leb}
use lib.ListN.{length}
use borrow.Author.Tests.{lt-ltb, le-ltb, leb-true, le-leb, lt-leb, eqb-true, eq-eqb}
use Rattle.std.proofs.lemmas.Bool.{cases_Bool, and_parts, and_from}
use Rattle.lists.specs.Lists.{anyb, countb}
use Rattle.lists.proofs.Tests.{t→true, true→t, clash}
use Rattle.lists.proofs.Members.{any_intro, any_elim, memb_in, in_memb}
use Rattle.lists.proofs.Counts.{count_le_length, count_lt}
use Rattle.graph.specs.Network.{Network, IsSound, Walk, IsDist}
use Rattle.graph.specs.Distance.{vertices, unreached, next_hop, hops, dist}
use Rattle.graph.proofs.Walks.{cast, snoc, walk_zero, unsnoc, dist_unique, dist_self, dist_before, walk_open}

-- ---- the three cases of a place of the next hop table

module _ (vs : List ℕ) (adj : ℕ → ℕ → Bool) (k : ℕ) (h : ℕ → ℕ) (v : ℕ) where
  unfoldable pub linked_to : Bool
  linked_to = anyb (λ w. eqb (h w) k && adj w v) vs

  pub next_old : h v < unreached → next_hop vs adj k h v ≡ h v
  unfolding next_hop
  next_old l = rw (lt-ltb (h v) unreached l)

  pub next_new : unreached ≤ h v → linked_to ≡ true → next_hop vs adj k h v ≡ suc k
  unfolding next_hop linked_to
  next_new l e = rw (le-ltb (h v) unreached l, e)

  pub next_none : unreached ≤ h v → linked_to ≡ false → next_hop vs adj k h v ≡ unreached
  unfolding next_hop linked_to
  next_none l e = rw (le-ltb (h v) unreached l, e)

-- ---- the layers of a search from u

module _ (G : Network) (u : ℕ) (vs : List ℕ) where
  abbrev H : ℕ → ℕ → ℕ
  H k v = hops vs G.linked u k v

  -- after k layers: what is reached has its distance, at most k; what a walk of at most k links reaches is reached
  pub record IsLayered (k : ℕ) : Type 0 where
    pub reached : (v : ℕ) → H k v < unreached → (H k v ≤ k) × IsDist G u v (H k v)
    pub complete : (v j : ℕ) → j ≤ k → Walk G j u v → H k v ≤ j

  hops-zero_self : H 0 u ≡ 0
  unfolding hops
  hops-zero_self = rw (eq-eqb u u refl)

  hops-suc : (k v : ℕ) → H (suc k) v ≡ next_hop vs G.linked k (hops vs G.linked u k) v
  unfolding hops
  hops-suc k v = refl

  layer_zero : IsLayered 0
  unfolding hops
  layer_zero = record { reached = λ v l. at v (eqb u v) refl l; complete = λ v j l p. done v j l p }
    where
      at : (v : ℕ) (b : Bool) → eqb u v ≡ b → H 0 v < unreached → (H 0 v ≤ 0) × IsDist G u v (H 0 v)
      at v true e l = rw (← (eqb-true u v e), eq-eqb u u refl) (le_refl 0, dist_self)
      at v false e l = absurd (lt_irrefl unreached (rw e at l))

      done : (v j : ℕ) → j ≤ 0 → Walk G j u v → H 0 v ≤ j
      done v zero l p = subst (λ (x : ℕ). H 0 x ≤ 0) (walk_zero p) (rw hops-zero_self (le_refl 0))
      done v (suc j) l p = absurd (lt_irrefl 0 (omega arith))

module _ (G : Network) (sound : IsSound G) (vs : List ℕ) (all : (v : ℕ) → T (G.is_open v) → Memᴰ v vs) (u : ℕ) where
  layer_suc : (k : ℕ) → suc k < unreached → IsLayered G u vs k → IsLayered G u vs (suc k)
  unfolding linked_to
  layer_suc k b I = record { reached = λ v. reach v (dec_lt (h v) unreached) (cases_Bool (near v)); complete = λ v. comp v (dec_lt (h v) unreached) (cases_Bool (near v)) }
    where
      h : ℕ → ℕ
      h = hops vs G.linked u k

      h' : ℕ → ℕ
      h' = hops vs G.linked u (suc k)

      near : ℕ → Bool
      near v = linked_to vs G.linked k h v

      -- what is not reached by k layers lies beyond
      beyond : (v j : ℕ) → unreached ≤ h v → Walk G j u v → suc k ≤ j
      beyond v j l q = go (dec_le (suc k) j)
        where
          go : Dec (suc k ≤ j) → suc k ≤ j
          go (yes p) = p
          go (no p) = let c : h v ≤ j = I.complete v j (omega arith) q in omega arith

      -- a linked depot at distance k: so v is at k + 1
      new_dist : (v w : ℕ) → unreached ≤ h v → h w ≡ k → T (G.linked w v) → IsDist G u v (suc k)
      new_dist v w l e a =
          let d : IsDist G u w k = subst (λ (n : ℕ). IsDist G u w n) e (I.reached w (omega arith)).1 in
          record { walk = snoc d.walk a; least = λ j q. beyond v j l q }

      -- the last link of a walk of k + 1 links to v starts at distance k
      last : (v w : ℕ) → unreached ≤ h v → Walk G k u w → T (G.linked w v) → h w ≡ k
      last v w l q a =
          let c : h w ≤ k = I.complete w k (le_refl k) q in
          let d = (I.reached w (omega arith)).1 in
          let m : suc k ≤ suc (h w) = beyond v (suc (h w)) l (snoc d.walk a) in
          omega arith

      is_near : (v w : ℕ) → h w ≡ k → T (G.linked w v) → near v ≡ true
      is_near v w e a =
          any_intro (λ w. eqb (h w) k && G.linked w v) vs (all w (sound.ends v w (sound.symmetric w v a)))
          (and_from _ _ (eq-eqb (h w) k e) (t→true (G.linked w v) a))

      reach : (v : ℕ) → Dec (h v < unreached) → (near v ≡ true) ⊎ (near v ≡ false) → h' v < unreached → (h' v ≤ suc k) × IsDist G u v (h' v)
      reach v (yes p) o l =
          let r = I.reached v p in
          subst (λ (n : ℕ). (n ≤ suc k) × IsDist G u v n) (sym (hops-suc G u vs k v ∙ next_old vs G.linked k h v p)) (omega arith, r.1)
      reach v (no p) (inl e) l =
          let x = any_elim (λ w. eqb (h w) k && G.linked w v) vs e in
          let y = and_parts (eqb (h x.0) k) (G.linked x.0 v) x.2 in
          subst (λ (n : ℕ). (n ≤ suc k) × IsDist G u v n) (sym (hops-suc G u vs k v ∙ next_new vs G.linked k h v (omega arith) e))
          (le_refl (suc k), new_dist v x.0 (omega arith) (eqb-true (h x.0) k y.0) (true→t y.1))
      reach v (no p) (inr e) l =
          let z : h' v ≡ unreached = hops-suc G u vs k v ∙ next_none vs G.linked k h v (omega arith) e in
          absurd (lt_irrefl unreached (rw z at l))

      comp : (v : ℕ) → Dec (h v < unreached) → (near v ≡ true) ⊎ (near v ≡ false) → (j : ℕ) → j ≤ suc k → Walk G j u v → h' v ≤ j
      comp v (yes p) o j l q =
          let z : h' v ≡ h v = hops-suc G u vs k v ∙ next_old vs G.linked k h v p in
          let m : h v ≤ j = (I.reached v p).1.least j q in
          omega arith
      comp v (no p) (inl e) j l q =
          let z : h' v ≡ suc k = hops-suc G u vs k v ∙ next_new vs G.linked k h v (omega arith) e in
          let m : suc k ≤ j = beyond v j (omega arith) q in
          omega arith
      comp v (no p) (inr e) j l q =
          let m : suc k ≤ j = beyond v j (omega arith) q in
          let x = unsnoc (cast (le_antisymm l m) q) in
          absurd (clash (is_near v x.0 (last v x.0 (omega arith) x.1 x.2) x.2) e)

  pub layers : (k : ℕ) → k < unreached → IsLayered G u vs k
  layers zero b = layer_zero G u vs
  layers (suc k) b = layer_suc k b (layers k (omega arith))

  -- ---- every depot that a walk reaches is reached after as many layers as there are depots

  module _ (o : T (G.is_open u)) (n : ℕ) (enough : length vs ≤ n) (small : n < unreached) where
    h_of : ℕ → ℕ
    h_of = hops vs G.linked u n

    at_dist : (v d : ℕ) → d ≤ n → IsDist G u v d → h_of v ≡ d
    unfolding h_of
    at_dist v d l p =
        let I = layers n small in
        let c : hops vs G.linked u n v ≤ d = I.complete v d l p.walk in
        dist_unique (I.reached v (omega arith)).1 p

    -- at least d + 1 depots lie within distance d of u, if one lies at distance d
    within : (d v : ℕ) → d ≤ n → IsDist G u v d → d < countb (λ w. leb (h_of w) d) vs
    within zero v l p =
        lt_of_le_of_lt zero-le
        (count_lt (λ w. false) (λ w. leb (h_of w) 0) vs (λ x m e. absurd (clash e refl)) (all u o) refl (le-leb (h_of u) 0 (le_of_eq (at_dist u 0 zero-le dist_self))))
    within (suc d) v l p =
        let x = dist_before p in
        let ih : d < countb (λ w. leb (h_of w) d) vs = within d x.0 (omega arith) x.1 in
        let e : h_of v ≡ suc d = at_dist v (suc d) l p in
        let m : countb (λ w. leb (h_of w) d) vs < countb (λ w. leb (h_of w) (suc d)) vs =
        count_lt (λ w. leb (h_of w) d) (λ w. leb (h_of w) (suc d)) vs
        (λ y m t. let t' : h_of y ≤ d = leb-true (h_of y) d t in le-leb (h_of y) (suc d) (omega arith))
        (all v (walk_open sound o p.walk)) (lt-leb (h_of v) d (omega arith)) (le-leb (h_of v) (suc d) (omega arith))
        in omega arith

    pub dist_lt : (d v : ℕ) → d ≤ n → IsDist G u v d → d < length vs
    dist_lt d v l p =
        let a : d < countb (λ w. leb (h_of w) d) vs = within d v l p in
        let b : countb (λ w. leb (h_of w) d) vs ≤ length vs = count_le_length (λ w. leb (h_of w) d) vs in
        omega arith

    -- by walks from u, a link at a time at the end
    reached_all_lem : (k v : ℕ) → Walk G k u v → hops vs G.linked u n v < unreached
    reached_all_lem zero v q = let c : hops vs G.linked u n v ≤ 0 = (layers n small).complete v 0 zero-le q in omega arith
    reached_all_lem (suc k) v q =
        let x = unsnoc q in
        let r = (layers n small).reached x.0 (reached_all_lem k x.0 x.1) in
        let d : hops vs G.linked u n x.0 < length vs = dist_lt (hops vs G.linked u n x.0) x.0 r.0 r.1 in
        let c : hops vs G.linked u n v ≤ suc (hops vs G.linked u n x.0) = (layers n small).complete v (suc (hops vs G.linked u n x.0)) (omega arith) (snoc r.1.walk x.2) in
        omega arith

    -- THE SEARCH IS RIGHT
    pub hops-dist : (k v : ℕ) → Walk G k u v → IsDist G u v (hops vs G.linked u n v)
    hops-dist k v q = ((layers n small).reached v (reached_all_lem k v q)).1

-- ---- the same of a network's own list of depots

pub vertices_in : (G : Network) → IsSound G → (v : ℕ) → T (G.is_open v) → Memᴰ v (vertices G)
vertices_in G sound v o = memb_in v (vertices G) (sym (sound.listed v) ∙ t→true (G.is_open v) o)

pub vertices_out : (G : Network) → IsSound G → {v : ℕ} → Memᴰ v (vertices G) → T (G.is_open v)
vertices_out G sound {v} m = true→t (sound.listed v ∙ in_memb v (vertices G) m)

module _ (G : Network) (sound : IsSound G) (few : length (vertices G) < unreached) (u : ℕ) (o : T (G.is_open u)) where
  -- `dist` is the least number of links of a walk
  pub dist_is : (k v : ℕ) → Walk G k u v → IsDist G u v (dist G u v)
  unfolding dist
  dist_is k v q = hops-dist G sound (vertices G) (vertices_in G sound) u o (length (vertices G)) (le_refl (length (vertices G))) few k v q

  -- what it gives below `unreached` is a distance
  pub dist-reached : (v : ℕ) → dist G u v < unreached → IsDist G u v (dist G u v)
  unfolding dist
  dist-reached v l = ((layers G sound (vertices G) (vertices_in G sound) u (length (vertices G)) few).reached v l).1

  -- a distance is below the number of depots
  pub dist_below : (d v : ℕ) → IsDist G u v d → d < length (vertices G)
  unfolding dist
  dist_below d v p =
      let e : dist G u v ≡ d = dist_unique (dist_is d v p.walk) p in
      let r = (layers G sound (vertices G) (vertices_in G sound) u (length (vertices G)) few).reached v
      (reached_all_lem G sound (vertices G) (vertices_in G sound) u o (length (vertices G)) (le_refl (length (vertices G))) few d v p.walk) in
      dist_lt G sound (vertices G) (vertices_in G sound) u o (length (vertices G)) (le_refl (length (vertices G))) few d v (subst (λ (n : ℕ). n ≤ length (vertices G)) e r.0) p
