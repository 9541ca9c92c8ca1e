-- MANY SEARCHES IN ONE SWEEP ARE CORRECT: specs/Sweep.antt has what is said. After k walks every start's table is the one of its own search after k layers;
-- the walks end with the first that finds the layer after every start's last. Assumes nothing.
use mathlib.Core.Path.{◌≡◌, refl, sym, ap, ◌∙◌, subst, fun_ext}
use mathlib.Core.Logic.{◌⊎◌, inl, inr, ◌↔◌}
use mathlib.Core.Bool.{Bool, true, false, cond, not, ◌&&◌, ◌||◌}
use mathlib.Core.List.{List, [], ◌∷◌, Memᴰ}
use Prim.Native.Nat.{ℕ, zero, suc, ◌+◌, ◌-◌, ◌≤◌, ◌<◌, zero-le}
use native.Mathlib.Nat.{le_refl, le_trans, le_of_eq, lt_irrefl, lt_of_le_of_lt}
use native.Mathlib.Omega.{arith}
use lib.Dec.{T, eqb, ltb}
use lib.ListN.{length}
use borrow.Author.Tests.{ltb-true, ltb-false, lt-ltb, le-ltb, eqb-true, eq-eqb, ne_eqb}
use Rattle.lists.specs.Lists.{anyb, allb, max_of, memb, first_of}
use Rattle.lists.specs.Conditions.{FirstHolds}
use Rattle.std.proofs.lemmas.Bool.{or_cases, or_parts, cases_lt, cases_eq}
use Rattle.lists.proofs.Tests.{true→t, t→true, clash}
use Rattle.lists.proofs.Conditions.{Decides, decides_fails, Tells, tells_first}
use Rattle.lists.proofs.Members.{all_elim, any_intro, any_elim, any_ext, memb_in}
use Rattle.lists.proofs.Counts.{max_ge, max_at}
use Rattle.graph.specs.Network.{Network, IsDist, IsEcc}
use Rattle.graph.specs.Distance.{vertices, unreached, next_hop, hops, dist}
use Rattle.graph.specs.Correct.{IsNet}
use Rattle.graph.specs.Opening.{is_empty}
use Rattle.outcome.specs.Numbers.{absent_code}
use Rattle.graph.specs.Sweep.{Wave, at_starts, reaches_now, walk_once, moved_on, while_moving, walk_all, sweep, depth, most_starts, crowd_of_starts, sweep_faults, sweep_conditions, IsSweep}
use Rattle.graph.proofs.Walks.{dist_unique, dist_self, dist_before, walk_open}
use Rattle.graph.proofs.Connected.{hop_open}
use Rattle.graph.proofs.Refusals.{decides_none}
use Rattle.graph.proofs.Distances.{layers, vertices_in, vertices_out, dist_below}
use Rattle.graph.proofs.Layers.{hops-range, quiet}

-- ---- one walk is one layer of every search

-- after k walks
pub record IsWave (vs : List ℕ) (adj : ℕ → ℕ → Bool) (k : ℕ) (W : Wave) : Type 0 where
  pub walks : W.walks ≡ k
  pub hop : (u v : ℕ) → W.hop u v ≡ hops vs adj u k v
  pub seen : (u v : ℕ) → W.seen u v ≡ ltb (hops vs adj u k v) unreached
  pub front : (u v : ℕ) → W.front u v ≡ eqb (hops vs adj u k v) k

module _ (vs : List ℕ) (adj : ℕ → ℕ → Bool) where
  pub wave_start : IsWave vs adj 0 at_starts
  unfolding at_starts hops
  wave_start = record { walks = refl; hop = λ u v. refl; seen = λ u v. seen (eqb u v); front = λ u v. front (eqb u v) }
    where
      seen : (b : Bool) → b ≡ ltb (cond b 0 unreached) unreached
      seen true = sym (lt-ltb 0 unreached (omega arith))
      seen false = sym (le-ltb unreached unreached (le_refl unreached))

      front : (b : Bool) → b ≡ eqb (cond b 0 unreached) 0
      front true = sym (eq-eqb 0 0 refl)
      front false = sym (ne_eqb unreached 0 (λ e. lt_irrefl 0 (omega arith)))

  module _ (k : ℕ) (W : Wave) (I : IsWave vs adj k W) (small : suc k < unreached) where
    -- a linked depot stands in the last layer of u's search
    near : ℕ → ℕ → Bool
    near u v = anyb (λ w. eqb (hops vs adj u k w) k && adj w v) vs

    now_is : (u v : ℕ) → reaches_now vs adj W u v ≡ (near u v && not (ltb (hops vs adj u k v) unreached))
    unfolding reaches_now near
    now_is u v =
        ap (λ (b : Bool). b && not (W.seen u v)) (any_ext (λ w. W.front u w && adj w v) (λ w. eqb (hops vs adj u k w) k && adj w v) vs (λ w m. ap (λ (b : Bool). b && adj w v) (I.front u w)))
        ∙ ap (λ (b : Bool). near u v && not b) (I.seen u v)

    next_is : (u v : ℕ) → hops vs adj u (suc k) v ≡ cond (ltb (hops vs adj u k v) unreached) (hops vs adj u k v) (cond (near u v) (suc k) unreached)
    unfolding hops next_hop near
    next_is u v = refl

    module _ (u v : ℕ) where
      abbrev h : ℕ
      h = hops vs adj u k v

      unseen : ltb h unreached ≡ false → h ≡ unreached
      unseen e = go (hops-range vs adj u k v)
        where
          go : (h ≤ k) ⊎ (h ≡ unreached) → h ≡ unreached
          go (inl l) = let m : unreached ≤ h = ltb-false h unreached e in absurd (lt_irrefl k (omega arith))
          go (inr q) = q

      old : ltb h unreached ≡ true → h ≤ k
      old e = go (hops-range vs adj u k v)
        where
          go : (h ≤ k) ⊎ (h ≡ unreached) → h ≤ k
          go (inl l) = l
          go (inr q) = let m : h < unreached = ltb-true h unreached e in absurd (lt_irrefl unreached (omega arith))

      hop_next : (a n : Bool) → ltb h unreached ≡ a → cond (n && not a) (suc k) h ≡ cond a h (cond n (suc k) unreached)
      hop_next true true e = refl
      hop_next true false e = refl
      hop_next false true e = refl
      hop_next false false e = unseen e

      seen_next : (a n : Bool) → ltb h unreached ≡ a → (a || (n && not a)) ≡ ltb (cond a h (cond n (suc k) unreached)) unreached
      seen_next true n e = sym e
      seen_next false true e = sym (lt-ltb (suc k) unreached small)
      seen_next false false e = sym (le-ltb unreached unreached (le_refl unreached))

      front_next : (a n : Bool) → ltb h unreached ≡ a → (n && not a) ≡ eqb (cond a h (cond n (suc k) unreached)) (suc k)
      front_next true true e = let l : h ≤ k = old e in sym (ne_eqb h (suc k) (λ q. lt_irrefl k (omega arith)))
      front_next true false e = let l : h ≤ k = old e in sym (ne_eqb h (suc k) (λ q. lt_irrefl k (omega arith)))
      front_next false true e = sym (eq-eqb (suc k) (suc k) refl)
      front_next false false e = sym (ne_eqb unreached (suc k) (λ q. lt_irrefl (suc k) (omega arith)))

    pub wave_next : IsWave vs adj (suc k) (walk_once vs adj W)
    unfolding walk_once
    wave_next = record {
      walks = ap suc I.walks;
      hop = λ u v.
          ap (λ (b : Bool). cond b (suc W.walks) (W.hop u v)) (now_is u v)
          ∙ ap (λ (n : ℕ). cond (now u v) (suc n) (W.hop u v)) I.walks
          ∙ ap (λ (n : ℕ). cond (now u v) (suc k) n) (I.hop u v)
          ∙ hop_next u v (ltb (hops vs adj u k v) unreached) (near u v) refl
          ∙ sym (next_is u v);
      seen = λ u v.
          ap (λ (b : Bool). b || reaches_now vs adj W u v) (I.seen u v)
          ∙ ap (λ (b : Bool). ltb (hops vs adj u k v) unreached || b) (now_is u v)
          ∙ seen_next u v (ltb (hops vs adj u k v) unreached) (near u v) refl
          ∙ ap (λ (n : ℕ). ltb n unreached) (sym (next_is u v));
      front = λ u v. now_is u v ∙ front_next u v (ltb (hops vs adj u k v) unreached) (near u v) refl ∙ ap (λ (n : ℕ). eqb n (suc k)) (sym (next_is u v));
    }
      where
        now : ℕ → ℕ → Bool
        now u v = near u v && not (ltb (hops vs adj u k v) unreached)

-- ---- the loop, a walk at a time: for the loop of the code

pub walk_on : (vs : List ℕ) (adj : ℕ → ℕ → Bool) (starts : List ℕ) (n : ℕ) (W : Wave) → moved_on vs starts (walk_once vs adj W) ≡ true → walk_all vs adj starts (suc n) W ≡ walk_all vs adj starts n (walk_once vs adj W)
unfolding walk_all
walk_on vs adj starts n W e = rw e

pub walk_last : (vs : List ℕ) (adj : ℕ → ℕ → Bool) (starts : List ℕ) (n : ℕ) (W : Wave) → moved_on vs starts (walk_once vs adj W) ≡ false → walk_all vs adj starts (suc n) W ≡ walk_once vs adj W
unfolding walk_all
walk_last vs adj starts n W e = rw e

-- ---- every layer up to the last has a depot

pub layer_at : {G : Network} {u : ℕ} (d j v : ℕ) → IsDist G u v d → j ≤ d → (w : ℕ) × IsDist G u w j
layer_at {G} {u} zero j v p l = (v, subst (λ (n : ℕ). IsDist G u v n) (omega arith) p)
layer_at {G} {u} (suc d) j v p l = go (cases_eq j (suc d)) (λ m. let x = dist_before p in layer_at d j x.0 x.1 m)
  where
    go : (j ≡ suc d) ⊎ (j ≡ suc d → ⊥) → (j ≤ d → (w : ℕ) × IsDist G u w j) → (w : ℕ) × IsDist G u w j
    go (inl e) f = (v, subst (λ (n : ℕ). IsDist G u v n) (sym e) p)
    go (inr n) f = f (omega arith)

module _ (G : Network) (net : IsNet G) where
  abbrev ds : List ℕ
  ds = vertices G

  few : length (vertices G) < unreached
  few = net.small

  -- the table after k layers holds k exactly at the depots at distance k
  at_layer : (u k v : ℕ) → k < unreached → IsDist G u v k → hops ds G.linked u k v ≡ k
  at_layer u k v l p =
      let I = layers G net.sound ds (vertices_in G net.sound) u k l in
      let c : hops ds G.linked u k v ≤ k = I.complete v k (le_refl k) p.walk in
      dist_unique (I.reached v (omega arith)).1 p

  of_layer : (u k v : ℕ) → k < unreached → hops ds G.linked u k v ≡ k → IsDist G u v k
  of_layer u k v l e = subst (λ (n : ℕ). IsDist G u v n) e ((layers G net.sound ds (vertices_in G net.sound) u k l).reached v (omega arith)).1

  depth_le : (u v : ℕ) → Memᴰ v (vertices G) → dist G u v ≤ depth G u
  unfolding depth
  depth_le u v m = max_ge (dist G u) (vertices G) m

  depth_at : (u : ℕ) → (depth G u ≡ 0) ⊎ ((v : ℕ) × Memᴰ v (vertices G) × (depth G u ≡ dist G u v))
  unfolding depth
  depth_at u = max_at (dist G u) (vertices G)

  -- the depth is the greatest distance to an open depot
  pub depth_is : (u : ℕ) → T (G.is_open u) → IsEcc G G.is_open u (depth G u)
  depth_is u ou = record {
    upper = λ k x. subst (λ (n : ℕ). n ≤ depth G u) (dist_unique (hop_open G net u ou x.0 x.1) x.2) (depth_le u x.0 (vertices_in G net.sound x.0 x.1));
    attained = at (depth_at u);
  }
    where
      at : (depth G u ≡ 0) ⊎ ((v : ℕ) × Memᴰ v (vertices G) × (depth G u ≡ dist G u v)) → (depth G u ≡ 0) ⊎ ((v : ℕ) × T (G.is_open v) × IsDist G u v (depth G u))
      at (inl z) = inl z
      at (inr x) = let ov = vertices_out G net.sound x.1 in inr (x.0, ov, subst (λ (n : ℕ). IsDist G u x.0 n) (sym x.2) (hop_open G net u ou x.0 ov))

  module _ (starts : List ℕ) (is_open : (u : ℕ) → Memᴰ u starts → T (G.is_open u)) (first : ℕ) (is_start : Memᴰ first starts) where
    -- the greatest depth among the starts
    top : ℕ
    top = max_of (depth G) starts

    deep_is : (u : ℕ) → Memᴰ u starts → IsEcc G G.is_open u (depth G u)
    deep_is u m = depth_is u (is_open u m)

    -- no depot is farther from a start
    top_le : (u v k : ℕ) → Memᴰ u starts → IsDist G u v k → k ≤ top
    unfolding top
    top_le u v k m p = le_trans ((deep_is u m).upper k (v, walk_open net.sound (is_open u m) p.walk, p)) (max_ge (depth G) starts m)

    -- and some depot is as far from one
    top_at : (u : ℕ) × (v : ℕ) × Memᴰ u starts × IsDist G u v top
    unfolding top
    top_at = go (max_at (depth G) starts)
      where
        inner : (u : ℕ) → Memᴰ u starts → max_of (depth G) starts ≡ depth G u → (depth G u ≡ 0) ⊎ ((v : ℕ) × T (G.is_open v) × IsDist G u v (depth G u)) → (u : ℕ) × (v : ℕ) × Memᴰ u starts × IsDist G u v (max_of (depth G) starts)
        inner u m e (inl z) = (u, u, m, subst (λ (n : ℕ). IsDist G u u n) (sym (e ∙ z)) dist_self)
        inner u m e (inr x) = (u, x.0, m, subst (λ (n : ℕ). IsDist G u x.0 n) (sym e) x.2)

        go : (max_of (depth G) starts ≡ 0) ⊎ ((u : ℕ) × Memᴰ u starts × (max_of (depth G) starts ≡ depth G u)) → (u : ℕ) × (v : ℕ) × Memᴰ u starts × IsDist G u v (max_of (depth G) starts)
        go (inl z) = (first, first, is_start, subst (λ (n : ℕ). IsDist G first first n) (sym z) dist_self)
        go (inr x) = inner x.0 x.1 x.2 (deep_is x.0 x.1).attained

    top_below : top < length ds
    top_below = let x = top_at in dist_below G net.sound net.small x.0 (is_open x.0 x.2) top x.1 x.3

    module _ (k : ℕ) (l : k < unreached) (W : Wave) (I : IsWave ds G.linked k W) where
      moved_on_lem : k ≤ top → moved_on ds starts W ≡ true
      unfolding moved_on
      moved_on_lem m =
          let x = top_at in
          let y = layer_at top k x.1 x.3 m in
          any_intro (λ u. anyb (W.front u) ds) starts x.2
          (any_intro (W.front x.0) ds (vertices_in G net.sound y.0 (walk_open net.sound (is_open x.0 x.2) y.1.walk))
          (I.front x.0 y.0 ∙ eq-eqb (hops ds G.linked x.0 k y.0) k (at_layer x.0 k y.0 l y.1)))

      moved_off : moved_on ds starts W ≡ true → k ≤ top
      unfolding moved_on
      moved_off h =
          let x = any_elim (λ u. anyb (W.front u) ds) starts h in
          let y = any_elim (W.front x.0) ds x.2 in
          top_le x.0 y.0 k x.1 (of_layer x.0 k y.0 l (eqb-true (hops ds G.linked x.0 k y.0) k (sym (I.front x.0 y.0) ∙ y.2)))

    -- the walks end one after the last layer
    walked : (n k : ℕ) (W : Wave) → IsWave ds G.linked k W → k ≤ top → top < k + n → k + n < unreached → IsWave ds G.linked (suc top) (walk_all ds G.linked starts n W)
    unfolding walk_all
    walked zero k W I a b c = absurd (lt_irrefl k (omega arith))
    walked (suc n) k W I a b c = go (moved_on ds starts (walk_once ds G.linked W)) refl (walked n (suc k) (walk_once ds G.linked W) J)
      where
        J : IsWave ds G.linked (suc k) (walk_once ds G.linked W)
        J = wave_next ds G.linked k W I (omega arith)

        ended : moved_on ds starts (walk_once ds G.linked W) ≡ false → (k < top) ⊎ (top ≤ k) → k ≡ top
        ended e (inl m) = absurd (clash (moved_on_lem (suc k) (omega arith) (walk_once ds G.linked W) J m) e)
        ended e (inr m) = omega arith

        go : (t : Bool) → moved_on ds starts (walk_once ds G.linked W) ≡ t
            → (suc k ≤ top → top < suc k + n → suc k + n < unreached → IsWave ds G.linked (suc top) (walk_all ds G.linked starts n (walk_once ds G.linked W)))
            → IsWave ds G.linked (suc top) (while_moving t (walk_once ds G.linked W) (walk_all ds G.linked starts n))
        go true e ih = ih (moved_off (suc k) (omega arith) (walk_once ds G.linked W) J e) (omega arith) (omega arith)
        go false e ih = subst (λ (n : ℕ). IsWave ds G.linked (suc n) (walk_once ds G.linked W)) (ended e (cases_lt k top)) J

    -- while the walks go on, they are fewer than the depots: the measure of the loop
    pub still_walking : (k : ℕ) → k < unreached → (W : Wave) → IsWave ds G.linked k W → moved_on ds starts W ≡ true → k < length ds
    still_walking k l W I h = lt_of_le_of_lt (moved_off k l W I h) top_below

    final : IsWave ds G.linked (suc top) (sweep G starts)
    unfolding sweep
    final =
        let b : top < length ds = top_below in
        let c : length ds < unreached = few in
        walked (length ds) 0 at_starts (wave_start ds G.linked) zero-le (omega arith) (omega arith)

    -- the table after one layer more than the last is the whole search's
    whole : (u v : ℕ) → Memᴰ u starts → hops ds G.linked u (suc top) v ≡ dist G u v
    unfolding dist
    whole u v m =
        let b : top < length ds = top_below in
        let c : length ds < unreached = few in
        let j = length ds - suc top in
        let e : j + suc top ≡ length ds = omega arith in
        let l : suc top < unreached = omega arith in
        sym (quiet ds G.linked u j (suc top) (omega arith) (λ w n q. let k : suc top ≤ top = top_le u w (suc top) m (of_layer u (suc top) w l q) in lt_irrefl top (omega arith)) v)
        ∙ ap (λ (n : ℕ). hops ds G.linked u n v) e

    pub sweep_right : IsSweep G starts (sweep G starts)
    unfolding top
    sweep_right = record {
      hop = λ u t. same u t;
      distance = λ u v t ov.
          subst (λ (n : ℕ). IsDist G u v n) (sym (ap (λ (h : ℕ → ℕ). h v) (same u t))) (hop_open G net u (is_open u (memb_in u starts (t→true (memb u starts) t))) v ov);
      walks = final.walks;
      deepest = λ u t. deep_is u (memb_in u starts (t→true (memb u starts) t));
      few = le_trans (le_of_eq final.walks) top_below;
    }
      where
        same : (u : ℕ) → T (memb u starts) → (sweep G starts).hop u ≡ dist G u
        same u t = fun_ext (λ v. final.hop u v ∙ whole u v (memb_in u starts (t→true (memb u starts) t)))

-- ---- refusals

decides_crowd : (starts : List ℕ) → Decides (is_empty starts || ltb most_starts (length starts)) ((starts ≡ []) ⊎ (most_starts < length starts))
decides_crowd starts = record {
  holds = λ e. to (or_cases (is_empty starts) (ltb most_starts (length starts)) e);
  fails = λ e x. from x e;
}
  where
    to : (is_empty starts ≡ true) ⊎ (ltb most_starts (length starts) ≡ true) → (starts ≡ []) ⊎ (most_starts < length starts)
    to (inl e) = inl ((decides_none starts).holds e)
    to (inr e) = inr (ltb-true most_starts (length starts) e)

    from : (starts ≡ []) ⊎ (most_starts < length starts) → (is_empty starts || ltb most_starts (length starts)) ≡ false → ⊥
    from (inl q) e = (decides_none starts).fails (or_parts (is_empty starts) (ltb most_starts (length starts)) e).0 q
    from (inr l) e = clash (lt-ltb most_starts (length starts) l) (or_parts (is_empty starts) (ltb most_starts (length starts)) e).1

pub sweep_tells : (G : Network) (starts : List ℕ) → Tells (sweep_faults G starts) (sweep_conditions G starts)
unfolding sweep_faults
sweep_tells G starts = (refl, decides_crowd starts, λ f20. (refl, decides_fails G.is_open starts, λ f4. tt))

pub sweep_refusals : (G : Network) (starts : List ℕ) (k : ℕ) → (first_of (sweep_faults G starts) ≡ k) ↔ FirstHolds (sweep_conditions G starts) k
sweep_refusals G starts k = tells_first (sweep_faults G starts) (sweep_conditions G starts) (sweep_tells G starts) k

-- A SWEEP THAT IS NOT REFUSED IS CORRECT
pub sweep_correct : (G : Network) → IsNet G → (starts : List ℕ) → first_of (sweep_faults G starts) ≡ 0 → IsSweep G starts (sweep G starts)
unfolding sweep_faults first_of is_empty
sweep_correct G net starts = go starts refl (ltb most_starts (length starts)) (allb G.is_open starts) refl
  where
    go : (xs : List ℕ) → starts ≡ xs → (c a : Bool) → allb G.is_open starts ≡ a → cond (is_empty xs || c) crowd_of_starts (cond (not a) absent_code 0) ≡ 0
        → IsSweep G starts (sweep G starts)
    go [] q c a p z = absurd (lt_irrefl 0 (omega arith))
    go (x ∷ xs) q true a p z = absurd (lt_irrefl 0 (omega arith))
    go (x ∷ xs) q false false p z = absurd (lt_irrefl 0 (omega arith))
    go (x ∷ xs) q false true p z =
        sweep_right G net starts (λ u m. true→t (all_elim G.is_open starts p m)) x
        (subst (λ (l : List ℕ). Memᴰ x l) (sym q) (Memᴰ.head refl))
