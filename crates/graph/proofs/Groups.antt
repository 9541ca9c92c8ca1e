-- Breadth-first search from a group meets the least walk length from a member; a single depot is a group of one. Assumes nothing.
use mathlib.Core.Path.{◌≡◌, refl, sym, ap, ◌∙◌, subst, fun_ext}
use mathlib.Core.Logic.{◌⊎◌, inl, inr, ◌↔◌}
use mathlib.Core.Bool.{not, Bool, true, false, cond, ◌&&◌, ◌||◌}
use mathlib.Core.List.{List, [], ◌∷◌, Memᴰ}
use Prim.Native.Nat.{ℕ, zero, suc, ◌+◌, ◌≤◌, ◌<◌}
use native.Mathlib.Nat.{zero-add, suc-add, le_antisymm, le_refl, lt_irrefl, lt_of_le_of_lt}
use native.Mathlib.Decide.{dec_le, dec_lt}
use native.Mathlib.Omega.{arith}
use lib.Dec.{T, eqb, ltb}
use lib.ListN.{length}
use borrow.Author.Tests.{ltb-false, eqb-true, eq-eqb}
use Rattle.lists.specs.Conditions.{FirstHolds}
use Rattle.graph.proofs.Delivers.{delivers_open}
use Rattle.graph.proofs.Refusals.{decides_none}
use Rattle.lists.specs.Lists.{first_of, allb, filterb, anyb, max_of, memb}
use Rattle.std.proofs.lemmas.Bool.{cases_Bool, and_parts, and_from}
use Rattle.lists.proofs.Tests.{t→true, true→t, clash, same_test}
use Rattle.lists.proofs.Conditions.{decides_fails, Tells, tells_first}
use Rattle.lists.proofs.Members.{all_elim, memb_in, in_memb, any_intro, any_elim, filter_in, filter_out, filter-all}
use Rattle.lists.proofs.Counts.{max_ge, max_at}
use Rattle.graph.specs.Network.{Network, IsSound, Walk, stay, IsDist, delivers}
use Rattle.graph.specs.Opening.{is_empty}
use Rattle.outcome.specs.Numbers.{absent_code, nobody_open}
use Rattle.graph.specs.Distance.{vertices, unreached, next_hop, hops, dist}
use Rattle.graph.specs.Correct.{IsNet}
use Rattle.graph.specs.Chart.{chart, destinations, ecc}
use Rattle.graph.specs.Groups.{Reach, IsDistFrom, IsEccFrom, group, hops_from, dist_from, ecc_from, last_from, group_faults, group_conditions, AreMembers, IsGroupSearch}
use Rattle.graph.proofs.Walks.{snoc, walk_zero, unsnoc, dist_unique, walk_open}
use Rattle.graph.proofs.Connected.{hop_open}
use Rattle.graph.proofs.Distances.{linked_to, next_old, next_new, next_none, vertices_in, vertices_out, dist_is, dist_below}

-- ---- walks from a group

module _ {G : Network} where
  reach_snoc : {S : ℕ → Bool} {k v w : ℕ} → Reach G S k v → T (G.linked v w) → Reach G S (suc k) w
  reach_snoc r l = record { start = r.start; is_member = r.is_member; walk = snoc r.walk l }

  reach_unsnoc : {S : ℕ → Bool} {k w : ℕ} → Reach G S (suc k) w → (v : ℕ) × Reach G S k v × T (G.linked v w)
  reach_unsnoc r = let x = unsnoc r.walk in (x.0, record { start = r.start; is_member = r.is_member; walk = x.1 }, x.2)

  pub from_unique : {S : ℕ → Bool} {v d e : ℕ} → IsDistFrom G S v d → IsDistFrom G S v e → d ≡ e
  from_unique {d = d} {e = e} p q = le_antisymm (p.least e q.reach) (q.least d p.reach)

  from_self : {S : ℕ → Bool} {u : ℕ} → T (S u) → IsDistFrom G S u 0
  from_self {u = u} t = record { reach = record { start = u; is_member = t; walk = stay }; least = λ k p. omega arith }

  -- one link back from a depot at distance k + 1 there is one at distance k
  pub from_before : {S : ℕ → Bool} {k w : ℕ} → IsDistFrom G S w (suc k) → (v : ℕ) × IsDistFrom G S v k × T (G.linked v w)
  from_before {S} {k} {w} p =
      let r = reach_unsnoc p.reach in
      (r.0, record { reach = r.1; least = λ j q. let h : suc k ≤ suc j = p.least (suc j) (reach_snoc q r.2) in omega arith }, r.2)

  -- the distance from a group is that from its nearest member, and no member is nearer
  pub nearest : {S : ℕ → Bool} {v d : ℕ} → IsDistFrom G S v d → (u : ℕ) × T (S u) × IsDist G u v d
  nearest p =
      let r = p.reach in
      (r.start, r.is_member, record { walk = r.walk; least = λ k w. p.least k record { start = r.start; is_member = r.is_member; walk = w } })

  pub nearest_le : {S : ℕ → Bool} {u v d e : ℕ} → IsDistFrom G S v d → T (S u) → IsDist G u v e → d ≤ e
  nearest_le {u = u} {e = e} p t q = p.least e record { start = u; is_member = t; walk = q.walk }

  -- a single depot is a group of one
  pub dist→from : {u v d : ℕ} → IsDist G u v d → IsDistFrom G (eqb u) v d
  dist→from {u} {v} p = record {
    reach = record { start = u; is_member = true→t (eq-eqb u u refl); walk = p.walk };
    least = λ k r. p.least k (subst (λ (x : ℕ). Walk G k x v) (sym (eqb-true u r.start (t→true (eqb u r.start) r.is_member))) r.walk);
  }

  pub from→dist : {u v d : ℕ} → IsDistFrom G (eqb u) v d → IsDist G u v d
  from→dist {u} {v} {d} p = record {
    walk = subst (λ (x : ℕ). Walk G d x v) (sym (eqb-true u p.reach.start (t→true (eqb u p.reach.start) p.reach.is_member))) p.reach.walk;
    least = λ k w. p.least k record { start = u; is_member = true→t (eq-eqb u u refl); walk = w };
  }

-- ---- THE SEARCH FROM A DEPOT IS THE SEARCH FROM A GROUP OF ONE

pub hops_single : (vs : List ℕ) (adj : ℕ → ℕ → Bool) (u k : ℕ) → hops_from vs adj (eqb u) k ≡ hops vs adj u k
unfolding hops_from hops
hops_single vs adj u zero = refl
hops_single vs adj u (suc k) = ap (λ (h : ℕ → ℕ). next_hop vs adj k h) (hops_single vs adj u k)

pub dist_single : (G : Network) (u : ℕ) → dist_from G (eqb u) ≡ dist G u
unfolding dist_from dist
dist_single G u = hops_single (vertices G) G.linked u (length (vertices G))

-- the list of one
pub group_one : (u : ℕ) → group (u ∷ []) ≡ eqb u
unfolding group memb anyb
group_one u = fun_ext (λ v. same_test (eqb v u || false) (eqb u v) (λ h. eq-eqb u v (sym (eqb-true v u (drop_false (eqb v u) h)))) (λ h. keep (eq-eqb v u (sym (eqb-true u v h)))))
  where
    drop_false : (b : Bool) → (b || false) ≡ true → b ≡ true
    drop_false true e = refl
    drop_false false e = e

    keep : {b : Bool} → b ≡ true → (b || false) ≡ true
    keep e = rw e

pub dist_one : (G : Network) (u : ℕ) → dist_from G (group (u ∷ [])) ≡ dist G u
dist_one G u = ap (dist_from G) (group_one u) ∙ dist_single G u

-- ---- the layers of a search from S

module _ (G : Network) (S : ℕ → Bool) (vs : List ℕ) where
  abbrev H : ℕ → ℕ → ℕ
  H k v = hops_from vs G.linked S k v

  -- after k layers: what is reached has its distance, at most k; what a walk of at most k links reaches is reached
  pub record IsLayeredFrom (k : ℕ) : Type 0 where
    pub reached : (v : ℕ) → H k v < unreached → (H k v ≤ k) × IsDistFrom G S v (H k v)
    pub complete : (v j : ℕ) → j ≤ k → Reach G S j v → H k v ≤ j

  hops-suc : (k v : ℕ) → H (suc k) v ≡ next_hop vs G.linked k (hops_from vs G.linked S k) v
  unfolding hops_from
  hops-suc k v = refl

  layer_zero : IsLayeredFrom 0
  unfolding hops_from
  layer_zero = record { reached = λ v l. at v (S v) refl l; complete = λ v j l p. done v j l p }
    where
      at : (v : ℕ) (b : Bool) → S v ≡ b → cond b 0 unreached < unreached → (H 0 v ≤ 0) × IsDistFrom G S v (H 0 v)
      at v true e l = rw e (le_refl 0, from_self (true→t e))
      at v false e l = absurd (lt_irrefl unreached l)

      done : (v j : ℕ) → j ≤ 0 → Reach G S j v → H 0 v ≤ j
      done v zero l p = rw (t→true (S v) (subst (λ (x : ℕ). T (S x)) (walk_zero p.walk) p.is_member)) (le_refl 0)
      done v (suc j) l p = absurd (lt_irrefl 0 (omega arith))

module _ (G : Network) (sound : IsSound G) (vs : List ℕ) (all : (v : ℕ) → T (G.is_open v) → Memᴰ v vs) (S : ℕ → Bool) where
  layer_suc : (k : ℕ) → suc k < unreached → IsLayeredFrom G S vs k → IsLayeredFrom G S vs (suc k)
  unfolding linked_to
  layer_suc k b I = record { reached = λ v. reached v (dec_lt (h v) unreached) (cases_Bool (near v)); complete = λ v. comp v (dec_lt (h v) unreached) (cases_Bool (near v)) }
    where
      h : ℕ → ℕ
      h = hops_from vs G.linked S k

      h' : ℕ → ℕ
      h' = hops_from vs G.linked S (suc k)

      near : ℕ → Bool
      near v = linked_to vs G.linked k h v

      -- what is not reached by k layers lies beyond
      beyond : (v j : ℕ) → unreached ≤ h v → Reach G S j v → suc k ≤ j
      beyond v j l q = go (dec_le (suc k) j)
        where
          go : Dec (suc k ≤ j) → suc k ≤ j
          go (yes p) = p
          go (no p) = let c : h v ≤ j = I.complete v j (omega arith) q in omega arith

      -- a linked depot at distance k: so v is at k + 1
      new_dist : (v w : ℕ) → unreached ≤ h v → h w ≡ k → T (G.linked w v) → IsDistFrom G S v (suc k)
      new_dist v w l e a =
          let d : IsDistFrom G S w k = subst (λ (n : ℕ). IsDistFrom G S w n) e (I.reached w (omega arith)).1 in
          record { reach = reach_snoc d.reach a; least = λ j q. beyond v j l q }

      -- the last link of a walk of k + 1 links to v starts at distance k
      last : (v w : ℕ) → unreached ≤ h v → Reach G S k w → T (G.linked w v) → h w ≡ k
      last v w l q a =
          let c : h w ≤ k = I.complete w k (le_refl k) q in
          let d = (I.reached w (omega arith)).1 in
          let m : suc k ≤ suc (h w) = beyond v (suc (h w)) l (reach_snoc d.reach a) in
          omega arith

      is_near_lem : (v w : ℕ) → h w ≡ k → T (G.linked w v) → near v ≡ true
      is_near_lem v w e a =
          any_intro (λ w. eqb (h w) k && G.linked w v) vs (all w (sound.ends v w (sound.symmetric w v a)))
          (and_from _ _ (eq-eqb (h w) k e) (t→true (G.linked w v) a))

      reached : (v : ℕ) → Dec (h v < unreached) → (near v ≡ true) ⊎ (near v ≡ false) → h' v < unreached → (h' v ≤ suc k) × IsDistFrom G S v (h' v)
      reached v (yes p) o l =
          let r = I.reached v p in
          subst (λ (n : ℕ). (n ≤ suc k) × IsDistFrom G S v n) (sym (hops-suc G S vs k v ∙ next_old vs G.linked k h v p)) (omega arith, r.1)
      reached v (no p) (inl e) l =
          let x = any_elim (λ w. eqb (h w) k && G.linked w v) vs e in
          let y = and_parts (eqb (h x.0) k) (G.linked x.0 v) x.2 in
          subst (λ (n : ℕ). (n ≤ suc k) × IsDistFrom G S v n) (sym (hops-suc G S vs k v ∙ next_new vs G.linked k h v (omega arith) e))
          (le_refl (suc k), new_dist v x.0 (omega arith) (eqb-true (h x.0) k y.0) (true→t y.1))
      reached v (no p) (inr e) l =
          let z : h' v ≡ unreached = hops-suc G S vs k v ∙ next_none vs G.linked k h v (omega arith) e in
          absurd (lt_irrefl unreached (rw z at l))

      comp : (v : ℕ) → Dec (h v < unreached) → (near v ≡ true) ⊎ (near v ≡ false) → (j : ℕ) → j ≤ suc k → Reach G S j v → h' v ≤ j
      comp v (yes p) o j l q =
          let z : h' v ≡ h v = hops-suc G S vs k v ∙ next_old vs G.linked k h v p in
          let m : h v ≤ j = (I.reached v p).1.least j q in
          omega arith
      comp v (no p) (inl e) j l q =
          let z : h' v ≡ suc k = hops-suc G S vs k v ∙ next_new vs G.linked k h v (omega arith) e in
          let m : suc k ≤ j = beyond v j (omega arith) q in
          omega arith
      comp v (no p) (inr e) j l q =
          let m : suc k ≤ j = beyond v j (omega arith) q in
          let x = reach_unsnoc (subst (λ (x : ℕ). Reach G S x v) (le_antisymm l m) q) in
          absurd (clash (is_near_lem v x.0 (last v x.0 (omega arith) x.1 x.2) x.2) e)

  pub layers_from : (k : ℕ) → k < unreached → IsLayeredFrom G S vs k
  layers_from zero b = layer_zero G S vs
  layers_from (suc k) b = layer_suc k b (layers_from k (omega arith))

-- ---- an empty layer ends a search: for the loop of the code, which stops there

module _ (vs : List ℕ) (adj : ℕ → ℕ → Bool) (S : ℕ → Bool) where
  abbrev F : ℕ → ℕ → ℕ
  F k v = hops_from vs adj S k v

  pub from-range : (k v : ℕ) → (F k v ≤ k) ⊎ (F k v ≡ unreached)
  unfolding hops_from next_hop
  from-range zero v = go (S v)
    where
      go : (b : Bool) → (cond b 0 unreached ≤ 0) ⊎ (cond b 0 unreached ≡ unreached)
      go true = inl (le_refl 0)
      go false = inr refl
  from-range (suc k) v = go (ltb (F k v) unreached) (anyb (λ w. eqb (F k w) k && adj w v) vs) (from-range k v)
    where
      go : (a b : Bool) → (F k v ≤ k) ⊎ (F k v ≡ unreached) → (cond a (F k v) (cond b (suc k) unreached) ≤ suc k) ⊎ (cond a (F k v) (cond b (suc k) unreached) ≡ unreached)
      go true b (inl l) = inl (omega arith)
      go true b (inr e) = inr e
      go false true o = inl (le_refl (suc k))
      go false false o = inr refl

  -- no depot stands at distance k: the next layer adds nothing
  quiet_step : (k : ℕ) → k < unreached → ((w : ℕ) → Memᴰ w vs → F k w ≡ k → ⊥) → (v : ℕ) → F (suc k) v ≡ F k v
  unfolding hops_from next_hop
  quiet_step k small none-at v = go (cases_Bool (ltb (F k v) unreached)) (cases_Bool (anyb (λ w. eqb (F k w) k && adj w v) vs)) (from-range k v)
    where
      go : (ltb (F k v) unreached ≡ true) ⊎ (ltb (F k v) unreached ≡ false) → (anyb (λ w. eqb (F k w) k && adj w v) vs ≡ true) ⊎ (anyb (λ w. eqb (F k w) k && adj w v) vs ≡ false)
          → (F k v ≤ k) ⊎ (F k v ≡ unreached) → cond (ltb (F k v) unreached) (F k v) (cond (anyb (λ w. eqb (F k w) k && adj w v) vs) (suc k) unreached) ≡ F k v
      go (inl a) b c = rw a
      go (inr a) (inl b) c =
          let x = any_elim (λ w. eqb (F k w) k && adj w v) vs b in
          let y = and_parts (eqb (F k x.0) k) (adj x.0 v) x.2 in
          absurd (none-at x.0 x.1 (eqb-true (F k x.0) k y.0))
      go (inr a) (inr b) (inl l) = let m : unreached ≤ F k v = ltb-false (F k v) unreached a in absurd (lt_irrefl k (omega arith))
      go (inr a) (inr b) (inr e) = rw (a, b) (sym e)

  -- nor does any layer after it: the hop table is final
  pub from_quiet : (j k : ℕ) → j + k < unreached → ((w : ℕ) → Memᴰ w vs → F k w ≡ k → ⊥) → (v : ℕ) → F (j + k) v ≡ F k v
  from_quiet zero k small none-at v = ap (λ (n : ℕ). F n v) (zero-add k)
  from_quiet (suc j) k small none-at v =
      ap (λ (n : ℕ). F n v) (suc-add j k)
      ∙ quiet_step (j + k) (omega arith) (λ w m e. still w m (sym (from_quiet j k (omega arith) none-at w) ∙ e) (from-range k w)) v
      ∙ from_quiet j k (omega arith) none-at v
    where
      still : (w : ℕ) → Memᴰ w vs → F k w ≡ j + k → (F k w ≤ k) ⊎ (F k w ≡ unreached) → ⊥
      still w m e (inl l) = none-at w m (omega arith)
      still w m e (inr q) = lt_irrefl unreached (omega arith)

-- ---- THE SEARCH FROM A GROUP IS RIGHT

module _ (G : Network) (net : IsNet G) (S : ℕ → Bool) (members : AreMembers G S) where
  few : length (vertices G) < unreached
  few = net.small

  L : IsLayeredFrom G S (vertices G) (length (vertices G))
  L = layers_from G net.sound (vertices G) (vertices_in G net.sound) S (length (vertices G)) few

  -- what a walk from a member reaches has its distance: its nearest member has one, below the number of depots, and so within the layers
  pub dist-from_is : (k v : ℕ) → Reach G S k v → IsDistFrom G S v (dist_from G S v)
  unfolding dist_from
  dist-from_is k v r =
      let u = r.start in
      let ou = members u r.is_member in
      let d = dist_is G net.sound net.small u ou k v r.walk in
      let b : dist G u v < length (vertices G) = dist_below G net.sound net.small u ou (dist G u v) v d in
      let c : hops_from (vertices G) G.linked S (length (vertices G)) v ≤ dist G u v = L.complete v (dist G u v) (omega arith) record { start = u; is_member = r.is_member; walk = d.walk } in
      (L.reached v (omega (arith, few))).1

  pub dist-from-reached : (v : ℕ) → dist_from G S v < unreached → IsDistFrom G S v (dist_from G S v)
  unfolding dist_from
  dist-from-reached v l = (L.reached v l).1

  -- a distance from the group is below the number of depots
  pub dist-from_below : (v d : ℕ) → IsDistFrom G S v d → d < length (vertices G)
  dist-from_below v d p = let x = nearest p in dist_below G net.sound net.small x.0 (members x.0 x.1) d v x.2

  -- a group that is not empty reaches every open depot
  pub from_open : (u : ℕ) → T (S u) → (v : ℕ) → T (G.is_open v) → IsDistFrom G S v (dist_from G S v)
  from_open u t v ov = let w = net.connected u v (members u t) ov in dist-from_is w.0 v record { start = u; is_member = t; walk = w.1 }

  -- it is the distance from the nearest member
  pub from_le : (u v : ℕ) → T (S u) → T (G.is_open v) → dist_from G S v ≤ dist G u v
  from_le u v t ov = nearest_le (from_open u t v ov) t (hop_open G net u (members u t) v ov)

  pub from_at : (u v : ℕ) → T (S u) → T (G.is_open v) → (w : ℕ) × T (S w) × (dist_from G S v ≡ dist G w v)
  from_at u v t ov =
      let x = nearest (from_open u t v ov) in
      (x.0, x.1, dist_unique x.2 (hop_open G net x.0 (members x.0 x.1) v ov))

  -- a closed code is not reached
  pub from_closed : (v : ℕ) → (T (G.is_open v) → ⊥) → dist_from G S v ≡ unreached
  unfolding dist_from
  from_closed v c = go (from-range (vertices G) G.linked S (length (vertices G)) v)
    where
      go : (hops_from (vertices G) G.linked S (length (vertices G)) v ≤ length (vertices G)) ⊎ (hops_from (vertices G) G.linked S (length (vertices G)) v ≡ unreached) → hops_from (vertices G) G.linked S (length (vertices G)) v ≡ unreached
      go (inl l) = let r = (L.reached v (lt_of_le_of_lt l few)).1.reach in absurd (c (walk_open net.sound (members r.start r.is_member) r.walk))
      go (inr e) = e

  -- THE ECCENTRICITY OF A GROUP that is not empty
  pub ecc-from_is : (u : ℕ) → T (S u) → (Q : ℕ → Bool) → AreMembers G Q → IsEccFrom G Q S (ecc_from G Q S)
  unfolding ecc_from
  ecc-from_is u t Q q = record { upper = λ k x. up k x.0 x.1 x.2; attained = at (max_at (dist_from G S) (filterb Q (vertices G))) }
    where
      to : List ℕ
      to = filterb Q (vertices G)

      up : (k v : ℕ) → T (Q v) → IsDistFrom G S v k → k ≤ max_of (dist_from G S) to
      up k v qv p =
          let e : dist_from G S v ≡ k = from_unique (from_open u t v (q v qv)) p in
          let l : dist_from G S v ≤ max_of (dist_from G S) to = max_ge (dist_from G S) to (filter_in Q (vertices G) (vertices_in G net.sound v (q v qv)) (t→true (Q v) qv)) in
          omega arith

      at : (max_of (dist_from G S) to ≡ 0) ⊎ ((v : ℕ) × Memᴰ v to × (max_of (dist_from G S) to ≡ dist_from G S v))
          → (max_of (dist_from G S) to ≡ 0) ⊎ ((v : ℕ) × T (Q v) × IsDistFrom G S v (max_of (dist_from G S) to))
      at (inl z) = inl z
      at (inr x) =
          let m = filter_out Q (vertices G) x.1 in
          inr (x.0, true→t m.1, subst (λ (n : ℕ). IsDistFrom G S x.0 n) (sym x.2) (from_open u t x.0 (vertices_out G net.sound m.0)))

-- the eccentricity of a group of one is the depot's
pub ecc_single : (G : Network) (u : ℕ) → ecc_from G (delivers G) (eqb u) ≡ ecc (chart G) u
unfolding ecc_from ecc chart destinations
ecc_single G u = ap (λ (h : ℕ → ℕ). max_of h (filterb (delivers G) (vertices G))) (dist_single G u)

-- the last layer lies at the eccentricity over all open depots
pub last_from_lem : (G : Network) → IsSound G → (S : ℕ → Bool) → last_from G S ≡ ecc_from G G.is_open S
unfolding last_from ecc_from
last_from_lem G sound S = ap (max_of (dist_from G S)) (sym (filter-all G.is_open (vertices G) (λ v m. t→true (G.is_open v) (vertices_out G sound m))))

-- THE SEARCH FROM A GROUP IS CORRECT, u being some member
pub group_search : (G : Network) → IsNet G → (S : ℕ → Bool) → AreMembers G S → (u : ℕ) → T (S u)
    → IsGroupSearch G S (dist_from G S) (ecc_from G (delivers G) S) (last_from G S)
group_search G net S members u t = record {
  distance = λ v ov. from_open G net S members u t v ov;
  nearest = λ v ov. nearest (from_open G net S members u t v ov);
  no_nearer = λ w v d tw p. nearest_le (from_open G net S members u t v (walk_open net.sound (members w tw) p.walk)) tw p;
  closed = from_closed G net S members;
  eccentricity = ecc-from_is G net S members u t (delivers G) (delivers_open G);
  last = subst (λ (n : ℕ). IsEccFrom G G.is_open S n) (sym (last_from_lem G net.sound S)) (ecc-from_is G net S members u t G.is_open (λ v o. o));
}

-- ---- refusals

pub group_tells : (G : Network) (codes : List ℕ) → Tells (group_faults G codes) (group_conditions G codes)
unfolding group_faults
group_tells G codes = (refl, decides_fails G.is_open codes, λ f4. (refl, decides_none codes, λ f10. tt))

pub group_refusals : (G : Network) (codes : List ℕ) (k : ℕ) → (first_of (group_faults G codes) ≡ k) ↔ FirstHolds (group_conditions G codes) k
group_refusals G codes k = tells_first (group_faults G codes) (group_conditions G codes) (group_tells G codes) k

-- not refused: the members are open
pub group_members : (G : Network) (codes : List ℕ) → first_of (group_faults G codes) ≡ 0 → AreMembers G (group codes)
unfolding group_faults first_of group
group_members G codes z v t = go (allb G.is_open codes) refl z
  where
    go : (a : Bool) → allb G.is_open codes ≡ a → cond (not a) absent_code (cond (is_empty codes) nobody_open 0) ≡ 0 → T (G.is_open v)
    go false p y = absurd (lt_irrefl 0 (omega arith))
    go true p y = true→t (all_elim G.is_open codes p (memb_in v codes (t→true (memb v codes) t)))

-- A SEARCH THAT IS NOT REFUSED IS CORRECT
pub group_correct : (G : Network) → IsNet G → (codes : List ℕ) → first_of (group_faults G codes) ≡ 0
    → IsGroupSearch G (group codes) (dist_from G (group codes)) (ecc_from G (delivers G) (group codes)) (last_from G (group codes))
unfolding group_faults first_of is_empty group
group_correct G net codes = go (allb G.is_open codes) refl codes refl
  where
    go : (a : Bool) → allb G.is_open codes ≡ a → (xs : List ℕ) → codes ≡ xs → cond (not a) absent_code (cond (is_empty xs) nobody_open 0) ≡ 0
        → IsGroupSearch G (group codes) (dist_from G (group codes)) (ecc_from G (delivers G) (group codes)) (last_from G (group codes))
    go false p xs q z = absurd (lt_irrefl 0 (omega arith))
    go true p [] q z = absurd (lt_irrefl 0 (omega arith))
    go true p (x ∷ xs) q z =
        group_search G net (group codes) (λ v t. true→t (all_elim G.is_open codes p (memb_in v codes (t→true (memb v codes) t))))
        x (true→t (subst (λ (l : List ℕ). memb x l ≡ true) (sym q) (in_memb x (x ∷ xs) (Memᴰ.head refl))))
