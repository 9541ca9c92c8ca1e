-- The layers of a search over any table: what the hop table after k layers says of the one after k + 1. Assumes nothing.
use mathlib.Core.Path.{◌≡◌, sym, ap, ◌∙◌}
use mathlib.Core.Logic.{◌⊎◌, inl, inr}
use mathlib.Core.Bool.{Bool, true, false, cond, not, ◌&&◌, ◌||◌, and-false}
use mathlib.Core.List.{Memᴰ}
use Prim.Native.Nat.{ℕ, suc, ◌+◌, ◌-◌, ◌≤◌, ◌<◌}
use native.Mathlib.Nat.{lt_irrefl}
use native.Mathlib.Numerals.{add-one}
use native.Mathlib.Omega.{arith}
use lib.Dec.{eqb, ltb}
use borrow.Author.Tests.{eqb-true, eqb-false, eq-eqb, ne_eqb, ltb-true, lt-ltb, le-ltb}
use Rattle.std.proofs.lemmas.Bool.{cases_Bool}
use Rattle.lists.specs.Lists.{range, anyb, countb}
use Rattle.lists.proofs.Tests.{clash}
use Rattle.lists.proofs.Members.{any_intro, any_elim, range_in}
use Rattle.lists.proofs.Counts.{count_lt}
use Rattle.graph.specs.Distance.{unreached, next_hop, hops}
use Rattle.graph.proofs.Layers.{hops-range, quiet}

module _ (n : ℕ) (adjacent : ℕ → ℕ → Bool) (s : ℕ) where
  -- the hop table after k layers
  abbrev H : ℕ → ℕ → ℕ
  H k v = hops (range n) adjacent s k v

  -- a code at distance k is linked to v
  unfoldable pub near : ℕ → ℕ → Bool
  near k v = anyb (λ w. eqb (hops (range n) adjacent s k w) k && adjacent w v) (range n)

  -- ---- one place, one layer on

  step_is : (k v : ℕ) → H (k + 1) v ≡ cond (ltb (H k v) unreached) (H k v) (cond (near k v) (suc k) unreached)
  unfolding hops next_hop near
  step_is k v = ap (λ (j : ℕ). hops (range n) adjacent s j v) (add-one k)

  hop_old : (k v : ℕ) → H k v < unreached → H (k + 1) v ≡ H k v
  hop_old k v l = step_is k v ∙ rw (lt-ltb (H k v) unreached l)

  hop_new : (k v : ℕ) → unreached ≤ H k v → near k v ≡ true → H (k + 1) v ≡ k + 1
  hop_new k v l e = step_is k v ∙ rw (le-ltb (H k v) unreached l, e) (sym (add-one k))

  hop-none : (k v : ℕ) → unreached ≤ H k v → near k v ≡ false → H (k + 1) v ≡ unreached
  hop-none k v l e = step_is k v ∙ rw (le-ltb (H k v) unreached l, e)

  -- the three cases of a place, with what each says
  pub data HopCase (k v : ℕ) : Type 0 where
    old : H k v ≤ k → H k v < unreached → H (k + 1) v ≡ H k v → HopCase k v
    new : H k v ≡ unreached → near k v ≡ true → H (k + 1) v ≡ k + 1 → HopCase k v
    none : H k v ≡ unreached → near k v ≡ false → H (k + 1) v ≡ unreached → HopCase k v

  pub place : (k v : ℕ) → k < unreached → HopCase k v
  place k v small = go (hops-range (range n) adjacent s k v) (cases_Bool (near k v))
    where
      go : (H k v ≤ k) ⊎ (H k v ≡ unreached) → (near k v ≡ true) ⊎ (near k v ≡ false) → HopCase k v
      go (inl l) b = old l (omega arith) (hop_old k v (omega arith))
      go (inr e) (inl b) = new e b (hop_new k v (omega arith) b)
      go (inr e) (inr b) = none e b (hop-none k v (omega arith) b)

  -- ---- the next layer, what is seen, and the layer before, by places

  module _ (k : ℕ) (small : k + 1 < unreached) where
    -- the fresh codes are those at distance k + 1
    pub fresh_is : (v : ℕ) → (near k v && not (ltb (H k v) unreached)) ≡ eqb (H (k + 1) v) (k + 1)
    fresh_is v = go (place k v (omega arith))
      where
        go : HopCase k v → (near k v && not (ltb (H k v) unreached)) ≡ eqb (H (k + 1) v) (k + 1)
        go (old l m e) = rw (lt-ltb (H k v) unreached m, ne_eqb (H (k + 1) v) (k + 1) (λ q. omega arith)) (and-false (near k v))
        go (new q b e) = rw (b, le-ltb (H k v) unreached (omega arith), eq-eqb (H (k + 1) v) (k + 1) e)
        go (none q b e) = rw (b, ne_eqb (H (k + 1) v) (k + 1) (λ p. omega arith))

    pub seen_is : (v : ℕ) → (ltb (H k v) unreached || eqb (H (k + 1) v) (k + 1)) ≡ ltb (H (k + 1) v) unreached
    seen_is v = go (place k v (omega arith))
      where
        go : HopCase k v → (ltb (H k v) unreached || eqb (H (k + 1) v) (k + 1)) ≡ ltb (H (k + 1) v) unreached
        go (old l m e) = rw (lt-ltb (H k v) unreached m, lt-ltb (H (k + 1) v) unreached (omega arith))
        go (new q b e) = rw (le-ltb (H k v) unreached (omega arith), eq-eqb (H (k + 1) v) (k + 1) e, lt-ltb (H (k + 1) v) unreached (omega arith))
        go (none q b e) = rw (le-ltb (H k v) unreached (omega arith), ne_eqb (H (k + 1) v) (k + 1) (λ p. omega arith), le-ltb (H (k + 1) v) unreached (omega arith))

    pub layer_stays : (v : ℕ) → eqb (H k v) k ≡ eqb (H (k + 1) v) k
    layer_stays v = go (place k v (omega arith))
      where
        go : HopCase k v → eqb (H k v) k ≡ eqb (H (k + 1) v) k
        go (old l m e) = ap (λ (x : ℕ). eqb x k) (sym e)
        go (new q b e) = rw (ne_eqb (H k v) k (λ p. omega arith), ne_eqb (H (k + 1) v) k (λ p. omega arith))
        go (none q b e) = rw (ne_eqb (H k v) k (λ p. omega arith), ne_eqb (H (k + 1) v) k (λ p. omega arith))

    -- the hops below k + 1 are those of k layers
    pub hops_stay : (v : ℕ) → H k v ≡ cond (ltb (H (k + 1) v) (k + 1)) (H (k + 1) v) unreached
    hops_stay v = go (place k v (omega arith))
      where
        go : HopCase k v → H k v ≡ cond (ltb (H (k + 1) v) (k + 1)) (H (k + 1) v) unreached
        go (old l m e) = rw (lt-ltb (H (k + 1) v) (k + 1) (omega arith)) (sym e)
        go (new q b e) = rw (le-ltb (H (k + 1) v) (k + 1) (omega arith)) q
        go (none q b e) = rw (le-ltb (H (k + 1) v) (k + 1) (omega arith)) q

  -- a visit of layer k makes the hops below k those of k layers
  pub hops_visit : (k v : ℕ) → k < unreached → cond (eqb (H k v) k) k (cond (ltb (H k v) k) (H k v) unreached) ≡ H k v
  hops_visit k v small = go (hops-range (range n) adjacent s k v) (cases_Bool (eqb (H k v) k))
    where
      go : (H k v ≤ k) ⊎ (H k v ≡ unreached) → (eqb (H k v) k ≡ true) ⊎ (eqb (H k v) k ≡ false) → cond (eqb (H k v) k) k (cond (ltb (H k v) k) (H k v) unreached) ≡ H k v
      go p (inl e) = rw e (sym (eqb-true (H k v) k e))
      go (inl l) (inr e) = rw (e, lt-ltb (H k v) k (omega (arith, eqb-false (H k v) k e)))
      go (inr q) (inr e) = rw (e, le-ltb (H k v) k (omega arith)) (sym q)

  -- ---- the end: no code at distance k + 1

  module _ (k : ℕ) (enough : k + 1 ≤ n) (small : n < unreached) (ended : anyb (λ v. eqb (H (k + 1) v) (k + 1)) (range n) ≡ false) where
    absent : (w : ℕ) → Memᴰ w (range n) → H (k + 1) w ≡ k + 1 → ⊥
    absent w m e = clash (any_intro (λ v. eqb (H (k + 1) v) (k + 1)) (range n) m (eq-eqb (H (k + 1) w) (k + 1) e)) ended

    -- the hop table is final
    pub hops_final : (v : ℕ) → v < n → H n v ≡ H k v
    hops_final v l =
        let e : n ≡ (n - (k + 1)) + (k + 1) = omega arith in
        ap (λ (j : ℕ). hops (range n) adjacent s j v) e
        ∙ quiet (range n) adjacent s (n - (k + 1)) (k + 1) (omega arith) absent v
        ∙ go (place k v (omega arith))
      where
        go : HopCase k v → H (k + 1) v ≡ H k v
        go (old l m e) = e
        go (new q b e) = absurd (absent v (range_in n l) e)
        go (none q b e) = e ∙ sym q

  -- ---- each layer adds a code, so that there are few layers

  pub reached_more : (k : ℕ) → k + 1 < unreached → anyb (λ v. eqb (H (k + 1) v) (k + 1)) (range n) ≡ true
      → countb (λ v. ltb (H k v) unreached) (range n) < countb (λ v. ltb (H (k + 1) v) unreached) (range n)
  reached_more k small some =
      let x = any_elim (λ v. eqb (H (k + 1) v) (k + 1)) (range n) some in
      let e : H (k + 1) x.0 ≡ k + 1 = eqb-true (H (k + 1) x.0) (k + 1) x.2 in
      count_lt (λ v. ltb (H k v) unreached) (λ v. ltb (H (k + 1) v) unreached) (range n)
      (λ v m t. lt-ltb (H (k + 1) v) unreached (stays v t)) x.1 (le-ltb (H k x.0) unreached (out x.0 e)) (lt-ltb (H (k + 1) x.0) unreached (omega arith))
    where
      stays : (v : ℕ) → ltb (H k v) unreached ≡ true → H (k + 1) v < unreached
      stays v t = let l : H k v < unreached = ltb-true (H k v) unreached t in let e : H (k + 1) v ≡ H k v = hop_old k v l in omega arith

      out : (v : ℕ) → H (k + 1) v ≡ k + 1 → unreached ≤ H k v
      out v e = go (place k v (omega arith))
        where
          go : HopCase k v → unreached ≤ H k v
          go (old l m q) = absurd (lt_irrefl k (omega arith))
          go (new q b f) = omega arith
          go (none q b f) = omega arith
