-- An empty layer ends a search: for the loop of the code, which stops there. Assumes nothing.
use mathlib.Core.Path.{◌≡◌, refl, sym, ap, ◌∙◌}
use mathlib.Core.Logic.{◌⊎◌, inl, inr}
use mathlib.Core.Bool.{Bool, true, false, cond, ◌&&◌}
use mathlib.Core.List.{List, Memᴰ}
use Prim.Native.Nat.{ℕ, zero, suc, ◌+◌, ◌≤◌, ◌<◌}
use native.Mathlib.Nat.{zero-add, suc-add, le_refl, lt_irrefl}
use native.Mathlib.Omega.{arith}
use lib.Dec.{eqb, ltb}
use borrow.Author.Tests.{ltb-false, eqb-true}
use Rattle.std.proofs.lemmas.Bool.{cases_Bool, and_parts}
use Rattle.lists.specs.Lists.{anyb}
use Rattle.lists.proofs.Members.{any_elim}
use Rattle.graph.specs.Distance.{unreached, next_hop, hops}

module _ (vs : List ℕ) (adj : ℕ → ℕ → Bool) (u : ℕ) where
  pub hops-range : (k v : ℕ) → (hops vs adj u k v ≤ k) ⊎ (hops vs adj u k v ≡ unreached)
  unfolding hops next_hop
  hops-range zero v = go (eqb u v)
    where
      go : (b : Bool) → (cond b 0 unreached ≤ 0) ⊎ (cond b 0 unreached ≡ unreached)
      go true = inl (le_refl 0)
      go false = inr refl
  hops-range (suc k) v = go (ltb (hops vs adj u k v) unreached) (anyb (λ w. eqb (hops vs adj u k w) k && adj w v) vs) (hops-range k v)
    where
      go : (a b : Bool) → (hops vs adj u k v ≤ k) ⊎ (hops vs adj u k v ≡ unreached)
          → (cond a (hops vs adj u k v) (cond b (suc k) unreached) ≤ suc k) ⊎ (cond a (hops vs adj u k v) (cond b (suc k) unreached) ≡ unreached)
      go true b (inl l) = inl (omega arith)
      go true b (inr e) = inr e
      go false true o = inl (le_refl (suc k))
      go false false o = inr refl

  -- no depot stands at distance k: the next layer adds nothing
  quiet_step : (k : ℕ) → k < unreached → ((w : ℕ) → Memᴰ w vs → hops vs adj u k w ≡ k → ⊥) → (v : ℕ) → hops vs adj u (suc k) v ≡ hops vs adj u k v
  unfolding hops next_hop
  quiet_step k small none-at v = go (cases_Bool (ltb (hops vs adj u k v) unreached)) (cases_Bool (anyb (λ w. eqb (hops vs adj u k w) k && adj w v) vs)) (hops-range k v)
    where
      go : (ltb (hops vs adj u k v) unreached ≡ true) ⊎ (ltb (hops vs adj u k v) unreached ≡ false)
          → (anyb (λ w. eqb (hops vs adj u k w) k && adj w v) vs ≡ true) ⊎ (anyb (λ w. eqb (hops vs adj u k w) k && adj w v) vs ≡ false)
          → (hops vs adj u k v ≤ k) ⊎ (hops vs adj u k v ≡ unreached)
          → cond (ltb (hops vs adj u k v) unreached) (hops vs adj u k v) (cond (anyb (λ w. eqb (hops vs adj u k w) k && adj w v) vs) (suc k) unreached) ≡ hops vs adj u k v
      go (inl a) b c = rw a
      go (inr a) (inl b) c =
          let x = any_elim (λ w. eqb (hops vs adj u k w) k && adj w v) vs b in
          let y = and_parts (eqb (hops vs adj u k x.0) k) (adj x.0 v) x.2 in
          absurd (none-at x.0 x.1 (eqb-true (hops vs adj u k x.0) k y.0))
      go (inr a) (inr b) (inl l) = let m : unreached ≤ hops vs adj u k v = ltb-false (hops vs adj u k v) unreached a in absurd (lt_irrefl k (omega arith))
      go (inr a) (inr b) (inr e) = rw (a, b) (sym e)

  -- nor does any layer after it: the hop table is final
  pub quiet : (j k : ℕ) → j + k < unreached → ((w : ℕ) → Memᴰ w vs → hops vs adj u k w ≡ k → ⊥) → (v : ℕ) → hops vs adj u (j + k) v ≡ hops vs adj u k v
  quiet zero k small none-at v = ap (λ (n : ℕ). hops vs adj u n v) (zero-add k)
  quiet (suc j) k small none-at v =
      ap (λ (n : ℕ). hops vs adj u n v) (suc-add j k)
      ∙ quiet_step (j + k) (omega arith) (λ w m e. still w m (sym (quiet j k (omega arith) none-at w) ∙ e) (hops-range k w)) v
      ∙ quiet j k (omega arith) none-at v
    where
      still : (w : ℕ) → Memᴰ w vs → hops vs adj u k w ≡ j + k → (hops vs adj u k w ≤ k) ⊎ (hops vs adj u k w ≡ unreached) → ⊥
      still w m e (inl l) = none-at w m (omega arith)
      still w m e (inr q) = lt_irrefl unreached (omega arith)
