-- PAIRS OF THE OPEN DEPOTS ARE ALL PAIRS: where both ends of every pair are open, listing and counting over the open depots is listing and counting
-- over all codes. Assumes nothing.
use mathlib.Core.Path.{◌≡◌, refl, sym, ap, ap₂, ◌∙◌}
use mathlib.Core.Bool.{Bool, true, false, cond}
use mathlib.Core.List.{List, [], ◌∷◌, ◌++◌}
use Prim.Native.Nat.{ℕ}
use Rattle.lists.specs.Lists.{filterb, countb}
use Rattle.lists.proofs.Tests.{clash}
use Rattle.lists.proofs.Counts.{count_none, count_filter, sum_filter, sum_ext}
use Rattle.graph.specs.Chart.{Pairs, count_pairs}
use Rattle.graph.specs.Cases.{partners, pairs_from, pair_list}

module _ (P : Pairs) (open? : ℕ → Bool) (ends : (u v : ℕ) → P u v ≡ true → (open? u ≡ true) × (open? v ≡ true)) where
  closed_unpaired : (u v : ℕ) → open? u ≡ false → P u v ≡ false
  closed_unpaired u v e = go (P u v) refl
    where
      go : (b : Bool) → P u v ≡ b → b ≡ false
      go true q = absurd (clash (ends u v q).0 e)
      go false q = refl

  partners_open : (u : ℕ) (vs : List ℕ) → partners P u (filterb open? vs) ≡ partners P u vs
  unfolding partners filterb
  partners_open u [] = refl
  partners_open u (v ∷ vs) = go (open? v) refl (P u v) refl (partners_open u vs)
    where
      go : (b : Bool) → open? v ≡ b → (c : Bool) → P u v ≡ c → partners P u (filterb open? vs) ≡ partners P u vs
          → partners P u (cond b (v ∷ filterb open? vs) (filterb open? vs)) ≡ cond c ((u, v) ∷ partners P u vs) (partners P u vs)
      go true e c q ih = rw (q, ih)
      go false e true q ih = absurd (clash (ends u v q).1 e)
      go false e false q ih = ih

  partners_closed : (u : ℕ) → open? u ≡ false → (vs : List ℕ) → partners P u vs ≡ []
  unfolding partners
  partners_closed u e [] = refl
  partners_closed u e (v ∷ vs) = rw (closed_unpaired u v e) (partners_closed u e vs)

  from_open : (vs us : List ℕ) → pairs_from P (filterb open? vs) (filterb open? us) ≡ pairs_from P vs us
  unfolding pairs_from filterb
  from_open vs [] = refl
  from_open vs (u ∷ us) = go (open? u) refl (from_open vs us)
    where
      go : (b : Bool) → open? u ≡ b → pairs_from P (filterb open? vs) (filterb open? us) ≡ pairs_from P vs us
          → pairs_from P (filterb open? vs) (cond b (u ∷ filterb open? us) (filterb open? us)) ≡ partners P u vs ++ pairs_from P vs us
      go true e ih = ap₂ (λ (x y : List (ℕ × ℕ)). x ++ y) (partners_open u vs) ih
      go false e ih = ih ∙ ap (λ (x : List (ℕ × ℕ)). x ++ pairs_from P vs us) (sym (partners_closed u e vs))

  pub pairs_open : (vs : List ℕ) → pair_list (filterb open? vs) P ≡ pair_list vs P
  unfolding pair_list
  pairs_open vs = from_open vs vs

  pub count_open : (vs : List ℕ) → count_pairs (filterb open? vs) P ≡ count_pairs vs P
  unfolding count_pairs
  count_open vs =
      sum_filter open? (λ u. countb (λ v. P u v) (filterb open? vs)) vs (λ u e. count_none (λ v. P u v) (filterb open? vs) (λ v m. closed_unpaired u v e))
      ∙ sum_ext (λ u. countb (λ v. P u v) (filterb open? vs)) (λ u. countb (λ v. P u v) vs) vs (λ u. count_filter open? (λ v. P u v) vs (λ v h. (ends u v h).1))
