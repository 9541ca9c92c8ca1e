-- THE LEIDEN METHOD TAKES THE REFERENCES THAT ITS RULES SETTLE, and these settle them alone: no other order, and no other number of them, is by the rules. Assumes nothing.
use mathlib.Core.Path.{◌≡◌, refl, sym, ap, ◌∙◌, subst}
use mathlib.Core.Logic.{◌⊎◌, inl, inr}
use mathlib.Core.Bool.{Bool, true, false, not}
use mathlib.Core.List.Memᴰ
use mathlib.Core.List.{List, [], ◌∷◌, Memᴰ}
use mathlib.Core.Option.{Option, none, some}
use Prim.Native.Nat.{ℕ, zero, suc, ◌≤◌, ◌<◌}
use native.Mathlib.Nat.{le_antisymm, lt_irrefl}
use native.Mathlib.Omega.{arith}
use lib.ListN.{length}
use Rattle.std.proofs.lemmas.Bool.{cases_Bool}
use Rattle.lists.specs.Rising.{rises_by}
use Rattle.lists.proofs.Tests.{clash}
use Rattle.lists.proofs.Members.{in_memb}
use Rattle.lists.proofs.Counts.{count_le_length}
use Rattle.lists.proofs.Rising.{rises_head, rises_tail}
use Rattle.graph.specs.Network.{Network}
use Rattle.graph.specs.Distance.{vertices}
use Rattle.graph.specs.Chart.{Chart, chart}
use Rattle.graph.specs.Correct.{IsNet}
use Rattle.graph.specs.Leiden.{Bounds, unbounded, chain_low, chain_high, refer, next_reference, or_settled, refers, leiden, NoBetter, bounds_of, IsNext, Settles, met, none_remains, takes}
use Rattle.graph.proofs.Metric.{IsMetric}
use Rattle.graph.proofs.Charts.{chart_metric}
use Rattle.graph.proofs.Bounding.{AreBounds, refer_keeps, start_bounds, remaining_count, next_stays, next_none, refer_fewer, met_stops}
use Rattle.graph.proofs.Picks.{next_is}

module _ (key : ℕ → ℕ) where
  -- two members of a list whose keys rise are one if they have one key
  one_key : (xs : List ℕ) → rises_by key xs ≡ true → (u v : ℕ) → Memᴰ u xs → Memᴰ v xs → key u ≡ key v → u ≡ v
  one_key [] h u v mu mv e = absurd (Memᴰ.not-nil mu)
  one_key (x ∷ xs) h u v mu mv e = go (Memᴰ.cases_cons mu) (Memᴰ.cases_cons mv) (λ a b. one_key xs (rises_tail key x xs h) u v a b e)
    where
      above : (w : ℕ) → Memᴰ w xs → key x < key w
      above w n = rises_head key x xs h w (in_memb w xs n)

      go : (u ≡ x) ⊎ Memᴰ u xs → (v ≡ x) ⊎ Memᴰ v xs → (Memᴰ u xs → Memᴰ v xs → u ≡ v) → u ≡ v
      go (inl a) (inl b) ih = a ∙ sym b
      go (inl a) (inr n) ih = let q : key u ≡ key x = ap key a in let l : key x < key v = above v n in absurd (lt_irrefl (key x) (omega arith))
      go (inr m) (inl b) ih = let q : key v ≡ key x = ap key b in let l : key x < key u = above u m in absurd (lt_irrefl (key x) (omega arith))
      go (inr m) (inr n) ih = ih m n

  module _ (C : Chart) (up : rises_by key C.depots ≡ true) where
    as_good : (turn : Bool) (x y : ℕ) → NoBetter turn x y → NoBetter turn y x → x ≡ y
    as_good true x y l m = le_antisymm l m
    as_good false x y l m = le_antisymm m l

    -- the rule of the pick names one depot
    pub next_only : (turn : Bool) (B : Bounds) (r s : ℕ) → IsNext key turn C B r → IsNext key turn C B s → r ≡ s
    next_only turn B r s p q =
        let a = as_good turn (bounds_of turn B s) (bounds_of turn B r) (p.bound s q.depot q.stays) (q.bound r p.depot p.stays) in
        let d = le_antisymm (p.degree s q.depot q.stays a) (q.degree r p.depot p.stays (sym a)) in
        one_key C.depots up r s p.depot q.depot (le_antisymm (p.code s q.depot q.stays a d) (q.code r p.depot p.stays (sym a) (sym d)))

    -- ONE END ALONE IS BY THE RULES
    pub settles_only : (turn : Bool) (B X Y : Bounds) → Settles key C turn B X → Settles key C turn B Y → X ≡ Y
    settles_only turn B X Y (met e) (met f) = refl
    settles_only turn B X Y (met e) (none_remains h) = refl
    settles_only turn B X Y (met e) (takes r n p s) = absurd (n e)
    settles_only turn B X Y (none_remains h) (met f) = refl
    settles_only turn B X Y (none_remains h) (none_remains k) = refl
    settles_only turn B X Y (none_remains h) (takes r n p s) = absurd (clash (h r p.depot) p.stays)
    settles_only turn B X Y (takes r n p s) (met f) = absurd (n f)
    settles_only turn B X Y (takes r n p s) (none_remains k) = absurd (clash (k r p.depot) p.stays)
    settles_only turn B X Y (takes r n p s) (takes q m o t) =
        settles_only (not turn) (refer C r B) X Y s (subst (λ (z : ℕ). Settles key C (not turn) (refer C z B) Y) (next_only turn B q r o p) t)

    -- AND THE METHOD ENDS SO
    module _ (metric : IsMetric C) where
      unmet : (turn : Bool) (B : Bounds) (r : ℕ) → next_reference turn C B ≡ some r → chain_low C B ≡ chain_high C B → ⊥
      unmet turn B r q e =
          let m : next_reference turn C B ≡ none = met_stops C turn B e in
          let z : ◌≡◌ {A = ℕ} 0 1 = cc in
          lt_irrefl 0 (omega arith)

      refers_settle : (k : ℕ) (turn : Bool) (B : Bounds) → AreBounds C B → remaining_count C metric B ≤ k → Settles key C turn B (refers C k turn B)
      unfolding refers
      refers_settle zero turn B I l = none_remains (λ v m. all v m (cases_Bool (B.has_left v)))
        where
          all : (v : ℕ) → Memᴰ v C.depots → (B.has_left v ≡ true) ⊎ (B.has_left v ≡ false) → B.has_left v ≡ true
          all v m (inl h) = h
          all v m (inr h) = let f : remaining_count C metric (refer C v B) < remaining_count C metric B = refer_fewer C metric B I v m h in absurd (lt_irrefl 0 (omega arith))
      refers_settle (suc k) turn B I l = go (next_reference turn C B) refl (refers_settle k (not turn))
        where
          go : (o : Option ℕ) → next_reference turn C B ≡ o
              → ((X : Bounds) → AreBounds C X → remaining_count C metric X ≤ k → Settles key C (not turn) X (refers C k (not turn) X))
              → Settles key C turn B (or_settled o B (λ r. refers C k (not turn) (refer C r B)))
          go none q ih = met (next_none C metric turn B I q)
          go (some r) q ih =
              let x = next_stays C metric turn B r q in
              let f : remaining_count C metric (refer C r B) < remaining_count C metric B = refer_fewer C metric B I r x.0 x.1 in
              takes r (unmet turn B r q) (next_is C B key up turn r q) (ih (refer C r B) (refer_keeps C metric B I r x.0 x.1) (omega arith))

      leiden_settles : Settles key C true unbounded (leiden C)
      unfolding leiden remaining_count
      leiden_settles = refers_settle (length C.depots) true unbounded (start_bounds C metric) (count_le_length (λ v. not (unbounded.has_left v)) C.depots)

  -- of a network whose depots are listed in rising order of their keys
  module _ (G : Network) (net : IsNet G) (up : rises_by key (vertices G) ≡ true) where
    risen : rises_by key (chart G).depots ≡ true
    unfolding chart
    risen = up

    pub leiden_rules : Settles key (chart G) true unbounded (leiden (chart G))
    leiden_rules = leiden_settles (chart G) risen (chart_metric G net)

    pub leiden_only : (X : Bounds) → Settles key (chart G) true unbounded X → X ≡ leiden (chart G)
    leiden_only X s = settles_only (chart G) risen true unbounded X (leiden (chart G)) s leiden_rules
