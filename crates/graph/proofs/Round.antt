-- ONE ROUND KEEPS THE INVARIANT, over any finite metric space. Assumes nothing.
use mathlib.Core.Path.{◌≡◌, refl, sym, ap, ◌∙◌, subst}
use mathlib.Core.Logic.{◌⊎◌, inl, inr}
use mathlib.Core.Bool.{Bool, true, false, cond, not, ◌&&◌, ◌||◌}
use mathlib.Core.List.Memᴰ
use mathlib.Core.List.{List, [], ◌∷◌, ◌++◌, Memᴰ}
use Prim.Native.Nat.{ℕ, ◌+◌, ◌≤◌, ◌<◌, max, min}
use native.Mathlib.Nat.{le_refl, le_trans, le_of_eq, lt_irrefl}
use native.Mathlib.Decide.{dec_lt}
use native.Mathlib.Omega.{arith}
use lib.Dec.{eqb, ltb}
use borrow.Author.Tests.{ltb-true, ltb-false, eqb-true, eqb-false, eq-eqb, ne_eqb}
use Rattle.std.proofs.lemmas.Bool.{and_parts, and_from, or_cases, or_left, or_right}
use Rattle.lists.specs.Lists.{memb}
use Rattle.lists.proofs.Tests.{clash}
use Rattle.lists.proofs.Members.{memb_snoc}
use Rattle.lists.proofs.Distinct.{IsCounted, counted_snoc}
use Rattle.graph.specs.Distance.{unreached}
use Rattle.graph.specs.Chart.{Chart, ecc, Pairs, own_pairs}
use Rattle.graph.specs.Rounds.{Status, waiting, skipped, searched, is_waiting, State, offer, raise, join_pairs, round}
use Rattle.graph.proofs.Metric.{IsMetric, ecc_ge, ecc_bound}

module _ (C : Chart) (metric : IsMetric C) where
  -- ---- where a depot stands

  abbrev pub Fine : ℕ → List ℕ → ℕ → Status → Type 0
  Fine c refs v (waiting b g) = (memb v refs ≡ false) × (ecc C v ≤ b) × ((b ≡ unreached) ⊎ ((memb g refs ≡ true) × (b ≡ ecc C g + C.distance g v)))
  Fine c refs v (skipped b g) = (memb v refs ≡ false) × (ecc C v ≤ b) × ((memb g refs ≡ true) × (b ≡ ecc C g + C.distance g v)) × (b < c)
  Fine c refs v (searched e) = (memb v refs ≡ true) × (e ≡ ecc C v) × (C.is_destination v ≡ true → ecc C v ≤ c)

  more : (g : ℕ) (refs : List ℕ) (r : ℕ) → memb g refs ≡ true → memb g (refs ++ (r ∷ [])) ≡ true
  more g refs r h = memb_snoc g refs r ∙ or_left _ (eqb g r) h

  other : (v : ℕ) (refs : List ℕ) (r : ℕ) → (v ≡ r → ⊥) → memb v (refs ++ (r ∷ [])) ≡ memb v refs
  other v refs r n = memb_snoc v refs r ∙ go (memb v refs) (ne_eqb v r n)
    where
      go : (b : Bool) {x : Bool} → x ≡ false → (b || x) ≡ b
      go true e = refl
      go false e = e

  module _ (refs : List ℕ) (r : ℕ) (mr : Memᴰ r C.depots) (c c' : ℕ) (le : c ≤ c') (top : c' ≤ unreached) where
    -- a depot other than r after the round
    offer_fine : (v : ℕ) → Memᴰ v C.depots → (v ≡ r → ⊥) → (s : Status) → Fine c refs v s → Fine c' (refs ++ (r ∷ [])) v (offer c' r (ecc C r + C.distance r v) s)
    unfolding offer
    offer_fine v m n (searched e) h = (other v refs r n ∙ h.0, h.1, λ t. le_trans (h.2 t) le)
    offer_fine v m n (skipped b g) h = (other v refs r n ∙ h.0, h.1, (more g refs r h.2.0, h.2.1), omega arith)
    offer_fine v m n (waiting b g) h = fin (ltb x b) (ltb (min x b) c') refl refl
      where
        x : ℕ
        x = ecc C r + C.distance r v

        refs' : List ℕ
        refs' = refs ++ (r ∷ [])

        bound : ecc C v ≤ min x b
        bound = let p : ecc C v ≤ ecc C r + C.distance r v = ecc_bound C metric r v mr m in let q : ecc C v ≤ b = h.1 in omega arith

        away : memb v refs' ≡ false
        away = other v refs r n ∙ h.0

        keep : ltb x b ≡ false → (b ≡ unreached) ⊎ ((memb g refs ≡ true) × (b ≡ ecc C g + C.distance g v)) → (min x b ≡ unreached) ⊎ ((memb g refs' ≡ true) × (min x b ≡ ecc C g + C.distance g v))
        keep e (inl z) = let l : b ≤ x = ltb-false x b e in inl (omega arith)
        keep e (inr y) = let l : b ≤ x = ltb-false x b e in let z : b ≡ ecc C g + C.distance g v = y.1 in inr (more g refs r y.0, omega arith)

        give : (t : Bool) → ltb x b ≡ t → (min x b ≡ unreached) ⊎ ((memb (cond t r g) refs' ≡ true) × (min x b ≡ ecc C (cond t r g) + C.distance (cond t r g) v))
        give true e = let l : x < b = ltb-true x b e in inr (memb_snoc r refs r ∙ or_right (memb r refs) _ (eq-eqb r r refl), omega arith)
        give false e = keep e h.2

        low : (t : Bool) → min x b < c' → (min x b ≡ unreached) ⊎ ((memb (cond t r g) refs' ≡ true) × (min x b ≡ ecc C (cond t r g) + C.distance (cond t r g) v))
            → (memb (cond t r g) refs' ≡ true) × (min x b ≡ ecc C (cond t r g) + C.distance (cond t r g) v)
        low t l (inl z) = absurd (lt_irrefl c' (omega arith))
        low t l (inr y) = y

        fin : (t s : Bool) → ltb x b ≡ t → ltb (min x b) c' ≡ s → Fine c' refs' v (cond s (skipped (min x b) (cond t r g)) (waiting (min x b) (cond t r g)))
        fin t true e f = (away, bound, low t (ltb-true (min x b) c' f) (give t e), ltb-true (min x b) c' f)
        fin t false e f = (away, bound, give t e)

  -- ---- the pairs

  -- u < v are destinations at distance c, not 0, and one of them has been searched from
  pub record IsPair (c : ℕ) (refs : List ℕ) (u v : ℕ) : Type 0 where
    pub before : ltb u v ≡ true
    pub first : C.is_destination u ≡ true
    pub second : C.is_destination v ≡ true
    pub far : C.distance u v ≡ c
    pub positive : 0 < c
    pub hit : (memb u refs ≡ true) ⊎ (memb v refs ≡ true)

  pub record Invariant (top : ℕ) (S : State) : Type 0 where
    pub bounded : S.candidate ≤ top
    pub fine : (v : ℕ) → Memᴰ v C.depots → Fine S.candidate S.references v (S.status v)
    pub counted : IsCounted S.references
    pub searched_inside : (v : ℕ) → memb v S.references ≡ true → Memᴰ v C.depots
    pub is_pair : (u v : ℕ) → S.pairs u v ≡ true → IsPair S.candidate S.references u v
    pub pair : (u v : ℕ) → IsPair S.candidate S.references u v → S.pairs u v ≡ true

  pub own_is : (r e u v : ℕ) → own_pairs C r e u v ≡ true → (ltb u v ≡ true) × (C.is_destination u ≡ true) × (C.is_destination v ≡ true) × (((u ≡ r) × (C.distance r v ≡ e)) ⊎ ((v ≡ r) × (C.distance r u ≡ e)))
  unfolding own_pairs
  own_is r e u v h =
      let p = and_parts (ltb u v && C.is_destination u && C.is_destination v) ((eqb u r && eqb (C.distance r v) e) || (eqb v r && eqb (C.distance r u) e)) h in
      let q = and_parts (ltb u v && C.is_destination u) (C.is_destination v) p.0 in
      let s = and_parts (ltb u v) (C.is_destination u) q.0 in
      (s.0, s.1, q.1, go (or_cases (eqb u r && eqb (C.distance r v) e) (eqb v r && eqb (C.distance r u) e) p.1))
    where
      go : ((eqb u r && eqb (C.distance r v) e) ≡ true) ⊎ ((eqb v r && eqb (C.distance r u) e) ≡ true) → ((u ≡ r) × (C.distance r v ≡ e)) ⊎ ((v ≡ r) × (C.distance r u ≡ e))
      go (inl k) = let a = and_parts (eqb u r) (eqb (C.distance r v) e) k in inl (eqb-true u r a.0, eqb-true (C.distance r v) e a.1)
      go (inr k) = let a = and_parts (eqb v r) (eqb (C.distance r u) e) k in inr (eqb-true v r a.0, eqb-true (C.distance r u) e a.1)

  pub own_left : (r e v : ℕ) → ltb r v ≡ true → C.is_destination r ≡ true → C.is_destination v ≡ true → C.distance r v ≡ e → own_pairs C r e r v ≡ true
  unfolding own_pairs
  own_left r e v l t w f = and_from _ _ (and_from _ _ (and_from _ _ l t) w) (or_left _ (eqb v r && eqb (C.distance r r) e) (and_from _ _ (eq-eqb r r refl) (eq-eqb (C.distance r v) e f)))

  pub own_right : (r e u : ℕ) → ltb u r ≡ true → C.is_destination u ≡ true → C.is_destination r ≡ true → C.distance r u ≡ e → own_pairs C r e u r ≡ true
  unfolding own_pairs
  own_right r e u l t w f = and_from _ _ (and_from _ _ (and_from _ _ l t) w) (or_right (eqb u r && eqb (C.distance r r) e) _ (and_from _ _ (eq-eqb r r refl) (eq-eqb (C.distance r u) e f)))

  module _ (S : State) (r : ℕ) (mr : Memᴰ r C.depots) where
    refs⁺ : List ℕ
    refs⁺ = S.references ++ (r ∷ [])

    wide : (c u v : ℕ) → IsPair c S.references u v → IsPair c refs⁺ u v
    unfolding refs⁺
    wide c u v p = record { before = p.before; first = p.first; second = p.second; far = p.far; positive = p.positive; hit = go p.hit }
      where
        go : (memb u S.references ≡ true) ⊎ (memb v S.references ≡ true) → (memb u refs⁺ ≡ true) ⊎ (memb v refs⁺ ≡ true)
        go (inl h) = inl (more u S.references r h)
        go (inr h) = inr (more v S.references r h)

    was : (v : ℕ) → memb v refs⁺ ≡ true → (memb v S.references ≡ true) ⊎ (v ≡ r)
    unfolding refs⁺
    was v h = go (or_cases (memb v S.references) (eqb v r) (sym (memb_snoc v S.references r) ∙ h))
      where
        go : (memb v S.references ≡ true) ⊎ (eqb v r ≡ true) → (memb v S.references ≡ true) ⊎ (v ≡ r)
        go (inl k) = inl k
        go (inr k) = inr (eqb-true v r k)

    -- a pair after the round was one before it, or is one of r's
    narrow : (c u v : ℕ) → IsPair c refs⁺ u v → ((memb u S.references ≡ true) ⊎ (memb v S.references ≡ true)) ⊎ ((u ≡ r) ⊎ (v ≡ r))
    narrow c u v p = go p.hit
      where
        left : (memb u S.references ≡ true) ⊎ (u ≡ r) → ((memb u S.references ≡ true) ⊎ (memb v S.references ≡ true)) ⊎ ((u ≡ r) ⊎ (v ≡ r))
        left (inl h) = inl (inl h)
        left (inr h) = inr (inl h)

        right : (memb v S.references ≡ true) ⊎ (v ≡ r) → ((memb u S.references ≡ true) ⊎ (memb v S.references ≡ true)) ⊎ ((u ≡ r) ⊎ (v ≡ r))
        right (inl h) = inl (inr h)
        right (inr h) = inr (inr h)

        go : (memb u refs⁺ ≡ true) ⊎ (memb v refs⁺ ≡ true) → ((memb u S.references ≡ true) ⊎ (memb v S.references ≡ true)) ⊎ ((u ≡ r) ⊎ (v ≡ r))
        go (inl h) = left (was u h)
        go (inr h) = right (was v h)

    again : (c u v : ℕ) → IsPair c refs⁺ u v → (memb u S.references ≡ true) ⊎ (memb v S.references ≡ true) → IsPair c S.references u v
    again c u v p h = record { before = p.before; first = p.first; second = p.second; far = p.far; positive = p.positive; hit = h }

    own→pair : (e u v : ℕ) → 0 < e → own_pairs C r e u v ≡ true → IsPair e refs⁺ u v
    unfolding refs⁺
    own→pair e u v pos h =
        let k = own_is r e u v h in
        record { before = k.0; first = k.1; second = k.2; far = far k.1 k.2 k.3; positive = pos; hit = hit k.3 }
      where
        far : C.is_destination u ≡ true → C.is_destination v ≡ true → ((u ≡ r) × (C.distance r v ≡ e)) ⊎ ((v ≡ r) × (C.distance r u ≡ e)) → C.distance u v ≡ e
        far tu tv (inl x) = ap (λ (w : ℕ). C.distance w v) x.0 ∙ x.1
        far tu tv (inr x) = metric.symmetric u v (metric.inside u tu) (metric.inside v tv) ∙ ap (λ (w : ℕ). C.distance w u) x.0 ∙ x.1

        self : (w : ℕ) → w ≡ r → memb w refs⁺ ≡ true
        self w q = memb_snoc w S.references r ∙ or_right (memb w S.references) _ (eq-eqb w r q)

        hit : ((u ≡ r) × (C.distance r v ≡ e)) ⊎ ((v ≡ r) × (C.distance r u ≡ e)) → (memb u refs⁺ ≡ true) ⊎ (memb v refs⁺ ≡ true)
        hit (inl x) = inl (self u x.0)
        hit (inr x) = inr (self v x.0)

    pair→own : (e u v : ℕ) → IsPair e refs⁺ u v → (u ≡ r) ⊎ (v ≡ r) → own_pairs C r e u v ≡ true
    pair→own e u v p (inl q) =
        subst (λ (w : ℕ). own_pairs C r e w v ≡ true) (sym q)
        (own_left r e v (ap (λ (w : ℕ). ltb w v) (sym q) ∙ p.before) (ap C.is_destination (sym q) ∙ p.first) p.second (ap (λ (w : ℕ). C.distance w v) (sym q) ∙ p.far))
    pair→own e u v p (inr q) =
        subst (λ (w : ℕ). own_pairs C r e u w ≡ true) (sym q)
        (own_right r e u (ap (λ (w : ℕ). ltb u w) (sym q) ∙ p.before) p.first (ap C.is_destination (sym q) ∙ p.second)
        (ap (λ (w : ℕ). C.distance w u) (sym q) ∙ sym (metric.symmetric u v (metric.inside u p.first) (metric.inside v p.second)) ∙ p.far))

    -- a pair of r is no farther than r's eccentricity
    own_near : (c u v : ℕ) → IsPair c refs⁺ u v → (u ≡ r) ⊎ (v ≡ r) → c ≤ ecc C r
    own_near c u v p (inl q) =
        let l : C.distance u v ≤ ecc C u = ecc_ge C metric u v p.second in
        let f : C.distance u v ≡ c = p.far in
        let k : ecc C u ≡ ecc C r = ap (ecc C) q in
        omega arith
    own_near c u v p (inr q) =
        let l : C.distance v u ≤ ecc C v = ecc_ge C metric v u p.first in
        let f : C.distance u v ≡ c = p.far in
        let s : C.distance u v ≡ C.distance v u = metric.symmetric u v (metric.inside u p.first) (metric.inside v p.second) in
        let k : ecc C v ≡ ecc C r = ap (ecc C) q in
        omega arith

    module _ (top : ℕ) (I : Invariant top S) where
      -- a destination searched before has an eccentricity of at most the candidate
      known : (u : ℕ) → memb u S.references ≡ true → C.is_destination u ≡ true → ecc C u ≤ S.candidate
      known u h t = go (S.status u) (I.fine u (I.searched_inside u h))
        where
          go : (s : Status) → Fine S.candidate S.references u s → ecc C u ≤ S.candidate
          go (waiting b g) f = absurd (clash h f.0)
          go (skipped b g) f = absurd (clash h f.0)
          go (searched e) f = f.2 t

      old_near : (c u v : ℕ) → IsPair c refs⁺ u v → (memb u S.references ≡ true) ⊎ (memb v S.references ≡ true) → c ≤ S.candidate
      old_near c u v p (inl h) =
          let l : C.distance u v ≤ ecc C u = ecc_ge C metric u v p.second in
          let f : C.distance u v ≡ c = p.far in
          let k : ecc C u ≤ S.candidate = known u h p.first in
          omega arith
      old_near c u v p (inr h) =
          let l : C.distance v u ≤ ecc C v = ecc_ge C metric v u p.first in
          let f : C.distance u v ≡ c = p.far in
          let s : C.distance u v ≡ C.distance v u = metric.symmetric u v (metric.inside u p.first) (metric.inside v p.second) in
          let k : ecc C v ≤ S.candidate = known v h p.second in
          omega arith

      -- r is no destination: it has no pair
      no_own : (c u v : ℕ) → C.is_destination r ≡ false → IsPair c refs⁺ u v → (u ≡ r) ⊎ (v ≡ r) → ⊥
      no_own c u v t p (inl q) = clash (ap C.is_destination (sym q) ∙ p.first) t
      no_own c u v t p (inr q) = clash (ap C.is_destination (sym q) ∙ p.second) t

      -- what the round makes of the pairs, and the new candidate, by the four tests
      joined : Bool → Bool → Bool → Bool → Pairs
      joined t above same nil = cond (t && above) (own_pairs C r (ecc C r)) (cond (same && not nil) (λ u v. S.pairs u v || own_pairs C r (ecc C r) u v) S.pairs)

      raised : Bool → ℕ
      raised t = cond t (max (ecc C r) S.candidate) S.candidate

      module _ (u v : ℕ) where
        to : {c d : ℕ} → c ≡ d → IsPair c refs⁺ u v → IsPair d refs⁺ u v
        to q p = subst (λ (n : ℕ). IsPair n refs⁺ u v) q p

        old : S.pairs u v ≡ true → IsPair S.candidate refs⁺ u v
        old h = wide S.candidate u v (I.is_pair u v h)

        both : ecc C r ≡ S.candidate → 0 < ecc C r → (S.pairs u v ≡ true) ⊎ (own_pairs C r (ecc C r) u v ≡ true) → IsPair S.candidate refs⁺ u v
        both q pos (inl h) = old h
        both q pos (inr h) = to q (own→pair (ecc C r) u v pos h)

        only : C.is_destination r ≡ false → (S.pairs u v ≡ true) ⊎ (own_pairs C r (ecc C r) u v ≡ true) → 0 < ecc C r → IsPair S.candidate refs⁺ u v
        only t (inl h) pos = old h
        only t (inr h) pos =
            let p = own→pair (ecc C r) u v pos h in
            let k = own_is r (ecc C r) u v h in
            absurd (no_own (ecc C r) u v t p (ends k.3))
          where
            ends : ((u ≡ r) × (C.distance r v ≡ ecc C r)) ⊎ ((v ≡ r) × (C.distance r u ≡ ecc C r)) → (u ≡ r) ⊎ (v ≡ r)
            ends (inl x) = inl x.0
            ends (inr x) = inr x.0

        positive_of : eqb (ecc C r) 0 ≡ false → 0 < ecc C r
        positive_of n = go (dec_lt 0 (ecc C r))
          where
            go : Dec (0 < ecc C r) → 0 < ecc C r
            go (yes l) = l
            go (no l) = absurd (eqb-false (ecc C r) 0 n (omega arith))

        sound : (t above same nil : Bool) → C.is_destination r ≡ t → ltb S.candidate (ecc C r) ≡ above → eqb (ecc C r) S.candidate ≡ same → eqb (ecc C r) 0 ≡ nil
            → joined t above same nil u v ≡ true → IsPair (raised t) refs⁺ u v
        unfolding joined raised
        sound true true same nil t a s n h =
            let l : S.candidate < ecc C r = ltb-true S.candidate (ecc C r) a in
            to (omega arith) (own→pair (ecc C r) u v (omega arith) h)
        sound true false true false t a s n h =
            let q : ecc C r ≡ S.candidate = eqb-true (ecc C r) S.candidate s in
            to (omega arith) (both q (positive_of n) (or_cases (S.pairs u v) (own_pairs C r (ecc C r) u v) h))
        sound true false true true t a s n h =
            let q : ecc C r ≡ S.candidate = eqb-true (ecc C r) S.candidate s in
            to (omega arith) (old h)
        sound true false false nil t a s n h =
            let l : ecc C r ≤ S.candidate = ltb-false S.candidate (ecc C r) a in
            to (omega arith) (old h)
        sound false above true false t a s n h = only t (or_cases (S.pairs u v) (own_pairs C r (ecc C r) u v) h) (positive_of n)
        sound false above true true t a s n h = old h
        sound false above false nil t a s n h = old h

        old_in : IsPair S.candidate refs⁺ u v → (memb u S.references ≡ true) ⊎ (memb v S.references ≡ true) → S.pairs u v ≡ true
        old_in p h = I.pair u v (again S.candidate u v p h)

        -- a pair at a candidate above r's eccentricity, or where r is no destination, is an old one
        stays : IsPair S.candidate refs⁺ u v → ((u ≡ r) ⊎ (v ≡ r) → ⊥) → S.pairs u v ≡ true
        stays p no-r = go (narrow S.candidate u v p)
          where
            go : ((memb u S.references ≡ true) ⊎ (memb v S.references ≡ true)) ⊎ ((u ≡ r) ⊎ (v ≡ r)) → S.pairs u v ≡ true
            go (inl h) = old_in p h
            go (inr q) = absurd (no-r q)

        adds : IsPair S.candidate refs⁺ u v → ecc C r ≡ S.candidate → (S.pairs u v || own_pairs C r (ecc C r) u v) ≡ true
        adds p q = go (narrow S.candidate u v p)
          where
            go : ((memb u S.references ≡ true) ⊎ (memb v S.references ≡ true)) ⊎ ((u ≡ r) ⊎ (v ≡ r)) → (S.pairs u v || own_pairs C r (ecc C r) u v) ≡ true
            go (inl h) = or_left _ (own_pairs C r (ecc C r) u v) (old_in p h)
            go (inr x) = or_right (S.pairs u v) _ (pair→own (ecc C r) u v (to (sym q) p) x)

        alone : (c : ℕ) → S.candidate < c → c ≡ ecc C r → IsPair c refs⁺ u v → own_pairs C r (ecc C r) u v ≡ true
        alone c l q p = go (narrow c u v p)
          where
            go : ((memb u S.references ≡ true) ⊎ (memb v S.references ≡ true)) ⊎ ((u ≡ r) ⊎ (v ≡ r)) → own_pairs C r (ecc C r) u v ≡ true
            go (inl h) = let m : c ≤ S.candidate = old_near c u v p h in absurd (lt_irrefl c (omega arith))
            go (inr x) = pair→own (ecc C r) u v (to q p) x

        complete : (t above same nil : Bool) → C.is_destination r ≡ t → ltb S.candidate (ecc C r) ≡ above → eqb (ecc C r) S.candidate ≡ same → eqb (ecc C r) 0 ≡ nil
            → IsPair (raised t) refs⁺ u v → joined t above same nil u v ≡ true
        unfolding joined raised
        complete true true same nil t a s n p =
            let l : S.candidate < ecc C r = ltb-true S.candidate (ecc C r) a in
            alone (max (ecc C r) S.candidate) (omega arith) (omega arith) p
        complete true false true false t a s n p =
            let q : ecc C r ≡ S.candidate = eqb-true (ecc C r) S.candidate s in
            adds (to (omega arith) p) q
        complete true false true true t a s n p =
            let q : ecc C r ≡ S.candidate = eqb-true (ecc C r) S.candidate s in
            let z : ecc C r ≡ 0 = eqb-true (ecc C r) 0 n in
            let m : 0 < max (ecc C r) S.candidate = p.positive in
            absurd (lt_irrefl 0 (omega arith))
        complete true false false nil t a s n p =
            let l : ecc C r ≤ S.candidate = ltb-false S.candidate (ecc C r) a in
            let p' = to {d = S.candidate} (omega arith) p in
            stays p' (λ x. let m : S.candidate ≤ ecc C r = own_near S.candidate u v p' x in eqb-false (ecc C r) S.candidate s (omega arith))
        complete false above true false t a s n p = or_left _ (own_pairs C r (ecc C r) u v) (stays p (no_own S.candidate u v t p))
        complete false above true true t a s n p = stays p (no_own S.candidate u v t p)
        complete false above false nil t a s n p = stays p (no_own S.candidate u v t p)

      -- ---- one round keeps the invariant

      module _ (most : (v : ℕ) → C.is_destination v ≡ true → ecc C v ≤ top) (top_small : top ≤ unreached) (fresh : memb r S.references ≡ false) where
        raise_le : S.candidate ≤ raise C r (ecc C r) S.candidate
        unfolding raise
        raise_le = go (C.is_destination r)
          where
            go : (t : Bool) → S.candidate ≤ cond t (max (ecc C r) S.candidate) S.candidate
            go true = omega arith
            go false = le_refl S.candidate

        raise_own : C.is_destination r ≡ true → ecc C r ≤ raise C r (ecc C r) S.candidate
        unfolding raise
        raise_own t = rw t (omega arith)

        raise_top : raise C r (ecc C r) S.candidate ≤ top
        unfolding raise
        raise_top = go (C.is_destination r) refl
          where
            go : (t : Bool) → C.is_destination r ≡ t → cond t (max (ecc C r) S.candidate) S.candidate ≤ top
            go true q = let l : ecc C r ≤ top = most r q in let m : S.candidate ≤ top = I.bounded in omega arith
            go false q = I.bounded

        after : ℕ → Status
        after v = cond (eqb v r) (searched (ecc C r)) (offer (raise C r (ecc C r) S.candidate) r (ecc C r + C.distance r v) (S.status v))

        status_is : (v : ℕ) → (round C r S).status v ≡ after v
        unfolding round after
        status_is v = refl

        fine_after : (v : ℕ) → Memᴰ v C.depots → Fine (raise C r (ecc C r) S.candidate) refs⁺ v (after v)
        unfolding after refs⁺
        fine_after v m = go (eqb v r) refl
          where
            go : (b : Bool) → eqb v r ≡ b → Fine (raise C r (ecc C r) S.candidate) refs⁺ v (cond b (searched (ecc C r)) (offer (raise C r (ecc C r) S.candidate) r (ecc C r + C.distance r v) (S.status v)))
            go true q =
                let w = eqb-true v r q in
                (memb_snoc v S.references r ∙ or_right (memb v S.references) _ q, ap (ecc C) (sym w), λ t. le_trans (le_of_eq (ap (ecc C) w)) (raise_own (ap C.is_destination (sym w) ∙ t)))
            go false q = offer_fine S.references r mr S.candidate (raise C r (ecc C r) S.candidate) raise_le (le_trans raise_top top_small) v m (eqb-false v r q) (S.status v) (I.fine v m)

        pub round_keeps : Invariant top (round C r S)
        unfolding round refs⁺ join_pairs joined raise raised
        round_keeps = record {
          bounded = raise_top;
          fine = λ v m. subst (λ (s : Status). Fine (raise C r (ecc C r) S.candidate) refs⁺ v s) (sym (status_is v)) (fine_after v m);
          counted = counted_snoc S.references r I.counted fresh;
          searched_inside = λ v h. inside v (was v h);
          is_pair = λ u v h. sound u v (C.is_destination r) (ltb S.candidate (ecc C r)) (eqb (ecc C r) S.candidate) (eqb (ecc C r) 0) refl refl refl refl h;
          pair = λ u v p. complete u v (C.is_destination r) (ltb S.candidate (ecc C r)) (eqb (ecc C r) S.candidate) (eqb (ecc C r) 0) refl refl refl refl p;
        }
          where
            inside : (v : ℕ) → (memb v S.references ≡ true) ⊎ (v ≡ r) → Memᴰ v C.depots
            inside v (inl h) = I.searched_inside v h
            inside v (inr q) = Memᴰ.cast q mr

        -- a depot that waits after the round waited before it, and r waits no more
        pub round_still : (v : ℕ) → is_waiting ((round C r S).status v) ≡ true → is_waiting (S.status v) ≡ true
        unfolding after offer
        round_still v h = go (eqb v r) (S.status v) (ap is_waiting (sym (status_is v)) ∙ h)
          where
            go : (b : Bool) (s : Status) → is_waiting (cond b (searched (ecc C r)) (offer (raise C r (ecc C r) S.candidate) r (ecc C r + C.distance r v) s)) ≡ true → is_waiting s ≡ true
            go true s k = absurd (clash k refl)
            go false (waiting b g) k = refl
            go false (skipped b g) k = k
            go false (searched e) k = k

        pub round-done : is_waiting ((round C r S).status r) ≡ false
        unfolding after
        round-done = ap is_waiting (status_is r) ∙ rw (eq-eqb r r refl)
