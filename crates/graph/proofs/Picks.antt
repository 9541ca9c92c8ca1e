-- THE LEIDEN METHOD'S PICK is the one that the rule names: best bound, then higher degree, then lower code (the key by which the depots are listed). Assumes nothing.
use mathlib.Core.Path.{◌≡◌, refl, sym, ap, ◌∙◌, subst}
use mathlib.Core.Logic.{◌⊎◌, inl, inr}
use mathlib.Core.Bool.{Bool, true, false, cond, not, ◌&&◌, ◌||◌}
use mathlib.Core.List.Memᴰ
use mathlib.Core.List.{List, [], ◌∷◌, Memᴰ}
use mathlib.Core.Option.{Option, none, some}
use Prim.Native.Nat.{ℕ, ◌≤◌, ◌<◌}
use native.Mathlib.Nat.{lt_irrefl, le_of_lt, le_of_eq}
use native.Mathlib.Omega.{arith}
use lib.Dec.{eqb, ltb}
use borrow.Author.Tests.{ltb-true, ltb-false, le-ltb, eqb-true, eq-eqb, not-true}
use Rattle.lists.specs.Rising.{rises_by}
use Rattle.std.proofs.lemmas.Bool.{cases_Bool, and_parts, and_from, or_cases}
use Rattle.lists.proofs.Tests.{clash}
use Rattle.lists.proofs.Members.{filter_in, filter_out, in_memb}
use Rattle.lists.proofs.Rising.{rises_head, rises_tail, rises_filter}
use Rattle.graph.specs.Chart.{Chart}
use Rattle.graph.specs.Leiden.{Bounds, precedes, first_of_two, pick_by, remaining_depots, next_reference, NoBetter, bounds_of, IsNext}
use Rattle.graph.proofs.Bounding.{picked_in, next_picked}

-- ---- the pick by a test that orders: whoever wins does not lose, and who loses to a loser loses

module _ (key : ℕ → ℕ) (wins : ℕ → ℕ → Bool) (one_way : (x y : ℕ) → wins y x ≡ true → wins x y ≡ false) (losers : (w y x : ℕ) → wins w y ≡ false → wins y x ≡ false → wins w x ≡ false) where
  never_self : (x : ℕ) → wins x x ≡ false
  never_self x = go (cases_Bool (wins x x))
    where
      go : (wins x x ≡ true) ⊎ (wins x x ≡ false) → wins x x ≡ false
      go (inl h) = one_way x x h
      go (inr h) = h

  -- none wins over the picked one, and it is the first of those over which it does not win
  picked_first : (xs : List ℕ) → rises_by key xs ≡ true → (r : ℕ) → pick_by wins xs ≡ some r → (w : ℕ) → Memᴰ w xs → (wins w r ≡ false) × (wins r w ≡ false → key r ≤ key w)
  unfolding pick_by first_of_two
  picked_first [] h r q w m = absurd (Memᴰ.not-nil m)
  picked_first (x ∷ xs) h r q w m = go (pick_by wins xs) refl (λ y e v n. picked_first xs (rises_tail key x xs h) y e v n) (Memᴰ.cases_cons m)
    where
      is_r : first_of_two wins x (pick_by wins xs) ≡ r
      is_r = cc

      Ih : Type 0
      Ih = (y : ℕ) → pick_by wins xs ≡ some y → (v : ℕ) → Memᴰ v xs → (wins v y ≡ false) × (wins y v ≡ false → key y ≤ key v)

      Goal : ℕ → Type 0
      Goal z = (wins w z ≡ false) × (wins z w ≡ false → key z ≤ key w)

      at_head : w ≡ x → Goal x
      at_head e = (subst (λ (v : ℕ). wins v x ≡ false) (sym e) (never_self x), λ k. le_of_eq (ap key (sym e)))

      choose : (y : ℕ) → pick_by wins xs ≡ some y → Ih → (w ≡ x) ⊎ Memᴰ w xs → (b : Bool) → wins y x ≡ b → Goal (cond b y x)
      choose y e ih (inl z) true b = (subst (λ (v : ℕ). wins v y ≡ false) (sym z) (one_way x y b), λ k. absurd (clash (subst (λ (v : ℕ). wins y v ≡ true) (sym z) b) k))
      choose y e ih (inr n) true b = ih y e w n
      choose y e ih (inl z) false b = at_head z
      choose y e ih (inr n) false b = (losers w y x (ih y e w n).0 b, λ k. le_of_lt (rises_head key x xs h w (in_memb w xs n)))

      go : (o : Option ℕ) → pick_by wins xs ≡ o → Ih → (w ≡ x) ⊎ Memᴰ w xs → Goal r
      go none e ih (inl z) = subst Goal (ap (first_of_two wins x) (sym e) ∙ is_r) (at_head z)
      go none e ih (inr n) = absurd (nothing xs e n)
        where
          nothing : (ys : List ℕ) → pick_by wins ys ≡ none → Memᴰ w ys → ⊥
          nothing [] k m = Memᴰ.not-nil m
          nothing (y ∷ ys) k m = let z : ◌≡◌ {A = ℕ} 0 1 = cc in absurd (lt_irrefl 0 (omega arith))
      go (some y) e ih o = subst Goal (ap (first_of_two wins x) (sym e) ∙ is_r) (choose y e ih o (wins y x) refl)

-- ---- the test of a turn

module _ (C : Chart) (B : Bounds) where
  -- w is not taken before v
  abbrev Behind : Bool → ℕ → ℕ → Type 0
  Behind turn w v = NoBetter turn (bounds_of turn B w) (bounds_of turn B v) × (bounds_of turn B w ≡ bounds_of turn B v → C.degree w ≤ C.degree v)

  or_false : (a b : Bool) → (a || b) ≡ false → (a ≡ false) × (b ≡ false)
  or_false true b e = (e, absurd (clash refl e))
  or_false false b e = (refl, e)

  or_none : {a b : Bool} → a ≡ false → b ≡ false → (a || b) ≡ false
  or_none {a} {b} p q = rw (p, q)

  -- the second part of the test, of equal bounds
  tie_of : (w v a b : ℕ) → (eqb a b && ltb (C.degree v) (C.degree w)) ≡ false → b ≡ a → C.degree w ≤ C.degree v
  tie_of w v a b h e = go (cases_Bool (ltb (C.degree v) (C.degree w)))
    where
      go : (ltb (C.degree v) (C.degree w) ≡ true) ⊎ (ltb (C.degree v) (C.degree w) ≡ false) → C.degree w ≤ C.degree v
      go (inl k) = absurd (clash (and_from _ _ (eq-eqb a b (sym e)) k) h)
      go (inr k) = ltb-false (C.degree v) (C.degree w) k

  no_tie : (w v a b : ℕ) → (b ≡ a → C.degree w ≤ C.degree v) → (eqb a b && ltb (C.degree v) (C.degree w)) ≡ false
  no_tie w v a b f = go (cases_Bool (eqb a b))
    where
      go : (eqb a b ≡ true) ⊎ (eqb a b ≡ false) → (eqb a b && ltb (C.degree v) (C.degree w)) ≡ false
      go (inl k) = rw (k, le-ltb (C.degree v) (C.degree w) (f (sym (eqb-true a b k))))
      go (inr k) = rw k

  behind : (turn : Bool) (w v : ℕ) → precedes turn C B w v ≡ false → Behind turn w v
  unfolding precedes
  behind true w v h =
      let p = or_false (ltb (B.high v) (B.high w)) (eqb (B.high v) (B.high w) && ltb (C.degree v) (C.degree w)) h in
      (ltb-false (B.high v) (B.high w) p.0, tie_of w v (B.high v) (B.high w) p.1)
  behind false w v h =
      let p = or_false (ltb (B.low w) (B.low v)) (eqb (B.low v) (B.low w) && ltb (C.degree v) (C.degree w)) h in
      (ltb-false (B.low w) (B.low v) p.0, tie_of w v (B.low v) (B.low w) p.1)

  not_before : (turn : Bool) (w v : ℕ) → Behind turn w v → precedes turn C B w v ≡ false
  unfolding precedes
  not_before true w v p = or_none (le-ltb (B.high v) (B.high w) p.0) (no_tie w v (B.high v) (B.high w) p.1)
  not_before false w v p = or_none (le-ltb (B.low w) (B.low v) p.0) (no_tie w v (B.low v) (B.low w) p.1)

  -- strictly better, or as good with a higher degree
  ahead : (turn : Bool) (y x : ℕ) → precedes turn C B y x ≡ true → Behind turn x y
  unfolding precedes
  ahead true y x h = go (or_cases (ltb (B.high x) (B.high y)) (eqb (B.high x) (B.high y) && ltb (C.degree x) (C.degree y)) h)
    where
      go : (ltb (B.high x) (B.high y) ≡ true) ⊎ ((eqb (B.high x) (B.high y) && ltb (C.degree x) (C.degree y)) ≡ true) → Behind true x y
      go (inl k) = let l : B.high x < B.high y = ltb-true (B.high x) (B.high y) k in (omega arith, λ e. absurd (lt_irrefl (B.high x) (omega arith)))
      go (inr k) =
          let p = and_parts (eqb (B.high x) (B.high y)) (ltb (C.degree x) (C.degree y)) k in
          let e : B.high x ≡ B.high y = eqb-true (B.high x) (B.high y) p.0 in
          let l : C.degree x < C.degree y = ltb-true (C.degree x) (C.degree y) p.1 in
          (omega arith, λ q. omega arith)
  ahead false y x h = go (or_cases (ltb (B.low y) (B.low x)) (eqb (B.low x) (B.low y) && ltb (C.degree x) (C.degree y)) h)
    where
      go : (ltb (B.low y) (B.low x) ≡ true) ⊎ ((eqb (B.low x) (B.low y) && ltb (C.degree x) (C.degree y)) ≡ true) → Behind false x y
      go (inl k) = let l : B.low y < B.low x = ltb-true (B.low y) (B.low x) k in (omega arith, λ e. absurd (lt_irrefl (B.low x) (omega arith)))
      go (inr k) =
          let p = and_parts (eqb (B.low x) (B.low y)) (ltb (C.degree x) (C.degree y)) k in
          let e : B.low x ≡ B.low y = eqb-true (B.low x) (B.low y) p.0 in
          let l : C.degree x < C.degree y = ltb-true (C.degree x) (C.degree y) p.1 in
          (omega arith, λ q. omega arith)

  chained : (turn : Bool) (w y x : ℕ) → Behind turn w y → Behind turn y x → Behind turn w x
  chained true w y x p q =
      let a : B.high w ≤ B.high y = p.0 in
      let b : B.high y ≤ B.high x = q.0 in
      (omega arith, λ e. let c : C.degree w ≤ C.degree y = p.1 (omega arith) in let d : C.degree y ≤ C.degree x = q.1 (omega arith) in omega arith)
  chained false w y x p q =
      let a : B.low y ≤ B.low w = p.0 in
      let b : B.low x ≤ B.low y = q.0 in
      (omega arith, λ e. let c : C.degree w ≤ C.degree y = p.1 (omega arith) in let d : C.degree y ≤ C.degree x = q.1 (omega arith) in omega arith)

  same_bound : (turn : Bool) (a b : ℕ) → a ≡ b → NoBetter turn b a
  same_bound true a b e = omega arith
  same_bound false a b e = omega arith

  -- THE NEXT REFERENCE IS THE ONE THAT THE RULE NAMES
  pub next_is : (key : ℕ → ℕ) → rises_by key C.depots ≡ true → (turn : Bool) (r : ℕ) → next_reference turn C B ≡ some r → IsNext key turn C B r
  unfolding remaining_depots
  next_is key up turn r q = record {
    depot = x.0;
    stays = not-true (B.has_left r) x.1;
    bound = λ w m l. (behind turn w r (won w m l).0).0;
    degree = λ w m l. (behind turn w r (won w m l).0).1;
    code = λ w m l e d. (won w m l).1 (not_before turn r w (same_bound turn (bounds_of turn B w) (bounds_of turn B r) e, λ k. omega arith));
  }
    where
      picked : pick_by (precedes turn C B) (remaining_depots C B) ≡ some r
      picked = next_picked C turn B r q

      x : Memᴰ r C.depots × (not (B.has_left r) ≡ true)
      x = filter_out (λ v. not (B.has_left v)) C.depots (picked_in (precedes turn C B) (remaining_depots C B) r picked)

      won : (w : ℕ) → Memᴰ w C.depots → B.has_left w ≡ false → (precedes turn C B w r ≡ false) × (precedes turn C B r w ≡ false → key r ≤ key w)
      won w m l =
          picked_first key (precedes turn C B) (λ a b h. not_before turn a b (ahead turn b a h)) (λ a b c h k. not_before turn a c (chained turn a b c (behind turn a b h) (behind turn b c k)))
          (remaining_depots C B) (rises_filter key (λ v. not (B.has_left v)) C.depots up) r picked w (filter_in (λ v. not (B.has_left v)) C.depots m (ap not l))
