-- THE ROUNDS' PICK is the depot that the rule names, over a list of rising keys: highest degree, then lowest code. Assumes nothing.
use mathlib.Core.Path.{◌≡◌, refl, sym, ap, ◌∙◌, subst}
use mathlib.Core.Logic.{◌⊎◌, inl, inr}
use mathlib.Core.Bool.{Bool, true, false, cond}
use mathlib.Core.List.Memᴰ
use mathlib.Core.List.{List, [], ◌∷◌, Memᴰ}
use mathlib.Core.Option.{Option, none, some}
use Prim.Native.Nat.{ℕ, ◌≤◌, ◌<◌}
use native.Mathlib.Nat.{le_of_eq, le_of_lt, le_antisymm, lt_irrefl}
use native.Mathlib.Omega.{arith}
use lib.Dec.{ltb}
use borrow.Author.Tests.{ltb-true, ltb-false}
use Rattle.lists.specs.Rising.{rises_by}
use Rattle.lists.proofs.Members.{in_memb}
use Rattle.lists.proofs.Rising.{rises_head, rises_tail, rises_one}
use Rattle.graph.specs.Chart.{Chart}
use Rattle.graph.specs.Rounds.{better, pick}
use Rattle.graph.specs.Pick.{IsPick}

module _ (C : Chart) where
  nothing : (xs : List ℕ) → pick C xs ≡ none → (w : ℕ) → Memᴰ w xs → ⊥
  unfolding pick
  nothing [] q w m = Memᴰ.not-nil m
  nothing (x ∷ xs) q w m = let z : ◌≡◌ {A = ℕ} 0 1 = cc in absurd (lt_irrefl 0 (omega arith))

  module _ (key : ℕ → ℕ) where
    -- the first of a list, and what was picked of the rest
    head_or_rest : (x : ℕ) (xs : List ℕ) → rises_by key (x ∷ xs) ≡ true → (o : Option ℕ) → pick C xs ≡ o → ((y : ℕ) → o ≡ some y → IsPick key C xs y) → IsPick key C (x ∷ xs) (better C x o)
    unfolding better
    head_or_rest x xs h none q ih = record {
      member = Memᴰ.head refl;
      degree = λ w m. (only w (Memᴰ.cases_cons m)).0;
      code = λ w m e. (only w (Memᴰ.cases_cons m)).1;
    }
      where
        only : (w : ℕ) → (w ≡ x) ⊎ Memᴰ w xs → (C.degree w ≤ C.degree x) × (key x ≤ key w)
        only w (inl e) = (le_of_eq (ap C.degree e), le_of_eq (ap key (sym e)))
        only w (inr n) = absurd (nothing xs q w n)
    head_or_rest x xs h (some y) q ih = go (ltb (C.degree x) (C.degree y)) refl (ih y refl)
      where
        go : (b : Bool) → ltb (C.degree x) (C.degree y) ≡ b → IsPick key C xs y → IsPick key C (x ∷ xs) (cond b y x)
        go true l p = record {
          member = Memᴰ.tail p.member;
          degree = λ w m. high w (Memᴰ.cases_cons m);
          code = λ w m e. low w e (Memᴰ.cases_cons m);
        }
          where
            above : C.degree x < C.degree y
            above = ltb-true (C.degree x) (C.degree y) l

            high : (w : ℕ) → (w ≡ x) ⊎ Memᴰ w xs → C.degree w ≤ C.degree y
            high w (inl k) = let d : C.degree w ≡ C.degree x = ap C.degree k in omega (arith, above)
            high w (inr n) = p.degree w n

            low : (w : ℕ) → C.degree w ≡ C.degree y → (w ≡ x) ⊎ Memᴰ w xs → key y ≤ key w
            low w e (inl k) = let d : C.degree w ≡ C.degree x = ap C.degree k in absurd (lt_irrefl (C.degree x) (omega (arith, above)))
            low w e (inr n) = p.code w n e
        go false l p = record {
          member = Memᴰ.head refl;
          degree = λ w m. high w (Memᴰ.cases_cons m);
          code = λ w m e. low w (Memᴰ.cases_cons m);
        }
          where
            high : (w : ℕ) → (w ≡ x) ⊎ Memᴰ w xs → C.degree w ≤ C.degree x
            high w (inl k) = le_of_eq (ap C.degree k)
            high w (inr n) = omega (arith, p.degree w n, ltb-false (C.degree x) (C.degree y) l)

            low : (w : ℕ) → (w ≡ x) ⊎ Memᴰ w xs → key x ≤ key w
            low w (inl k) = le_of_eq (ap key (sym k))
            low w (inr n) = le_of_lt (rises_head key x xs h w (in_memb w xs n))

    pub pick_is : (xs : List ℕ) → rises_by key xs ≡ true → (r : ℕ) → pick C xs ≡ some r → IsPick key C xs r
    unfolding pick
    pick_is [] h r q = let z : ◌≡◌ {A = ℕ} 0 1 = cc in absurd (lt_irrefl 0 (omega arith))
    pick_is (x ∷ xs) h r q =
        let e : better C x (pick C xs) ≡ r = cc in
        subst (λ (v : ℕ). IsPick key C (x ∷ xs) v) e (head_or_rest x xs h (pick C xs) refl (λ y k. pick_is xs (rises_tail key x xs h) y k))

    -- and no other depot is
    pub pick-only : (xs : List ℕ) → rises_by key xs ≡ true → (r : ℕ) → IsPick key C xs r → pick C xs ≡ some r
    pick-only xs h r p = go (pick C xs) refl
      where
        go : (o : Option ℕ) → pick C xs ≡ o → pick C xs ≡ some r
        go none q = absurd (nothing xs q r p.member)
        go (some y) q =
            let s = pick_is xs h y q in
            let d : C.degree y ≡ C.degree r = le_antisymm (p.degree y s.member) (s.degree r p.member) in
            let k : key y ≡ key r = le_antisymm (s.code r p.member (sym d)) (p.code y s.member d) in
            q ∙ ap some (rises_one key xs h y r (in_memb y xs s.member) (in_memb r xs p.member) k)
