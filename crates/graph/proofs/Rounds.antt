-- THE ROUNDS END RIGHT, over any finite metric space: nothing remains, and candidate, pairs and cover are right. Assumes nothing.
use mathlib.Core.Path.{◌≡◌, refl, sym, ap, ◌∙◌}
use mathlib.Core.Logic.{◌⊎◌, inl, inr}
use mathlib.Core.Bool.{Bool, true, false, cond}
use mathlib.Core.List.Memᴰ
use mathlib.Core.List.{List, [], ◌∷◌, Memᴰ}
use mathlib.Core.Option.{Option, none, some}
use Prim.Native.Nat.{ℕ, zero, suc, ◌+◌, ◌≤◌, ◌<◌}
use native.Mathlib.Nat.{lt_irrefl}
use native.Mathlib.Omega.{arith}
use lib.Dec.{ltb}
use borrow.Author.Tests.{lt-ltb}
use Rattle.std.proofs.lemmas.Bool.{cases_Bool}
use Rattle.lists.specs.Lists.{anyb, countb, memb}
use Rattle.lists.proofs.Tests.{clash}
use Rattle.lists.proofs.Members.{filter_in, filter_out}
use Rattle.lists.proofs.Counts.{count_lt, count-zero, count_none}
use Rattle.lists.proofs.Distinct.{counted_nil}
use Rattle.graph.specs.Distance.{unreached}
use Rattle.graph.specs.Chart.{Chart, ecc}
use Rattle.graph.specs.Rounds.{Status, waiting, skipped, searched, is_waiting, State, round, better, pick, remaining, or_stop, rounds, start}
use Rattle.graph.proofs.Metric.{IsMetric, ecc_ge, ecc_small}
use Rattle.graph.proofs.Round.{Fine, Invariant, round_keeps, round_still, round-done}

-- ---- the pick

module _ (C : Chart) where
  pub pick_in_lem : (xs : List ℕ) (r : ℕ) → pick C xs ≡ some r → Memᴰ r xs
  unfolding pick better
  pick_in_lem [] r q = let z : ◌≡◌ {A = ℕ} 0 1 = cc in absurd (lt_irrefl 0 (omega arith))
  pick_in_lem (x ∷ xs) r q = go (pick C xs) refl (λ w h. pick_in_lem xs w h)
    where
      is_r : better C x (pick C xs) ≡ r
      is_r = cc

      go : (o : Option ℕ) → pick C xs ≡ o → ((w : ℕ) → pick C xs ≡ some w → Memᴰ w xs) → Memᴰ r (x ∷ xs)
      go none h ih = Memᴰ.head (sym (ap (better C x) (sym h) ∙ is_r))
      go (some w) h ih = at (ltb (C.degree x) (C.degree w)) (ap (better C x) (sym h) ∙ is_r)
        where
          at : (b : Bool) → cond b w x ≡ r → Memᴰ r (x ∷ xs)
          at true k = Memᴰ.tail (Memᴰ.cast (sym k) (ih w h))
          at false k = Memᴰ.head (sym k)

  pub pick-none : (xs : List ℕ) → pick C xs ≡ none → (v : ℕ) → Memᴰ v xs → ⊥
  unfolding pick
  pick-none [] q v m = Memᴰ.not-nil m
  pick-none (x ∷ xs) q v m = let z : ◌≡◌ {A = ℕ} 0 1 = cc in absurd (lt_irrefl 0 (omega arith))

module _ (C : Chart) (metric : IsMetric C) where
  -- ---- the rounds

  unfoldable pub waiting_count : State → ℕ
  waiting_count S = countb (λ v. is_waiting (S.status v)) C.depots

  module _ (top : ℕ) (most : (v : ℕ) → C.is_destination v ≡ true → ecc C v ≤ top) (top_small : top ≤ unreached) where
    pub rounds_right : (k : ℕ) (S : State) → Invariant C metric top S → waiting_count S ≤ k → Invariant C metric top (rounds C k S) × (waiting_count (rounds C k S) ≡ 0)
    unfolding rounds waiting_count
    rounds_right zero S I l = (I, omega arith)
    rounds_right (suc k) S I l = go (pick C (remaining C S)) refl (rounds_right k)
      where
        none_left : pick C (remaining C S) ≡ none → waiting_count S ≡ 0
        none_left q = count_none (λ v. is_waiting (S.status v)) C.depots (λ v m. at v m (cases_Bool (is_waiting (S.status v))))
          where
            at : (v : ℕ) → Memᴰ v C.depots → (is_waiting (S.status v) ≡ true) ⊎ (is_waiting (S.status v) ≡ false) → is_waiting (S.status v) ≡ false
            at v m (inl h) = absurd (pick-none C (remaining C S) q v (filter_in (λ v. is_waiting (S.status v)) C.depots m h))
            at v m (inr h) = h

        fresh : (r : ℕ) → Memᴰ r C.depots → is_waiting (S.status r) ≡ true → memb r S.references ≡ false
        fresh r m h = at (S.status r) h (I.fine r m)
          where
            at : (s : Status) → is_waiting s ≡ true → Fine C metric S.candidate S.references r s → memb r S.references ≡ false
            at (waiting b g) w f = f.0
            at (skipped b g) w f = f.0
            at (searched e) w f = absurd (clash w refl)

        fewer : (r : ℕ) → Memᴰ r C.depots → is_waiting (S.status r) ≡ true → waiting_count (round C r S) < waiting_count S
        fewer r m h =
            count_lt (λ v. is_waiting ((round C r S).status v)) (λ v. is_waiting (S.status v)) C.depots (λ v n k. round_still C metric S r m top I most top_small (fresh r m h) v k) m (round-done C metric S r m top I most top_small (fresh r m h)) h

        go : (o : Option ℕ) → pick C (remaining C S) ≡ o → ((S' : State) → Invariant C metric top S' → waiting_count S' ≤ k → Invariant C metric top (rounds C k S') × (waiting_count (rounds C k S') ≡ 0))
            → Invariant C metric top (or_stop o S (λ r. rounds C k (round C r S))) × (waiting_count (or_stop o S (λ r. rounds C k (round C r S))) ≡ 0)
        go none q ih = (I, none_left q)
        go (some r) q ih =
            let x = filter_out (λ v. is_waiting (S.status v)) C.depots (pick_in_lem C (remaining C S) r q) in
            let f : waiting_count (round C r S) < waiting_count S = fewer r x.0 x.1 in
            ih (round C r S) (round_keeps C metric S r x.0 top I most top_small (fresh r x.0 x.1)) (omega arith)

    -- ---- at the end

    -- every depot has been searched or skipped
    pub ended : (S : State) → waiting_count S ≡ 0 → (v : ℕ) → Memᴰ v C.depots → is_waiting (S.status v) ≡ false
    unfolding waiting_count
    ended S z v m = count-zero (λ v. is_waiting (S.status v)) C.depots z m

    -- the candidate is at least each destination's eccentricity
    pub final_ge : (S : State) → Invariant C metric top S → waiting_count S ≡ 0 → (v : ℕ) → C.is_destination v ≡ true → ecc C v ≤ S.candidate
    final_ge S I z v t = go (S.status v) (ended S z v (metric.inside v t)) (I.fine v (metric.inside v t))
      where
        go : (s : Status) → is_waiting s ≡ false → Fine C metric S.candidate S.references v s → ecc C v ≤ S.candidate
        go (waiting b g) w f = absurd (clash refl w)
        go (skipped b g) w f = let p : ecc C v ≤ b = f.1 in let q : b < S.candidate = f.3 in omega arith
        go (searched e) w f = f.2 t

    -- both ends of a pair at the candidate's distance have been searched
    final_hit : (S : State) → Invariant C metric top S → waiting_count S ≡ 0 → (u v : ℕ) → C.is_destination u ≡ true → C.is_destination v ≡ true → C.distance u v ≡ S.candidate → memb u S.references ≡ true
    final_hit S I z u v tu tv q = go (S.status u) (ended S z u (metric.inside u tu)) (I.fine u (metric.inside u tu))
      where
        go : (s : Status) → is_waiting s ≡ false → Fine C metric S.candidate S.references u s → memb u S.references ≡ true
        go (waiting b g) w f = absurd (clash refl w)
        go (skipped b g) w f =
            let p : ecc C u ≤ b = f.1 in
            let l : b < S.candidate = f.3 in
            let m : C.distance u v ≤ ecc C u = ecc_ge C metric u v tv in
            absurd (lt_irrefl b (omega arith))
        go (searched e) w f = f.0

    -- THE PAIRS ARE RIGHT: all u < v among the destinations at the candidate's distance, if that is not 0
    pub final_pair : (S : State) → Invariant C metric top S → waiting_count S ≡ 0 → (u v : ℕ) → u < v → C.is_destination u ≡ true → C.is_destination v ≡ true → C.distance u v ≡ S.candidate → 0 < S.candidate → S.pairs u v ≡ true
    final_pair S I z u v b tu tv q p =
        I.pair u v record { before = lt-ltb u v b; first = tu; second = tv; far = q; positive = p; hit = inl (final_hit S I z u v tu tv q) }

    -- THE COVER: an unsearched depot was skipped by a searched one
    pub final_cover : (S : State) → Invariant C metric top S → waiting_count S ≡ 0 → (v : ℕ) → Memᴰ v C.depots → memb v S.references ≡ false
        → (g : ℕ) × (memb g S.references ≡ true) × (ecc C g + C.distance g v < S.candidate)
    final_cover S I z v m n = go (S.status v) (ended S z v m) (I.fine v m)
      where
        go : (s : Status) → is_waiting s ≡ false → Fine C metric S.candidate S.references v s → (g : ℕ) × (memb g S.references ≡ true) × (ecc C g + C.distance g v < S.candidate)
        go (waiting b g) w f = absurd (clash refl w)
        go (skipped b g) w f = let q : b ≡ ecc C g + C.distance g v = f.2.1 in let l : b < S.candidate = f.3 in (g, f.2.0, omega arith)
        go (searched e) w f = absurd (clash f.0 n)

    -- the start
    pub start_fine : (c : ℕ) → c ≤ top → Invariant C metric top (start c)
    unfolding start memb anyb
    start_fine c l = record {
      bounded = l;
      fine = λ v m. (refl, (let p : ecc C v < unreached = ecc_small C metric v m in omega arith), inl refl);
      counted = counted_nil;
      searched_inside = λ v h. absurd (clash h refl);
      is_pair = λ u v h. absurd (clash h refl);
      pair = λ u v p. none_hit p.hit;
    }
      where
        none_hit : {A : Type 0} → (false ≡ true) ⊎ (false ≡ true) → A
        none_hit (inl h) = absurd (clash h refl)
        none_hit (inr h) = absurd (clash h refl)
