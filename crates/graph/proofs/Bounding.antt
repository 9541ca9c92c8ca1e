-- THE LEIDEN METHOD IS RIGHT, over any finite metric space: its chain is the greatest eccentricity of a destination. Assumes nothing.
use mathlib.Core.Path.{◌≡◌, refl, sym, ap, ◌∙◌, subst}
use mathlib.Core.Logic.{◌⊎◌, inl, inr}
use mathlib.Core.Bool.{Bool, true, false, cond, not, ◌||◌}
use mathlib.Core.List.Memᴰ
use mathlib.Core.List.{List, [], ◌∷◌, ◌++◌, Memᴰ}
use mathlib.Core.Option.{Option, none, some}
use Prim.Native.Nat.{ℕ, zero, suc, ◌+◌, ◌-◌, ◌≤◌, ◌<◌, max, zero-le}
use native.Mathlib.Nat.{le_antisymm, le_trans, le_of_eq, lt_irrefl}
use native.Mathlib.Omega.{arith}
use lib.Dec.{eqb, leb}
use lib.ListN.{length}
use borrow.Author.Tests.{leb-true, eqb-true, eq-eqb, not-true}
use Rattle.lists.specs.Lists.{anyb, filterb, countb, memb}
use Rattle.std.proofs.lemmas.Bool.{cases_Bool, or_cases, or_left, or_right}
use Rattle.lists.proofs.Tests.{clash}
use Rattle.lists.proofs.Members.{filter_in, filter_out, memb_snoc}
use Rattle.lists.proofs.Counts.{max_ge, max_le_of, count_lt, count_le_length}
use Rattle.lists.proofs.Distinct.{IsCounted, counted_nil, counted_snoc}
use Rattle.graph.specs.Distance.{unreached}
use Rattle.graph.specs.Chart.{Chart, destinations, ecc, greatest_ecc}
use Rattle.graph.specs.Rounds.{reckon}
use Rattle.graph.specs.Leiden.{Bounds, unbounded, chain_low, chain_high, low_after, high_after, leaves, refer, precedes, first_of_two, pick_by, remaining_depots, next_reference, or_settled, refers, leiden}
use Rattle.graph.proofs.Metric.{IsMetric, ecc_ge, ecc_bound, ecc_small}
use Rattle.graph.proofs.Right.{greatest_ge, greatest_le, right_is_greatest, reckon_right}

-- ---- the pick

module _ (wins : ℕ → ℕ → Bool) where
  pub picked_in : (xs : List ℕ) (r : ℕ) → pick_by wins xs ≡ some r → Memᴰ r xs
  unfolding pick_by first_of_two
  picked_in [] r q = let z : ◌≡◌ {A = ℕ} 0 1 = cc in absurd (lt_irrefl 0 (omega arith))
  picked_in (x ∷ xs) r q = go (pick_by wins xs) refl (λ w h. picked_in xs w h)
    where
      is_r : first_of_two wins x (pick_by wins xs) ≡ r
      is_r = cc

      go : (o : Option ℕ) → pick_by wins xs ≡ o → ((w : ℕ) → pick_by wins xs ≡ some w → Memᴰ w xs) → Memᴰ r (x ∷ xs)
      go none h ih = Memᴰ.head (sym (ap (first_of_two wins x) (sym h) ∙ is_r))
      go (some w) h ih = at (wins w x) (ap (first_of_two wins x) (sym h) ∙ is_r)
        where
          at : (b : Bool) → cond b w x ≡ r → Memᴰ r (x ∷ xs)
          at true k = Memᴰ.tail (Memᴰ.cast (sym k) (ih w h))
          at false k = Memᴰ.head (sym k)

  pub picked_none : (xs : List ℕ) → pick_by wins xs ≡ none → (v : ℕ) → Memᴰ v xs → ⊥
  unfolding pick_by
  picked_none [] q v m = Memᴰ.not-nil m
  picked_none (x ∷ xs) q v m = let z : ◌≡◌ {A = ℕ} 0 1 = cc in absurd (lt_irrefl 0 (omega arith))

-- a next reference is the pick: the chain's bounds have not met
pub next_picked : (C : Chart) (turn : Bool) (B : Bounds) (r : ℕ) → next_reference turn C B ≡ some r → pick_by (precedes turn C B) (remaining_depots C B) ≡ some r
unfolding next_reference
next_picked C turn B r q = go (eqb (chain_low C B) (chain_high C B)) q
  where
    go : (t : Bool) → cond t none (pick_by (precedes turn C B) (remaining_depots C B)) ≡ some r → pick_by (precedes turn C B) (remaining_depots C B) ≡ some r
    go true k = let z : ◌≡◌ {A = ℕ} 0 1 = cc in absurd (lt_irrefl 0 (omega arith))
    go false k = k

-- ---- the bounds

-- the bounds hold; a destination that has left is no farther than the chain's lower bound; references are depots, none twice, that have left
pub record AreBounds (C : Chart) (B : Bounds) : Type 0 where
  pub at_least : (v : ℕ) → Memᴰ v C.depots → B.low v ≤ ecc C v
  pub at_most : (v : ℕ) → Memᴰ v C.depots → ecc C v ≤ B.high v
  pub gone : (v : ℕ) → C.is_destination v ≡ true → B.has_left v ≡ true → B.high v ≤ chain_low C B
  pub searched : (v : ℕ) → memb v B.references ≡ true → B.has_left v ≡ true
  pub inside : (v : ℕ) → memb v B.references ≡ true → Memᴰ v C.depots
  pub counted : IsCounted B.references

module _ (C : Chart) (metric : IsMetric C) where
  -- the bounds of a destination are at most the chain's
  low_le : (B : Bounds) (v : ℕ) → C.is_destination v ≡ true → B.low v ≤ chain_low C B
  unfolding chain_low destinations
  low_le B v t = max_ge B.low (filterb C.is_destination C.depots) (filter_in C.is_destination C.depots (metric.inside v t) t)

  low_most : (B : Bounds) (c : ℕ) → ((v : ℕ) → C.is_destination v ≡ true → Memᴰ v C.depots → B.low v ≤ c) → chain_low C B ≤ c
  unfolding chain_low destinations
  low_most B c h = max_le_of B.low (filterb C.is_destination C.depots) c (λ v m. let r = filter_out C.is_destination C.depots m in h v r.1 r.0)

  high_le : (B : Bounds) (v : ℕ) → C.is_destination v ≡ true → B.high v ≤ chain_high C B
  unfolding chain_high destinations
  high_le B v t = max_ge B.high (filterb C.is_destination C.depots) (filter_in C.is_destination C.depots (metric.inside v t) t)

  high_most : (B : Bounds) (c : ℕ) → ((v : ℕ) → C.is_destination v ≡ true → Memᴰ v C.depots → B.high v ≤ c) → chain_high C B ≤ c
  unfolding chain_high destinations
  high_most B c h = max_le_of B.high (filterb C.is_destination C.depots) c (λ v m. let r = filter_out C.is_destination C.depots m in h v r.1 r.0)

  module _ (B : Bounds) (I : AreBounds C B) where
    -- the chain lies between its bounds
    pub chain_low_lem : chain_low C B ≤ greatest_ecc C
    chain_low_lem = low_most B (greatest_ecc C) (λ v t m. le_trans (I.at_least v m) (greatest_ge C metric v t))

    pub chain_high_lem : greatest_ecc C ≤ chain_high C B
    chain_high_lem = greatest_le C metric (chain_high C B) (λ v t. le_trans (I.at_most v (metric.inside v t)) (high_le B v t))

    -- ---- one reference keeps the bounds

    module _ (r : ℕ) (mr : Memᴰ r C.depots) where
      -- what the reference r says of v from below: e(r) ≤ e(v) + d(v,r); and r is a destination at distance d(v,r)
      at_least_lem : (v : ℕ) → Memᴰ v C.depots → low_after C r B v ≤ ecc C v
      unfolding low_after
      at_least_lem v m = go (C.is_destination r) refl
        where
          go : (t : Bool) → C.is_destination r ≡ t → max (B.low v) (max (ecc C r - C.distance r v) (cond t (C.distance r v) 0)) ≤ ecc C v
          go true t =
              let a : B.low v ≤ ecc C v = I.at_least v m in
              let b : ecc C r ≤ ecc C v + C.distance v r = ecc_bound C metric v r m mr in
              let c : C.distance v r ≤ ecc C v = ecc_ge C metric v r t in
              let s : C.distance v r ≡ C.distance r v = metric.symmetric v r m mr in
              omega arith
          go false t =
              let a : B.low v ≤ ecc C v = I.at_least v m in
              let b : ecc C r ≤ ecc C v + C.distance v r = ecc_bound C metric v r m mr in
              let s : C.distance v r ≡ C.distance r v = metric.symmetric v r m mr in
              omega arith

      at_most_lem : (v : ℕ) → Memᴰ v C.depots → ecc C v ≤ high_after C r B v
      unfolding high_after
      at_most_lem v m =
          let a : ecc C v ≤ B.high v = I.at_most v m in
          let b : ecc C v ≤ ecc C r + C.distance r v = ecc_bound C metric r v mr m in
          omega arith

      -- after a search from r no destination's upper bound exceeds twice its eccentricity
      pub high_twice : (v : ℕ) → C.is_destination v ≡ true → high_after C r B v ≤ ecc C r + ecc C r
      unfolding high_after
      high_twice v t = let l : C.distance r v ≤ ecc C r = ecc_ge C metric r v t in omega arith

      low_grows : (v : ℕ) → B.low v ≤ low_after C r B v
      unfolding low_after
      low_grows v = omega arith

      high_falls : (v : ℕ) → high_after C r B v ≤ B.high v
      unfolding high_after
      high_falls v = omega arith

      -- both bounds of r become its eccentricity
      own_low : low_after C r B r ≡ ecc C r
      unfolding low_after
      own_low =
          let a : B.low r ≤ ecc C r = I.at_least r mr in
          let z : C.distance r r ≡ 0 = metric.self r mr in
          let f : max (B.low r) (max (ecc C r - C.distance r r) (cond (C.is_destination r) (C.distance r r) 0)) ≤ ecc C r = at_least_lem r mr in
          omega arith

      own_high : high_after C r B r ≡ ecc C r
      unfolding high_after
      own_high =
          let a : ecc C r ≤ B.high r = I.at_most r mr in
          let z : C.distance r r ≡ 0 = metric.self r mr in
          omega arith

      low_is : (v : ℕ) → (refer C r B).low v ≡ low_after C r B v
      unfolding refer
      low_is v = refl

      high_is : (v : ℕ) → (refer C r B).high v ≡ high_after C r B v
      unfolding refer
      high_is v = refl

      left_is : (v : ℕ) → (refer C r B).has_left v ≡ (B.has_left v || leaves (chain_low C (refer C r B)) (low_after C r B v) (high_after C r B v))
      unfolding refer chain_low
      left_is v = refl

      chain_grows : chain_low C B ≤ chain_low C (refer C r B)
      chain_grows = low_most B (chain_low C (refer C r B)) (λ v t m. le_trans (low_grows v) (le_trans (le_of_eq (sym (low_is v))) (low_le (refer C r B) v t)))

      -- r itself leaves
      pub own_left : (refer C r B).has_left r ≡ true
      unfolding leaves
      own_left = left_is r ∙ or_right (B.has_left r) _ (or_right (leb (high_after C r B r) (chain_low C (refer C r B))) _ (eq-eqb (low_after C r B r) (high_after C r B r) (own_low ∙ sym own_high)))

      pub still_left : (v : ℕ) → B.has_left v ≡ true → (refer C r B).has_left v ≡ true
      still_left v h = left_is v ∙ or_left _ (leaves (chain_low C (refer C r B)) (low_after C r B v) (high_after C r B v)) h

      -- a destination that has left cannot raise the chain
      gone_after : (v : ℕ) → C.is_destination v ≡ true → (refer C r B).has_left v ≡ true → high_after C r B v ≤ chain_low C (refer C r B)
      unfolding leaves
      gone_after v t h = go (or_cases (B.has_left v) (leaves (chain_low C (refer C r B)) (low_after C r B v) (high_after C r B v)) (sym (left_is v) ∙ h))
        where
          now : (leb (high_after C r B v) (chain_low C (refer C r B)) ≡ true) ⊎ (eqb (low_after C r B v) (high_after C r B v) ≡ true) → high_after C r B v ≤ chain_low C (refer C r B)
          now (inl k) = leb-true (high_after C r B v) (chain_low C (refer C r B)) k
          now (inr k) =
              le_trans (le_of_eq (sym (eqb-true (low_after C r B v) (high_after C r B v) k)))
              (le_trans (le_of_eq (sym (low_is v))) (low_le (refer C r B) v t))

          go : (B.has_left v ≡ true) ⊎ ((leb (high_after C r B v) (chain_low C (refer C r B)) || eqb (low_after C r B v) (high_after C r B v)) ≡ true) → high_after C r B v ≤ chain_low C (refer C r B)
          go (inl k) = le_trans (high_falls v) (le_trans (I.gone v t k) chain_grows)
          go (inr k) = now (or_cases (leb (high_after C r B v) (chain_low C (refer C r B))) (eqb (low_after C r B v) (high_after C r B v)) k)

      refs_is : (refer C r B).references ≡ B.references ++ (r ∷ [])
      unfolding refer
      refs_is = refl

      was : (v : ℕ) → memb v (refer C r B).references ≡ true → (memb v B.references ≡ true) ⊎ (v ≡ r)
      was v h = go (or_cases (memb v B.references) (eqb v r) (sym (memb_snoc v B.references r) ∙ ap (memb v) (sym refs_is) ∙ h))
        where
          go : (memb v B.references ≡ true) ⊎ (eqb v r ≡ true) → (memb v B.references ≡ true) ⊎ (v ≡ r)
          go (inl k) = inl k
          go (inr k) = inr (eqb-true v r k)

      pub refer_keeps : B.has_left r ≡ false → AreBounds C (refer C r B)
      refer_keeps stays = record {
        at_least = λ v m. le_trans (le_of_eq (low_is v)) (at_least_lem v m);
        at_most = λ v m. le_trans (at_most_lem v m) (le_of_eq (sym (high_is v)));
        gone = λ v t h. le_trans (le_of_eq (high_is v)) (gone_after v t h);
        searched = λ v h. out v (was v h);
        inside = λ v h. ins v (was v h);
        counted = subst IsCounted (sym refs_is) (counted_snoc B.references r I.counted (new (cases_Bool (memb r B.references))));
      }
        where
          out : (v : ℕ) → (memb v B.references ≡ true) ⊎ (v ≡ r) → (refer C r B).has_left v ≡ true
          out v (inl h) = still_left v (I.searched v h)
          out v (inr e) = subst (λ (w : ℕ). (refer C r B).has_left w ≡ true) (sym e) own_left

          ins : (v : ℕ) → (memb v B.references ≡ true) ⊎ (v ≡ r) → Memᴰ v C.depots
          ins v (inl h) = I.inside v h
          ins v (inr e) = Memᴰ.cast e mr

          new : (memb r B.references ≡ true) ⊎ (memb r B.references ≡ false) → memb r B.references ≡ false
          new (inl h) = absurd (clash (I.searched r h) stays)
          new (inr h) = h

  pub start_bounds : AreBounds C unbounded
  unfolding unbounded memb anyb
  start_bounds = record {
    at_least = λ v m. zero-le;
    at_most = λ v m. let l : ecc C v < unreached = ecc_small C metric v m in omega arith;
    gone = λ v t h. absurd (clash h refl);
    searched = λ v h. absurd (clash h refl);
    inside = λ v h. absurd (clash h refl);
    counted = counted_nil;
  }

  -- ---- the end

  unfoldable pub remaining_count : Bounds → ℕ
  remaining_count B = countb (λ v. not (B.has_left v)) C.depots

  -- where none remains the chain's bounds meet
  none_met : (B : Bounds) → AreBounds C B → ((v : ℕ) → Memᴰ v C.depots → B.has_left v ≡ true) → chain_low C B ≡ chain_high C B
  none_met B I all = le_antisymm (le_trans (chain_low_lem B I) (chain_high_lem B I)) (high_most B (chain_low C B) (λ v t m. I.gone v t (all v m)))

  module _ (turn : Bool) (B : Bounds) where
    -- the next reference is a depot that remains
    pub next_stays : (r : ℕ) → next_reference turn C B ≡ some r → Memᴰ r C.depots × (B.has_left r ≡ false)
    unfolding remaining_depots
    next_stays r q =
        let x = filter_out (λ v. not (B.has_left v)) C.depots (picked_in (precedes turn C B) (remaining_depots C B) r (next_picked C turn B r q)) in
        (x.0, not-true (B.has_left r) x.1)

    -- where there is none the chain's bounds have met
    pub next_none : AreBounds C B → next_reference turn C B ≡ none → chain_low C B ≡ chain_high C B
    unfolding next_reference remaining_depots
    next_none I q = go (cases_Bool (eqb (chain_low C B) (chain_high C B)))
      where
        go : (eqb (chain_low C B) (chain_high C B) ≡ true) ⊎ (eqb (chain_low C B) (chain_high C B) ≡ false) → chain_low C B ≡ chain_high C B
        go (inl e) = eqb-true (chain_low C B) (chain_high C B) e
        go (inr e) = none_met B I (λ v m. at v m (cases_Bool (B.has_left v)))
          where
            at : (v : ℕ) → Memᴰ v C.depots → (B.has_left v ≡ true) ⊎ (B.has_left v ≡ false) → B.has_left v ≡ true
            at v m (inl h) = h
            at v m (inr h) = absurd (picked_none (precedes turn C B) (remaining_depots C B) (ap (λ (b : Bool). cond b none (pick_by (precedes turn C B) (remaining_depots C B))) (sym e) ∙ q) v (filter_in (λ v. not (B.has_left v)) C.depots m (ap not h)))

  -- each reference takes a depot away: the measure of the loop
  pub refer_fewer : (B : Bounds) → AreBounds C B → (r : ℕ) → Memᴰ r C.depots → B.has_left r ≡ false → remaining_count (refer C r B) < remaining_count B
  unfolding remaining_count
  refer_fewer B I r m s =
      count_lt (λ v. not ((refer C r B).has_left v)) (λ v. not (B.has_left v)) C.depots (λ v n h. still v h (cases_Bool (B.has_left v))) m (ap not (own_left B I r m)) (ap not s)
    where
      still : (v : ℕ) → not ((refer C r B).has_left v) ≡ true → (B.has_left v ≡ true) ⊎ (B.has_left v ≡ false) → not (B.has_left v) ≡ true
      still v h (inl e) = absurd (clash h (ap not (still_left B I r m v e)))
      still v h (inr e) = ap not e

  pub refers_right : (k : ℕ) (turn : Bool) (B : Bounds) → AreBounds C B → remaining_count B ≤ k
      → AreBounds C (refers C k turn B) × (chain_low C (refers C k turn B) ≡ chain_high C (refers C k turn B))
  unfolding refers
  refers_right zero turn B I l = (I, none_met B I (λ v m. all v m (cases_Bool (B.has_left v))))
    where
      all : (v : ℕ) → Memᴰ v C.depots → (B.has_left v ≡ true) ⊎ (B.has_left v ≡ false) → B.has_left v ≡ true
      all v m (inl h) = h
      all v m (inr h) = let f : remaining_count (refer C v B) < remaining_count B = refer_fewer B I v m h in absurd (lt_irrefl 0 (omega arith))
  refers_right (suc k) turn B I l = go (next_reference turn C B) refl (refers_right k (not turn))
    where
      Right : Bounds → Type 0
      Right X = AreBounds C X × (chain_low C X ≡ chain_high C X)

      go : (o : Option ℕ) → next_reference turn C B ≡ o → ((X : Bounds) → AreBounds C X → remaining_count X ≤ k → Right (refers C k (not turn) X)) → Right (or_settled o B (λ r. refers C k (not turn) (refer C r B)))
      go none q ih = (I, next_none turn B I q)
      go (some r) q ih =
          let x = next_stays turn B r q in
          let f : remaining_count (refer C r B) < remaining_count B = refer_fewer B I r x.0 x.1 in
          ih (refer C r B) (refer_keeps B I r x.0 x.1) (omega arith)

  -- ---- THE METHOD IS RIGHT

  leiden_settled : AreBounds C (leiden C) × (chain_low C (leiden C) ≡ chain_high C (leiden C))
  unfolding leiden remaining_count
  leiden_settled = refers_right (length C.depots) true unbounded start_bounds (count_le_length (λ v. not (unbounded.has_left v)) C.depots)

  pub leiden_bounds : AreBounds C (leiden C)
  leiden_bounds = leiden_settled.0

  pub leiden_met : chain_low C (leiden C) ≡ chain_high C (leiden C)
  leiden_met = leiden_settled.1

  pub leiden_chain : chain_low C (leiden C) ≡ greatest_ecc C
  leiden_chain =
      let a : chain_low C (leiden C) ≤ greatest_ecc C = chain_low_lem (leiden C) leiden_bounds in
      let b : greatest_ecc C ≤ chain_high C (leiden C) = chain_high_lem (leiden C) leiden_bounds in
      let e : chain_low C (leiden C) ≡ chain_high C (leiden C) = leiden_met in
      omega arith

  -- the first engine's
  pub leiden-reckon : chain_low C (leiden C) ≡ (reckon C).candidate
  leiden-reckon = leiden_chain ∙ sym (right_is_greatest C metric (reckon C).candidate (reckon C).pairs (reckon_right C metric))

-- ---- a loop over references, a round at a time: for the loop of the code

pub refers-stop : (C : Chart) (k : ℕ) (turn : Bool) (B : Bounds) → next_reference turn C B ≡ none → refers C k turn B ≡ B
unfolding refers
refers-stop C zero turn B e = refl
refers-stop C (suc k) turn B e = rw e

pub refers_go : (C : Chart) (k : ℕ) (turn : Bool) (B : Bounds) (r : ℕ) → next_reference turn C B ≡ some r → refers C (suc k) turn B ≡ refers C k (not turn) (refer C r B)
unfolding refers
refers_go C k turn B r e = rw e

-- once the chain's bounds have met no reference follows
pub met_stops : (C : Chart) (turn : Bool) (B : Bounds) → chain_low C B ≡ chain_high C B → next_reference turn C B ≡ none
unfolding next_reference
met_stops C turn B e = rw (eq-eqb (chain_low C B) (chain_high C B) e)

-- so the method ends by its own rule: however many references it might still take, it takes none
pub leiden_ended : (C : Chart) → IsMetric C → (k : ℕ) (turn : Bool) → refers C k turn (leiden C) ≡ leiden C
leiden_ended C metric k turn = refers-stop C k turn (leiden C) (met_stops C turn (leiden C) (leiden_met C metric))
