-- ROUNDS AND UPDATES DO NOT LOOK AT NAMES, over charts: two that differ by a renaming of the depots, their order kept, have the same steps up to it.
-- Assumes nothing.
use mathlib.Core.Path.{◌≡◌, refl, sym, ap, ap₂, ◌∙◌, subst}
use mathlib.Core.Logic.{◌⊎◌, inl, inr}
use mathlib.Core.Bool.{Bool, true, false, cond, not, ◌&&◌, ◌||◌}
use mathlib.Core.List.{List, [], ◌∷◌, ◌++◌, Memᴰ}
use mathlib.Core.Option.{Option, none, some}
use Prim.Native.Nat.{ℕ, zero, suc, ◌+◌, ◌≤◌, ◌<◌, max, min, zero-le}
use native.Mathlib.Nat.{add_comm, le_antisymm, lt_irrefl, le_of_lt}
use native.Mathlib.Omega.{arith}
use lib.Dec.{eqb, ltb}
use lib.ListN.{length}
use borrow.Author.Tests.{ltb-true, ltb-false, lt-ltb, le-ltb, eqb-true, eq-eqb, ne_eqb}
use Rattle.std.proofs.lemmas.Bool.{cases_Bool, or_cases, or_left, cases_lt, cases_eq}
use Rattle.lists.specs.Lists.{filterb, anyb, mapl, max_of}
use Rattle.lists.proofs.Tests.{same_test}
use Rattle.lists.proofs.Members.{any_intro, any_elim, filter_out}
use Rattle.lists.proofs.Counts.{max_ge, max_le_of}
use Rattle.lists.proofs.Fills.{length_mapl}
use Rattle.lists.proofs.Renamed.{map_append, map_filter, map_any, map-max}
use Rattle.graph.specs.Distance.{unreached}
use Rattle.graph.specs.Chart.{Chart, destinations, ecc, greatest_ecc, Pairs, own_pairs}
use Rattle.graph.specs.Rounds.{Status, waiting, skipped, searched, is_waiting, State, offer, raise, join_pairs, round, better, pick, remaining, or_stop, rounds, start, reckon}
use Rattle.graph.specs.Opening.{Opened, via, staying_pairs, any_pair, shrunk_candidate, searched_once, grows_by, kept_by, opening}
use Rattle.graph.specs.Linking.{via_either, searched_twice, unskipped_round, first_two, linking}
use Rattle.graph.specs.Closing.{change_from, closing}
use Rattle.graph.specs.Renaming.{either, Like}
use Rattle.graph.proofs.Metric.{IsMetric, ecc_small}
use Rattle.graph.proofs.Rounds.{pick_in_lem}
use Rattle.graph.proofs.Tested.{both_by_test, both_by_tests}

-- D is C with each depot v named f v, in the same order
pub record IsRenamed (C D : Chart) (f : ℕ → ℕ) : Type 0 where
  pub depots : D.depots ≡ mapl f C.depots
  pub destination : (v : ℕ) → Memᴰ v C.depots → D.is_destination (f v) ≡ C.is_destination v
  pub degree : (v : ℕ) → Memᴰ v C.depots → D.degree (f v) ≡ C.degree v
  pub distance : (u v : ℕ) → Memᴰ u C.depots → Memᴰ v C.depots → D.distance (f u) (f v) ≡ C.distance u v
  pub apart : (u v : ℕ) → Memᴰ u C.depots → Memᴰ v C.depots → f u ≡ f v → u ≡ v

-- ---- pairs in either order

or_both : (p q x y : Bool) → ((p || x) || (q || y)) ≡ ((p || q) || (x || y))
or_both true q x y = refl
or_both false true true y = refl
or_both false true false y = refl
or_both false false x y = refl

apart_or : (u v : ℕ) → (ltb u v || ltb v u) ≡ not (eqb u v)
apart_or u v = go (cases_eq u v) (cases_lt u v)
  where
    go : (u ≡ v) ⊎ (u ≡ v → ⊥) → (u < v) ⊎ (v ≤ u) → (ltb u v || ltb v u) ≡ not (eqb u v)
    go (inl q) o = rw (eq-eqb u v q, le-ltb u v (omega arith), le-ltb v u (omega arith))
    go (inr n) (inl l) = rw (ne_eqb u v n, lt-ltb u v l)
    go (inr n) (inr l) = rw (ne_eqb u v n, le-ltb u v l, lt-ltb v u (omega (arith, n)))

-- a test that holds both ways round or not at all, on one of the two orders
pub either_rising : (u v : ℕ) (p q x : Bool) → ((ltb u v && p && q && x) || (ltb v u && q && p && x)) ≡ (not (eqb u v) && (p && (q && x)))
either_rising u v p q x = bools (ltb u v) (ltb v u) p q x ∙ ap (λ (b : Bool). b && (p && (q && x))) (apart_or u v)
  where
    bools : (a b p q x : Bool) → ((a && p && q && x) || (b && q && p && x)) ≡ ((a || b) && (p && (q && x)))
    bools true b true true true = refl
    bools true true true true false = refl
    bools true false true true false = refl
    bools true true true false x = refl
    bools true false true false x = refl
    bools true true false q x = left q
      where
        left : (q : Bool) → ((true && false && q && x) || (true && q && false && x)) ≡ ((true || true) && (false && (q && x)))
        left true = refl
        left false = refl
    bools true false false q x = refl
    bools false true true true x = refl
    bools false true true false x = refl
    bools false true false true x = refl
    bools false true false false x = refl
    bools false false p q x = refl

or_swap : (a b : Bool) → (a || b) ≡ (b || a)
or_swap true true = refl
or_swap true false = refl
or_swap false true = refl
or_swap false false = refl

either_own : (E : Chart) (r e u v : ℕ) → either (own_pairs E r e) u v
    ≡ (not (eqb u v) && (E.is_destination u && (E.is_destination v && ((eqb u r && eqb (E.distance r v) e) || (eqb v r && eqb (E.distance r u) e)))))
unfolding own_pairs
either_own E r e u v =
    ap (λ (b : Bool). (ltb u v && E.is_destination u && E.is_destination v && ((eqb u r && eqb (E.distance r v) e) || (eqb v r && eqb (E.distance r u) e))) || (ltb v u && E.is_destination v && E.is_destination u && b))
    (or_swap (eqb v r && eqb (E.distance r u) e) (eqb u r && eqb (E.distance r v) e))
    ∙ either_rising u v (E.is_destination u) (E.is_destination v) ((eqb u r && eqb (E.distance r v) e) || (eqb v r && eqb (E.distance r u) e))

-- pairs sifted by a symmetric test
either_sifted : (p q : Bool) {x y : Bool} → y ≡ x → ((p && x) || (q && y)) ≡ ((p || q) && x)
either_sifted p q {x} e = ap (λ (b : Bool). (p && x) || (q && b)) e ∙ go p q x
  where
    go : (p q x : Bool) → ((p && x) || (q && x)) ≡ ((p || q) && x)
    go true true true = refl
    go true true false = refl
    go true false true = refl
    go true false false = refl
    go false q x = refl

-- some pair of P is a pair of either order, and the other way round
any_either : (vs : List ℕ) (P : Pairs) → any_pair vs P ≡ any_pair vs (either P)
unfolding any_pair
any_either vs P = same_test (any_pair vs P) (any_pair vs (either P)) to from
  where
    row : Pairs → ℕ → Bool
    row Q u = anyb (λ v. Q u v) vs

    to : any_pair vs P ≡ true → any_pair vs (either P) ≡ true
    to h =
        let x = any_elim (row P) vs h in
        let y = any_elim (λ v. P x.0 v) vs x.2 in
        any_intro (row (either P)) vs x.1 (any_intro (λ v. either P x.0 v) vs y.1 (or_left _ (P y.0 x.0) y.2))

    from : any_pair vs (either P) ≡ true → any_pair vs P ≡ true
    from h =
        let x = any_elim (row (either P)) vs h in
        let y = any_elim (λ v. either P x.0 v) vs x.2 in
        go x.0 y.0 x.1 y.1 (or_cases (P x.0 y.0) (P y.0 x.0) y.2)
      where
        go : (u v : ℕ) → Memᴰ u vs → Memᴰ v vs → (P u v ≡ true) ⊎ (P v u ≡ true) → any_pair vs P ≡ true
        go u v mu mv (inl h) = any_intro (row P) vs mu (any_intro (λ w. P u w) vs mv h)
        go u v mu mv (inr h) = any_intro (row P) vs mv (any_intro (λ w. P v w) vs mu h)

-- the greatest way of a pair
greatest_way : List ℕ → (ℕ → ℕ → ℕ) → Pairs → ℕ
greatest_way vs w P = max_of (λ u. max_of (λ v. cond (P u v) (w u v) 0) vs) vs

way_ge : (vs : List ℕ) (w : ℕ → ℕ → ℕ) (P : Pairs) (u v : ℕ) → Memᴰ u vs → Memᴰ v vs → cond (P u v) (w u v) 0 ≤ greatest_way vs w P
unfolding greatest_way
way_ge vs w P u v mu mv =
    let a : cond (P u v) (w u v) 0 ≤ max_of (λ t. cond (P u t) (w u t) 0) vs = max_ge (λ t. cond (P u t) (w u t) 0) vs mv in
    let b : max_of (λ t. cond (P u t) (w u t) 0) vs ≤ max_of (λ s. max_of (λ t. cond (P s t) (w s t) 0) vs) vs = max_ge (λ s. max_of (λ t. cond (P s t) (w s t) 0) vs) vs mu in
    omega arith

way_le : (vs : List ℕ) (w : ℕ → ℕ → ℕ) (P : Pairs) (b : ℕ) → ((u v : ℕ) → Memᴰ u vs → Memᴰ v vs → P u v ≡ true → w u v ≤ b) → greatest_way vs w P ≤ b
unfolding greatest_way
way_le vs w P b h = max_le_of (λ u. max_of (λ v. cond (P u v) (w u v) 0) vs) vs b (λ u mu. max_le_of (λ v. cond (P u v) (w u v) 0) vs b (λ v mv. go u v mu mv (P u v) refl))
  where
    go : (u v : ℕ) → Memᴰ u vs → Memᴰ v vs → (t : Bool) → P u v ≡ t → cond t (w u v) 0 ≤ b
    go u v mu mv true e = h u v mu mv e
    go u v mu mv false e = zero-le

way_either : (vs : List ℕ) (w : ℕ → ℕ → ℕ) (P : Pairs) → ((u v : ℕ) → w u v ≡ w v u) → greatest_way vs w P ≡ greatest_way vs w (either P)
way_either vs w P turn = le_antisymm (way_le vs w P (greatest_way vs w (either P)) up) (way_le vs w (either P) (greatest_way vs w P) down)
  where
    at : (Q : Pairs) (u v : ℕ) → Memᴰ u vs → Memᴰ v vs → Q u v ≡ true → w u v ≤ greatest_way vs w Q
    at Q u v mu mv h = let e : cond (Q u v) (w u v) 0 ≡ w u v = ap (λ (b : Bool). cond b (w u v) 0) h in omega (arith, way_ge vs w Q u v mu mv)

    up : (u v : ℕ) → Memᴰ u vs → Memᴰ v vs → P u v ≡ true → w u v ≤ greatest_way vs w (either P)
    up u v mu mv h = at (either P) u v mu mv (or_left _ (P v u) h)

    down : (u v : ℕ) → Memᴰ u vs → Memᴰ v vs → either P u v ≡ true → w u v ≤ greatest_way vs w P
    down u v mu mv h = go (or_cases (P u v) (P v u) h)
      where
        go : (P u v ≡ true) ⊎ (P v u ≡ true) → w u v ≤ greatest_way vs w P
        go (inl k) = at P u v mu mv k
        go (inr k) = omega (arith, at P v u mv mu k, turn u v)

via_turn : (E : Chart) (a u v : ℕ) → via E a u v ≡ via E a v u
unfolding via
via_turn E a u v = add_comm (E.distance a u) (E.distance a v)

both_turn : (E : Chart) (a b u v : ℕ) → via_either E a b u v ≡ via_either E a b v u
unfolding via_either
both_turn E a b u v = rw (via_turn E a u v, via_turn E b u v)

module _ (C D : Chart) (f : ℕ → ℕ) (re : IsRenamed C D f) where
  abbrev In : ℕ → Type 0
  In v = Memᴰ v C.depots

  abbrev Same : Pairs → Pairs → Type 0
  Same P Q = (u v : ℕ) → In u → In v → either Q (f u) (f v) ≡ either P u v

  same_eqb : (u v : ℕ) → In u → In v → eqb (f u) (f v) ≡ eqb u v
  same_eqb u v mu mv = same_test (eqb (f u) (f v)) (eqb u v) (λ h. eq-eqb u v (re.apart u v mu mv (eqb-true (f u) (f v) h))) (λ h. eq-eqb (f u) (f v) (ap f (eqb-true u v h)))

  same_number : length D.depots ≡ length C.depots
  same_number = ap length re.depots ∙ length_mapl f C.depots

  -- ---- eccentricities

  pub destinations_renamed : destinations D ≡ mapl f (destinations C)
  unfolding destinations
  destinations_renamed = ap (filterb D.is_destination) re.depots ∙ map_filter f C.is_destination D.is_destination C.depots re.destination

  pub in_destinations : (v : ℕ) → Memᴰ v (destinations C) → In v
  unfolding destinations
  in_destinations v m = (filter_out C.is_destination C.depots m).0

  pub ecc_renamed : (u : ℕ) → In u → ecc D (f u) ≡ ecc C u
  unfolding ecc
  ecc_renamed u mu =
      ap (max_of (D.distance (f u))) destinations_renamed
      ∙ map-max f (C.distance u) (D.distance (f u)) (destinations C) (λ v m. re.distance u v mu (in_destinations v m))

  pub greatest_renamed : greatest_ecc D ≡ greatest_ecc C
  unfolding greatest_ecc
  greatest_renamed = ap (max_of (ecc D)) destinations_renamed ∙ map-max f (ecc C) (ecc D) (destinations C) (λ v m. ecc_renamed v (in_destinations v m))

  -- ---- pairs

  own_renamed : (r e : ℕ) → In r → Same (own_pairs C r e) (own_pairs D (f r) e)
  own_renamed r e mr u v mu mv =
      either_own D (f r) e (f u) (f v)
      ∙ rw (same_eqb u v mu mv, re.destination u mu, re.destination v mv, same_eqb u r mu mr, same_eqb v r mv mr, re.distance r v mr mv, re.distance r u mr mu) refl
      ∙ sym (either_own C r e u v)

  or_renamed : (P Q X Y : Pairs) → Same P Q → Same X Y → Same (λ u v. P u v || X u v) (λ u v. Q u v || Y u v)
  or_renamed P Q X Y h k u v mu mv =
      or_both (Q (f u) (f v)) (Q (f v) (f u)) (Y (f u) (f v)) (Y (f v) (f u))
      ∙ ap₂ (λ (x y : Bool). x || y) (h u v mu mv) (k u v mu mv)
      ∙ sym (or_both (P u v) (P v u) (X u v) (X v u))

  -- pairs that stay by a way
  sift_renamed : (w w' : ℕ → ℕ → ℕ) (m : ℕ) (P Q : Pairs) → ((u v : ℕ) → w u v ≡ w v u) → ((u v : ℕ) → w' u v ≡ w' v u) → ((u v : ℕ) → In u → In v → w' (f u) (f v) ≡ w u v)
      → Same P Q → Same (λ u v. P u v && not (ltb (w u v) m)) (λ u v. Q u v && not (ltb (w' u v) m))
  sift_renamed w w' m P Q t t' same h u v mu mv =
      either_sifted (Q (f u) (f v)) (Q (f v) (f u)) (ap (λ (n : ℕ). not (ltb n m)) (t' (f v) (f u)))
      ∙ ap₂ (λ (b : Bool) (n : ℕ). b && not (ltb n m)) (h u v mu mv) (same u v mu mv)
      ∙ sym (either_sifted (P u v) (P v u) (ap (λ (n : ℕ). not (ltb n m)) (t v u)))

  any_renamed : (P Q : Pairs) → Same P Q → any_pair D.depots Q ≡ any_pair C.depots P
  unfolding any_pair
  any_renamed P Q h =
      any_either D.depots Q
      ∙ ap (λ (vs : List ℕ). any_pair vs (either Q)) re.depots
      ∙ map_any f (λ u. anyb (λ v. either P u v) C.depots) (λ u. anyb (λ v. either Q u v) (mapl f C.depots)) C.depots
      (λ u mu. map_any f (λ v. either P u v) (λ v. either Q (f u) v) C.depots (λ v mv. h u v mu mv))
      ∙ sym (any_either C.depots P)

  way_renamed : (w w' : ℕ → ℕ → ℕ) (P Q : Pairs) → ((u v : ℕ) → w u v ≡ w v u) → ((u v : ℕ) → w' u v ≡ w' v u) → ((u v : ℕ) → In u → In v → w' (f u) (f v) ≡ w u v)
      → Same P Q → greatest_way D.depots w' Q ≡ greatest_way C.depots w P
  unfolding greatest_way
  way_renamed w w' P Q t t' same h =
      way_either D.depots w' Q t'
      ∙ ap (λ (vs : List ℕ). greatest_way vs w' (either Q)) re.depots
      ∙ map-max f (λ u. max_of (λ v. cond (either P u v) (w u v) 0) C.depots) (λ u. max_of (λ v. cond (either Q u v) (w' u v) 0) (mapl f C.depots)) C.depots
      (λ u mu. map-max f (λ v. cond (either P u v) (w u v) 0) (λ v. cond (either Q (f u) v) (w' (f u) v) 0) C.depots
      (λ v mv. ap₂ (λ (b : Bool) (n : ℕ). cond b n 0) (h u v mu mv) (same u v mu mv)))
      ∙ sym (way_either C.depots w P t)

  via_renamed : (a u v : ℕ) → In a → In u → In v → via D (f a) (f u) (f v) ≡ via C a u v
  unfolding via
  via_renamed a u v ma mu mv = ap₂ (λ (x y : ℕ). x + y) (re.distance a u ma mu) (re.distance a v ma mv)

  both_renamed : (a b u v : ℕ) → In a → In b → In u → In v → via_either D (f a) (f b) (f u) (f v) ≡ via_either C a b u v
  unfolding via_either
  both_renamed a b u v ma mb mu mv = rw (via_renamed a u v ma mu mv, via_renamed b u v mb mu mv)

  -- ---- where a depot stands

  waiting_like : (s t : Status) → Like f s t → is_waiting t ≡ is_waiting s
  waiting_like (waiting b g) (waiting b' g') l = refl
  waiting_like (skipped b g) (skipped b' g') l = refl
  waiting_like (searched e) (searched e') l = refl
  waiting_like (waiting b g) (skipped b' g') l = absurd l
  waiting_like (waiting b g) (searched e) l = absurd l
  waiting_like (skipped b g) (waiting b' g') l = absurd l
  waiting_like (skipped b g) (searched e) l = absurd l
  waiting_like (searched e) (waiting b g) l = absurd l
  waiting_like (searched e) (skipped b g) l = absurd l

  offer_like : (c r x : ℕ) → c ≤ unreached → (s t : Status) → Like f s t → Like f (offer c r x s) (offer c (f r) x t)
  unfolding offer
  offer_like c r x low (waiting b g) (waiting b' g') l = subst (λ (n : ℕ). Like f (offer c r x (waiting b g)) (offer c (f r) x (waiting n g'))) l.0 (go (cases_Bool (ltb x b)) (cases_Bool (ltb (min x b) c)) l.1)
    where
      go : (ltb x b ≡ true) ⊎ (ltb x b ≡ false) → (ltb (min x b) c ≡ true) ⊎ (ltb (min x b) c ≡ false) → (b ≡ unreached) ⊎ (f g ≡ g') → Like f (offer c r x (waiting b g)) (offer c (f r) x (waiting b g'))
      go (inl p) (inl q) o = rw (p, q) (refl, refl)
      go (inl p) (inr q) o = rw (p, q) (refl, inr refl)
      go (inr p) (inl q) (inl z) = let a : b ≤ x = ltb-false x b p in let k : min x b < c = ltb-true (min x b) c q in absurd (lt_irrefl c (omega (arith, a, k, z, low)))
      go (inr p) (inl q) (inr e) = rw (p, q) (refl, e)
      go (inr p) (inr q) (inl z) = let a : b ≤ x = ltb-false x b p in rw (p, q) (refl, inl (omega (arith, a, z)))
      go (inr p) (inr q) (inr e) = rw (p, q) (refl, inr e)
  offer_like c r x low (skipped b g) (skipped b' g') l = l
  offer_like c r x low (searched e) (searched e') l = l
  offer_like c r x low (waiting b g) (skipped b' g') l = absurd l
  offer_like c r x low (waiting b g) (searched e) l = absurd l
  offer_like c r x low (skipped b g) (waiting b' g') l = absurd l
  offer_like c r x low (skipped b g) (searched e) l = absurd l
  offer_like c r x low (searched e) (waiting b g) l = absurd l
  offer_like c r x low (searched e) (skipped b g) l = absurd l

  -- ---- states

  pub record Alike (S R : State) : Type 0 where
    pub candidate : R.candidate ≡ S.candidate
    pub low : S.candidate ≤ unreached
    pub references : R.references ≡ mapl f S.references
    pub status : (v : ℕ) → In v → Like f (S.status v) (R.status (f v))
    pub pairs : Same S.pairs R.pairs

  -- what an update leaves
  pub record OpenedAlike (o p : Opened) : Type 0 where
    pub change : p.change ≡ o.change
    pub final : Alike o.final p.final

  map_one : (r : ℕ) → mapl f (r ∷ []) ≡ f r ∷ []
  unfolding mapl
  map_one r = refl

  module _ (metric : IsMetric C) where
    raise_renamed : (r c : ℕ) → In r → raise D (f r) (ecc D (f r)) c ≡ raise C r (ecc C r) c
    unfolding raise
    raise_renamed r c mr = rw (re.destination r mr, ecc_renamed r mr)

    raise_low : (r c : ℕ) → In r → c ≤ unreached → raise C r (ecc C r) c ≤ unreached
    unfolding raise
    raise_low r c mr l = go (C.is_destination r)
      where
        go : (b : Bool) → cond b (max (ecc C r) c) c ≤ unreached
        go true = let e : ecc C r < unreached = ecc_small C metric r mr in omega arith
        go false = l

    join_renamed : (r c : ℕ) (P Q : Pairs) → In r → Same P Q → Same (join_pairs C r (ecc C r) c P) (join_pairs D (f r) (ecc D (f r)) c Q)
    unfolding join_pairs
    join_renamed r c P Q mr h u v mu mv = rw (re.destination r mr, ecc_renamed r mr) (go (C.is_destination r && ltb c (ecc C r)) (eqb (ecc C r) c && not (eqb (ecc C r) 0)))
      where
        own : Same (own_pairs C r (ecc C r)) (own_pairs D (f r) (ecc C r))
        own = own_renamed r (ecc C r) mr

        go : (a b : Bool) → either (cond a (own_pairs D (f r) (ecc C r)) (cond b (λ x y. Q x y || own_pairs D (f r) (ecc C r) x y) Q)) (f u) (f v)
            ≡ either (cond a (own_pairs C r (ecc C r)) (cond b (λ x y. P x y || own_pairs C r (ecc C r) x y) P)) u v
        go true b = own u v mu mv
        go false true = or_renamed P Q (own_pairs C r (ecc C r)) (own_pairs D (f r) (ecc C r)) h own u v mu mv
        go false false = h u v mu mv

    -- the status of v after a round from r whose bounds are compared with c
    after_like : (r c : ℕ) → In r → c ≤ unreached → (v : ℕ) → In v → (s t : Status) → Like f s t
        → Like f (cond (eqb v r) (searched (ecc C r)) (offer c r (ecc C r + C.distance r v) s))
        (cond (eqb (f v) (f r)) (searched (ecc D (f r))) (offer c (f r) (ecc D (f r) + D.distance (f r) (f v)) t))
    after_like r c mr low v mv s t l = rw (same_eqb v r mv mr, ecc_renamed r mr, re.distance r v mr mv) (at (eqb v r))
      where
        at : (b : Bool) → Like f (cond b (searched (ecc C r)) (offer c r (ecc C r + C.distance r v) s)) (cond b (searched (ecc C r)) (offer c (f r) (ecc C r + C.distance r v) t))
        at true = refl
        at false = offer_like c r (ecc C r + C.distance r v) low s t l

    more_references : (r : ℕ) (xs ys : List ℕ) → ys ≡ mapl f xs → ys ++ (f r ∷ []) ≡ mapl f (xs ++ (r ∷ []))
    more_references r xs ys e = ap₂ (λ (x y : List ℕ). x ++ y) e (sym (map_one r)) ∙ sym (map_append f xs (r ∷ []))

    -- ONE ROUND, with skipping and without
    pub round_alike : (r : ℕ) → In r → (S R : State) → Alike S R → Alike (round C r S) (round D (f r) R)
    unfolding round
    round_alike r mr S R A = record {
      candidate = same_candidate;
      low = raise_low r S.candidate mr A.low;
      references = more_references r S.references R.references A.references;
      status = λ v mv.
          subst (λ (c : ℕ). Like f ((round C r S).status v) (cond (eqb (f v) (f r)) (searched (ecc D (f r))) (offer c (f r) (ecc D (f r) + D.distance (f r) (f v)) (R.status (f v))))) (sym same_candidate)
          (after_like r (raise C r (ecc C r) S.candidate) mr (raise_low r S.candidate mr A.low) v mv (S.status v) (R.status (f v)) (A.status v mv));
      pairs = λ u v mu mv. rw A.candidate (join_renamed r S.candidate S.pairs R.pairs mr A.pairs u v mu mv);
    }
      where
        same_candidate : raise D (f r) (ecc D (f r)) R.candidate ≡ raise C r (ecc C r) S.candidate
        same_candidate = ap (raise D (f r) (ecc D (f r))) A.candidate ∙ raise_renamed r S.candidate mr

    unskipped_alike : (r : ℕ) → In r → (S R : State) → Alike S R → Alike (unskipped_round C r S) (unskipped_round D (f r) R)
    unfolding unskipped_round
    unskipped_alike r mr S R A = record {
      candidate = ap (raise D (f r) (ecc D (f r))) A.candidate ∙ raise_renamed r S.candidate mr;
      low = raise_low r S.candidate mr A.low;
      references = more_references r S.references R.references A.references;
      status = λ v mv. after_like r 0 mr zero-le v mv (S.status v) (R.status (f v)) (A.status v mv);
      pairs = λ u v mu mv. rw A.candidate (join_renamed r S.candidate S.pairs R.pairs mr A.pairs u v mu mv);
    }

    -- ---- the pick

    optional : Option ℕ → Option ℕ
    optional none = none
    optional (some v) = some (f v)

    pick_renamed : (xs : List ℕ) → ((v : ℕ) → Memᴰ v xs → In v) → pick D (mapl f xs) ≡ optional (pick C xs)
    unfolding pick better mapl optional
    pick_renamed [] h = refl
    pick_renamed (x ∷ xs) h = ap (λ (o : Option ℕ). some (better D (f x) o)) (pick_renamed xs (λ v m. h v (Memᴰ.tail m))) ∙ go (pick C xs) refl
      where
        go : (o : Option ℕ) → pick C xs ≡ o → some (better D (f x) (optional o)) ≡ optional (some (better C x o))
        go none q = refl
        go (some w) q = rw (re.degree x (h x (Memᴰ.head refl)), re.degree w (h w (Memᴰ.tail (pick_in_lem C xs w q)))) (at (ltb (C.degree x) (C.degree w)))
          where
            at : (b : Bool) → some (cond b (f w) (f x)) ≡ some (f (cond b w x))
            at true = refl
            at false = refl

    next_renamed : (S R : State) → Alike S R → pick D (remaining D R) ≡ optional (pick C (remaining C S))
    unfolding remaining
    next_renamed S R A =
        ap (λ (l : List ℕ). pick D (filterb (λ v. is_waiting (R.status v)) l)) re.depots
        ∙ ap (pick D) (map_filter f (λ v. is_waiting (S.status v)) (λ v. is_waiting (R.status v)) C.depots (λ v m. waiting_like (S.status v) (R.status (f v)) (A.status v m)))
        ∙ pick_renamed (filterb (λ v. is_waiting (S.status v)) C.depots) (λ v m. (filter_out (λ v. is_waiting (S.status v)) C.depots m).0)

    -- ROUNDS
    rounds-by : (k : ℕ) (S R : State) → Alike S R → Alike (rounds C k S) (rounds D k R)
    unfolding rounds remaining optional or_stop
    rounds-by zero S R A = A
    rounds-by (suc k) S R A = rw (next_renamed S R A) (go (pick C (remaining C S)) refl (rounds-by k))
      where
        go : (o : Option ℕ) → pick C (remaining C S) ≡ o → ((X Y : State) → Alike X Y → Alike (rounds C k X) (rounds D k Y))
            → Alike (or_stop o S (λ r. rounds C k (round C r S))) (or_stop (optional o) R (λ r. rounds D k (round D r R)))
        go none q ih = A
        go (some r) q ih =
            let mr = (filter_out (λ v. is_waiting (S.status v)) C.depots (pick_in_lem C (remaining C S) r q)).0 in
            ih (round C r S) (round D (f r) R) (round_alike r mr S R A)

    pub rounds_alike : (S R : State) → Alike S R → Alike (rounds C (length C.depots) S) (rounds D (length D.depots) R)
    rounds_alike S R A = subst (λ (n : ℕ). Alike (rounds C (length C.depots) S) (rounds D n R)) (sym same_number) (rounds-by (length C.depots) S R A)

    start_alike : (c c' : ℕ) → c' ≡ c → c ≤ unreached → Alike (start c) (start c')
    unfolding start mapl
    start_alike c c' e l = record { candidate = e; low = l; references = refl; status = λ v m. (refl, inl refl); pairs = λ u v mu mv. refl }

    -- THE WHOLE RECKONING
    pub reckon_alike : Alike (reckon C) (reckon D)
    unfolding reckon
    reckon_alike = rounds_alike (start 0) (start 0) (start_alike 0 0 refl zero-le)

    pub closing_alike : (m : ℕ) → OpenedAlike (closing C m) (closing D m)
    unfolding closing
    closing_alike m = record { change = ap (change_from m) reckon_alike.candidate; final = reckon_alike }

    -- ---- AN OPENING

    module _ (a m : ℕ) (ma : In a) (low : m ≤ unreached) (P Q : Pairs) (h : Same P Q) where
      staying_renamed : Same (staying_pairs (via C a) m P) (staying_pairs (via D (f a)) m Q)
      unfolding staying_pairs
      staying_renamed = sift_renamed (via C a) (via D (f a)) m P Q (via_turn C a) (via_turn D (f a)) (λ u v mu mv. via_renamed a u v ma mu mv) h

      shrunk_renamed : shrunk_candidate D.depots (via D (f a)) m Q ≡ shrunk_candidate C.depots (via C a) m P
      unfolding shrunk_candidate greatest_way
      shrunk_renamed =
          way_renamed (λ u v. min m (via C a u v)) (λ u v. min m (via D (f a) u v)) P Q (λ u v. ap (min m) (via_turn C a u v)) (λ u v. ap (min m) (via_turn D (f a) u v))
          (λ u v mu mv. ap (min m) (via_renamed a u v ma mu mv)) h

      shrunk_low : shrunk_candidate C.depots (via C a) m P ≤ unreached
      unfolding shrunk_candidate greatest_way
      shrunk_low = omega (arith, way_le C.depots (λ u v. min m (via C a u v)) P m (λ u v mu mv t. omega arith), low)

      once_alike : (c c' : ℕ) (X Y : Pairs) → c' ≡ c → c ≤ unreached → Same X Y → Alike (searched_once C a c X) (searched_once D (f a) c' Y)
      unfolding searched_once
      once_alike c c' X Y e l k = record {
        candidate = e;
        low = l;
        references = sym (map_one a);
        status = λ v mv. rw (same_eqb v a mv ma, ecc_renamed a ma) (at v (eqb v a));
        pairs = k;
      }
        where
          at : (v : ℕ) (b : Bool) → Like f (cond b (searched (ecc C a)) (waiting unreached 0)) (cond b (searched (ecc C a)) (waiting unreached 0))
          at v true = refl
          at v false = (refl, inl refl)

      grows_alike : grows_by D (f a) m ≡ grows_by C a m
      unfolding grows_by
      grows_alike = rw (re.destination a ma, ecc_renamed a ma)

      kept_alike : kept_by D (f a) m ≡ kept_by C a m
      unfolding kept_by
      kept_alike = rw (re.destination a ma, ecc_renamed a ma)

      stays_alike : any_pair D.depots (staying_pairs (via D (f a)) m Q) ≡ any_pair C.depots (staying_pairs (via C a) m P)
      stays_alike = any_renamed (staying_pairs (via C a) m P) (staying_pairs (via D (f a)) m Q) staying_renamed

      pub opening_alike : OpenedAlike (opening C a m P) (opening D (f a) m Q)
      unfolding opening
      opening_alike =
          let S = start (shrunk_candidate C.depots (via C a) m P) in
          let R = start (shrunk_candidate D.depots (via D (f a)) m Q) in
          rw (grows_alike, kept_alike, stays_alike)
          (both_by_tests OpenedAlike (grows_by C a m) (kept_by C a m) (any_pair C.depots (staying_pairs (via C a) m P))
          record {
            change = refl;
            final = once_alike (ecc C a) (ecc D (f a)) (own_pairs C a (ecc C a)) (own_pairs D (f a) (ecc D (f a))) (ecc_renamed a ma) (le_of_lt (ecc_small C metric a ma))
                (λ u v mu mv. ap (λ (n : ℕ). either (own_pairs D (f a) n) (f u) (f v)) (ecc_renamed a ma) ∙ own_renamed a (ecc C a) ma u v mu mv);
          }
          record {
            change = refl;
            final = once_alike m m (λ u v. staying_pairs (via C a) m P u v || own_pairs C a m u v) (λ u v. staying_pairs (via D (f a)) m Q u v || own_pairs D (f a) m u v) refl low
                (or_renamed (staying_pairs (via C a) m P) (staying_pairs (via D (f a)) m Q) (own_pairs C a m) (own_pairs D (f a) m) staying_renamed (own_renamed a m ma));
          }
          record { change = refl; final = once_alike m m (staying_pairs (via C a) m P) (staying_pairs (via D (f a)) m Q) refl low staying_renamed }
          record {
            change = refl;
            final = rounds_alike (round C a S) (round D (f a) R)
                (round_alike a ma S R (start_alike (shrunk_candidate C.depots (via C a) m P) (shrunk_candidate D.depots (via D (f a)) m Q) shrunk_renamed shrunk_low));
          })

    -- ---- A LINK

    module _ (a b m : ℕ) (ma : In a) (mb : In b) (low : m ≤ unreached) (P Q : Pairs) (h : Same P Q) where
      left_renamed : Same (staying_pairs (via_either C a b) m P) (staying_pairs (via_either D (f a) (f b)) m Q)
      unfolding staying_pairs
      left_renamed =
          sift_renamed (via_either C a b) (via_either D (f a) (f b)) m P Q (both_turn C a b) (both_turn D (f a) (f b)) (λ u v mu mv. both_renamed a b u v ma mb mu mv) h

      link_renamed : shrunk_candidate D.depots (via_either D (f a) (f b)) m Q ≡ shrunk_candidate C.depots (via_either C a b) m P
      unfolding shrunk_candidate greatest_way
      link_renamed =
          way_renamed (λ u v. min m (via_either C a b u v)) (λ u v. min m (via_either D (f a) (f b) u v)) P Q (λ u v. ap (min m) (both_turn C a b u v)) (λ u v. ap (min m) (both_turn D (f a) (f b) u v))
          (λ u v mu mv. ap (min m) (both_renamed a b u v ma mb mu mv)) h

      link_low : shrunk_candidate C.depots (via_either C a b) m P ≤ unreached
      unfolding shrunk_candidate greatest_way
      link_low = omega (arith, way_le C.depots (λ u v. min m (via_either C a b u v)) P m (λ u v mu mv t. omega arith), low)

      twice_alike : (X Y : Pairs) → Same X Y → Alike (searched_twice C a b m X) (searched_twice D (f a) (f b) m Y)
      unfolding searched_twice mapl
      twice_alike X Y k = record {
        candidate = refl;
        low = low;
        references = refl;
        status = λ v mv. rw (same_eqb v a mv ma, same_eqb v b mv mb, ecc_renamed a ma, ecc_renamed b mb) (at v (eqb v a) (eqb v b));
        pairs = k;
      }
        where
          at : (v : ℕ) (s t : Bool) → Like f (cond s (searched (ecc C a)) (cond t (searched (ecc C b)) (waiting unreached 0))) (cond s (searched (ecc C a)) (cond t (searched (ecc C b)) (waiting unreached 0)))
          at v true t = refl
          at v false true = refl
          at v false false = (refl, inl refl)

      two_alike : Alike (first_two C a b (shrunk_candidate C.depots (via_either C a b) m P)) (first_two D (f a) (f b) (shrunk_candidate D.depots (via_either D (f a) (f b)) m Q))
      unfolding first_two
      two_alike =
          let S = start (shrunk_candidate C.depots (via_either C a b) m P) in
          let R = start (shrunk_candidate D.depots (via_either D (f a) (f b)) m Q) in
          let A = start_alike (shrunk_candidate C.depots (via_either C a b) m P) (shrunk_candidate D.depots (via_either D (f a) (f b)) m Q) link_renamed link_low in
          round_alike b mb (unskipped_round C a S) (unskipped_round D (f a) R) (unskipped_alike a ma S R A)

      pub linking_alike : OpenedAlike (linking C a b m P) (linking D (f a) (f b) m Q)
      unfolding linking
      linking_alike =
          rw (any_renamed (staying_pairs (via_either C a b) m P) (staying_pairs (via_either D (f a) (f b)) m Q) left_renamed)
          (both_by_test OpenedAlike (any_pair C.depots (staying_pairs (via_either C a b) m P) || eqb m 0)
          record { change = refl; final = twice_alike (staying_pairs (via_either C a b) m P) (staying_pairs (via_either D (f a) (f b)) m Q) left_renamed }
          record {
            change = refl;
            final = rounds_alike (first_two C a b (shrunk_candidate C.depots (via_either C a b) m P)) (first_two D (f a) (f b) (shrunk_candidate D.depots (via_either D (f a) (f b)) m Q))
                two_alike;
          })
