-- The four ways in which an opening ends, each by the tests that the code makes. Assumes nothing.
use mathlib.Core.Path.{◌≡◌, refl, sym, ap, ◌∙◌}
use mathlib.Core.Logic.{◌⊎◌, inl, inr, ◌≢◌}
use mathlib.Core.Bool.{Bool, true, false, cond, not, ◌&&◌, ◌||◌}
use mathlib.Core.List.{List}
use Prim.Native.Nat.{ℕ, ◌≤◌, ◌<◌, zero-le}
use native.Mathlib.Nat.{le_refl, lt_irrefl}
use native.Mathlib.Omega.{arith}
use lib.Dec.{T, eqb, ltb}
use lib.ListN.{length}
use borrow.Author.Tests.{eqb-true, eq-eqb, ne_eqb, ltb-true, lt-ltb, le-ltb}
use Rattle.std.proofs.lemmas.Bool.{cases_Bool, and_parts, or_cases, cases_eq}
use Rattle.lists.specs.Lists.{overwrite}
use Rattle.lists.proofs.Tests.{true→t}
use Rattle.graph.specs.Network.{Network, delivers}
use Rattle.graph.specs.Distance.{dist}
use Rattle.graph.specs.Chart.{Pairs, chart, ecc, own_pairs}
use Rattle.graph.specs.Rounds.{join_pairs, round, rounds, start}
use Rattle.graph.specs.Opening.{opening, grows_by, kept_by, staying_pairs, any_pair, via}
use Rattle.graph.specs.Correct.{IsNet}
use Rattle.graph.proofs.Charts.{chart_metric, depot_in}
use Rattle.graph.proofs.Delivers.{delivers_open}
use Rattle.graph.proofs.Yards.{own_none}
use Rattle.rows.specs.Rows.{table_bit, encode_table}
use Rattle.map.specs.Room.{Tables, Lent, lent}
use Rattle.layers.specs.Layers.{searched, search_leaves, search_table}
use Rattle.map.specs.Memory.{Shape, IsShape, places}
use Rattle.map.proofs.Theorems.{network_open_below}
use Rattle.outcome.specs.declared.Change.TheVariants.{Grew, Kept, Shrank}
use Rattle.pairs.specs.Pairs.{Tally, tally, tally_of, pairs_with, settle_of}
use Rattle.stale_pairs.specs.Stale.{dropped, way_by, drop_of}
use Rattle.pairs.proofs.Tallies.{tally_ext}
use Rattle.targets.specs.Reach.{Reached}
use Rattle.rounds.specs.Leaves.{Ran, ran, ran_by}
use Rattle.rounds.specs.Workspace.{reach_in}
use Rattle.rounds.specs.Targets.{target_network, AreTargets}
use Rattle.rounds.proofs.Holding.{leaves_over}
use Rattle.rounds.proofs.Reaching.{table_is, table_spans}
use Rattle.rounds.proofs.Pairing.{own_pairs_lem, settle_is}
use Rattle.insertion.specs.Figured.{Figured, figured, figured_by}
use Rattle.bounds.specs.Once.{Marked, marking}
use Rattle.insertion.specs.Steps.{mark_once_in, Joined, joined, join_of, StandsIn, HoldsSearch}
use Rattle.insertion.proofs.Once.{once_leaves}
use Rattle.insertion.proofs.Dropping.{way_by_search, left_is, candidate_is, none_left, some_left}
use Rattle.insertion.proofs.Shrinking.{pairs_over, figured_over}

-- ---- the search

-- over the tables T₀ it leaves T₁, which are then the tables Y, and says R of a
module _ (K : Shape) (shape : IsShape K) (members targets links : List ℕ) (are : AreTargets K.words members targets) (a d : ℕ) (T₀ T₁ Y : Tables)
    (net : IsNet (target_network K.words members targets links)) (o : T ((target_network K.words members targets links).is_open a))
    (found : searched d T₁ ≡ search_table K.words links a T₀) where
  abbrev H : Network
  H = target_network K.words members targets links

  left_is_search : T₁ ≡ search_leaves K.words H a T₀
  left_is_search = (table_is K.words members targets links net are a o T₀ shape.most found).1

  -- it stands in the tables
  pub search_stands : (row : List ℕ) {R : Reached} → R ≡ reach_in K.words targets a d Y row → Y ≡ T₁ → StandsIn K (target_network K.words members targets links) Y a R
  search_stands row q e = record {
    net = net;
    present = o;
    spans = table_spans K.words members targets links net are a o T₀ shape.most found row (q ∙ ap (λ (X : Tables). reach_in K.words targets a d X row) e);
    stands = rw e (left_is_search ∙ sym (ap (search_leaves K.words H a) left_is_search ∙ leaves_over K.words H a a T₀));
  }

  -- what is answered by those tables is answered by the tables before
  pub figured_first : (p b s : List ℕ) (D : ℕ) (X : Figured) → X ≡ figured_by K (target_network K.words members targets links) a D (lent p Y b s) → Y ≡ T₁
      → X ≡ figured_by K (target_network K.words members targets links) a D (lent p T₀ b s)
  figured_first p b s D X h e = h ∙ ap (λ (Z : Tables). figured_by K H a D (lent p Z b s)) (e ∙ left_is_search) ∙ figured_over K H a T₀ p b s D

-- ---- a depot at distance 0 has no partner

own_zero : (G : Network) → IsNet G → (a : ℕ) → T (G.is_open a) → (u v : ℕ) → own_pairs (chart G) a 0 u v ≡ false
unfolding own_pairs chart
own_zero G net a o u v = go (cases_Bool (ltb u v && delivers G u && delivers G v && ((eqb u a && eqb (dist G a v) 0) || (eqb v a && eqb (dist G a u) 0))))
  where
    same : (x y : ℕ) → delivers G y ≡ true → (eqb x a && eqb (dist G a y) 0) ≡ true → x ≡ y
    same x y oy h =
        let k = and_parts (eqb x a) (eqb (dist G a y) 0) h in
        eqb-true x a k.0
        ∙ (chart_metric G net).apart a y (depot_in G net a o) (depot_in G net y (delivers_open G y (true→t oy))) (eqb-true (dist G a y) 0 k.1)

    ends : delivers G u ≡ true → delivers G v ≡ true → ((eqb u a && eqb (dist G a v) 0) ≡ true) ⊎ ((eqb v a && eqb (dist G a u) 0) ≡ true) → u ≡ v
    ends ou ov (inl h) = same u v ov h
    ends ou ov (inr h) = sym (same v u ou h)

    go : ((ltb u v && delivers G u && delivers G v && ((eqb u a && eqb (dist G a v) 0) || (eqb v a && eqb (dist G a u) 0))) ≡ true)
        ⊎ ((ltb u v && delivers G u && delivers G v && ((eqb u a && eqb (dist G a v) 0) || (eqb v a && eqb (dist G a u) 0))) ≡ false)
        → (ltb u v && delivers G u && delivers G v && ((eqb u a && eqb (dist G a v) 0) || (eqb v a && eqb (dist G a u) 0))) ≡ false
    go (inr h) = h
    go (inl h) =
        let x = and_parts (ltb u v && delivers G u && delivers G v) ((eqb u a && eqb (dist G a v) 0) || (eqb v a && eqb (dist G a u) 0)) h in
        let y = and_parts (ltb u v && delivers G u) (delivers G v) x.0 in
        let z = and_parts (ltb u v) (delivers G u) y.0 in
        let q : u ≡ v = ends z.1 y.1 (or_cases (eqb u a && eqb (dist G a v) 0) (eqb v a && eqb (dist G a u) 0) x.1) in
        let l : u < v = ltb-true u v z.0 in
        absurd (lt_irrefl u (omega arith))

-- so the pairs of a round at the candidate are those of the opening
join_same : (G : Network) → IsNet G → (a : ℕ) → T (G.is_open a) → (D : ℕ) (P : Pairs) (u v : ℕ) → join_pairs (chart G) a D D P u v ≡ (P u v || own_pairs (chart G) a D u v)
unfolding join_pairs
join_same G net a o D P u v = rw (le-ltb D D (le_refl D), eq-eqb D D refl) (first ((chart G).is_destination a) (cases_Bool (eqb D 0)))
  where
    keep : (b : Bool) → b ≡ (b || false)
    keep true = refl
    keep false = refl

    first : (b : Bool) → (eqb D 0 ≡ true) ⊎ (eqb D 0 ≡ false)
        → cond (b && false) (own_pairs (chart G) a D) (cond (true && not (eqb D 0)) (λ u v. P u v || own_pairs (chart G) a D u v) P) u v ≡ (P u v || own_pairs (chart G) a D u v)
    first b (inl z) = rw z (zero_case b)
      where
        zero_case : (b : Bool) → cond (b && false) (own_pairs (chart G) a D) P u v ≡ (P u v || own_pairs (chart G) a D u v)
        zero_case true = keep (P u v) ∙ ap (λ (x : Bool). P u v || x) (sym (ap (λ (d : ℕ). own_pairs (chart G) a d u v) (eqb-true D 0 z) ∙ own_zero G net a o u v))
        zero_case false = keep (P u v) ∙ ap (λ (x : Bool). P u v || x) (sym (ap (λ (d : ℕ). own_pairs (chart G) a d u v) (eqb-true D 0 z) ∙ own_zero G net a o u v))
    first true (inr z) = rw z
    first false (inr z) = rw z

-- the chart's destinations are the depots that deliver
destination : (G : Network) (a : ℕ) → (chart G).is_destination a ≡ delivers G a
unfolding chart
destination G a = refl

is_yard_lem : (G : Network) (a : ℕ) → delivers G a ≡ false → (chart G).is_destination a ≡ false
is_yard_lem G a q = destination G a ∙ q

-- and those of a yard, which has none of its own
join_yard : (G : Network) (a e D : ℕ) (P : Pairs) → delivers G a ≡ false → (u v : ℕ) → join_pairs (chart G) a e D P u v ≡ (P u v || own_pairs (chart G) a D u v)
unfolding join_pairs
join_yard G a e D P q u v = rw (yard, own_none (chart G) a yard D u v) (go (eqb e D && not (eqb e 0)))
  where
    yard : (chart G).is_destination a ≡ false
    yard = is_yard_lem G a q

    keep : (b : Bool) → b ≡ (b || false)
    keep true = refl
    keep false = refl

    go : (b : Bool) → cond b (λ u v. P u v || own_pairs (chart G) a e u v) P u v ≡ (P u v || false)
    go true = ap (λ (x : Bool). P u v || x) (own_none (chart G) a yard e u v)
    go false = keep (P u v)

-- ---- the cases

module _ (K : Shape) (members targets links : List ℕ) (B : Lent) (a D : ℕ) (R : Reached) (I : HoldsSearch K (target_network K.words members targets links) B a R) where
  abbrev G : Network
  G = target_network K.words members targets links

  abbrev P : Pairs
  P = table_bit K.words B.pairs

  abbrev Left : Pairs
  Left = staying_pairs (via (chart (target_network K.words members targets links)) a) D (table_bit K.words B.pairs)

  below : (v : ℕ) → T (G.is_open v) → v < places K
  below = network_open_below K.words members links

  -- the code's two tests, by what is a's own
  grows_own : grows_by (chart G) a D ≡ ltb D R.own
  unfolding grows_by
  grows_own = rw I.spans.own_is (go (delivers G a) (destination G a))
    where
      go : (b : Bool) → (chart G).is_destination a ≡ b → ((chart G).is_destination a && ltb D (ecc (chart G) a)) ≡ ltb D (cond b (ecc (chart G) a) 0)
      go true q = rw q
      go false q = rw q (sym (le-ltb D 0 zero-le))

  kept_own : kept_by (chart G) a D ≡ eqb R.own D
  unfolding kept_by
  kept_own = rw I.spans.own_is (go (delivers G a) (destination G a))
    where
      turned : (D ≡ 0) ⊎ (D ≢ 0) → eqb D 0 ≡ eqb 0 D
      turned (inl z) = eq-eqb D 0 z ∙ sym (eq-eqb 0 D (sym z))
      turned (inr n) = ne_eqb D 0 n ∙ sym (ne_eqb 0 D (λ z. n (sym z)))

      go : (b : Bool) → (chart G).is_destination a ≡ b
          → cond ((chart G).is_destination a) (eqb (ecc (chart G) a) D) (eqb D 0) ≡ eqb (cond b (ecc (chart G) a) 0) D
      go true q = rw q
      go false q = rw q (turned (cases_eq D 0))

  -- the marks of a join, as those of the network's eccentricity
  marks_are : (m m₀ : Marked) → m ≡ mark_once_in K a R.ecc m₀ → m ≡ mark_once_in K a (ecc (chart G) a) m₀
  marks_are m m₀ h = h ∙ ap (λ (x : ℕ). mark_once_in K a x m₀) I.spans.ecc_is

  -- what is above a chain is a depot's that delivers
  own_ecc : D < R.own → R.own ≡ ecc (chart G) a
  own_ecc l = go (delivers G a) I.spans.own_is
    where
      go : (b : Bool) → R.own ≡ cond b (ecc (chart G) a) 0 → R.own ≡ ecc (chart G) a
      go true q = q
      go false q = absurd (lt_irrefl D (omega (arith, q)))

  -- e(a) > D, and a delivers: GREW
  pub grew_is : D < R.own → (count : ℕ) (p : List ℕ) (n : ℕ) (m : Marked)
      → joined (tally p n) m ≡ join_of K a R D (joined (tally B.pairs count) (marking B.bounds B.skips))
      → figured Grew (ran (lent p B.searched m.bounds m.skips) R.own n 1) ≡ figured_by K (target_network K.words members targets links) a D B
  unfolding join_of figured_by opening settle_of
  grew_is l count p n m h =
      rw (grows_own ∙ lt-ltb D R.own l)
      (ap (λ (x : ℕ). figured Grew (ran (lent p B.searched m.bounds m.skips) x n 1)) (own_ecc l)
      ∙ ap (figured Grew) (once_leaves K G a I.present (ecc (chart G) a) (own_pairs (chart G) a (ecc (chart G) a)) B p n m own (marks_are m (marking B.bounds B.skips) (ap (λ (J : Joined). J.marked) h)) I.stands))
    where
      settled : settle_of K.words R.partners a R.own D (tally B.pairs count) ≡ tally_of K.words (pairs_with K.words R.partners a) B.pairs
      settled = rw (lt-ltb D R.own l)

      own : tally p n ≡ tally_of K.words (own_pairs (chart G) a (ecc (chart G) a)) B.pairs
      own =
          ap (λ (J : Joined). J.paired) h ∙ settled
          ∙ tally_ext K.words (pairs_with K.words R.partners a) (own_pairs (chart G) a (ecc (chart G) a)) B.pairs (own_pairs_lem K.words G a R I.spans)

  -- ---- the stale pairs are gone

  module _ (ends : (u v : ℕ) → T (table_bit K.words B.pairs u v)
      → T (delivers (target_network K.words members targets links) u) × T (delivers (target_network K.words members targets links) v))
      (low : R.own ≤ D) (t : List ℕ) (k w : ℕ) (drops : dropped (tally t k) w ≡ drop_of K.words (way_by B.searched.hops) D B.pairs) where
    abbrev hops : List ℕ
    hops = (search_leaves K.words (target_network K.words members targets links) a B.searched).hops

    alike : (u v : ℕ) → u < places K → v < places K → way_by hops u v ≡ via (chart G) a u v
    alike = way_by_search K.words G a B.searched

    drops_by : dropped (tally t k) w ≡ drop_of K.words (way_by hops) D B.pairs
    drops_by = drops ∙ ap (λ (T : Tables). drop_of K.words (way_by T.hops) D B.pairs) I.stands

    tally_left : tally t k ≡ tally_of K.words Left B.pairs
    tally_left = left_is K.words G I.net below (way_by hops) (via (chart G) a) alike D B.pairs ends drops_by

    table_left : t ≡ overwrite (encode_table K.words Left) B.pairs
    unfolding tally_of
    table_left = ap (λ (x : Tally). x.pairs) tally_left

    not_above : ltb D R.own ≡ false
    not_above = le-ltb D R.own low

    -- what is a's own is D: KEPT, with a's own pairs
    pub equal_is : R.own ≡ D → (p : List ℕ) (n : ℕ) (m : Marked)
        → joined (tally p n) m ≡ join_of K a R D (joined (tally t k) (marking B.bounds B.skips))
        → figured Kept (ran (lent p B.searched m.bounds m.skips) D n 1) ≡ figured_by K (target_network K.words members targets links) a D B
    unfolding join_of figured_by opening tally_of
    equal_is q p n m h =
        rw (grows_own ∙ not_above, kept_own ∙ eq-eqb R.own D q)
        (ap (figured Kept) (once_leaves K G a I.present D (λ u v. Left u v || own_pairs (chart G) a D u v) B p n m both (marks_are m (marking B.bounds B.skips) (ap (λ (J : Joined). J.marked) h)) I.stands))
      where
        joins : (b : Bool) → delivers G a ≡ b → R.own ≡ cond b (ecc (chart G) a) 0 → (u v : ℕ)
            → join_pairs (chart G) a (ecc (chart G) a) D Left u v ≡ (Left u v || own_pairs (chart G) a D u v)
        joins true e o u v = ap (λ (x : ℕ). join_pairs (chart G) a x D Left u v) (sym o ∙ q) ∙ join_same G I.net a I.present D Left u v
        joins false e o u v = join_yard G a (ecc (chart G) a) D Left e u v

        both : tally p n ≡ tally_of K.words (λ u v. Left u v || own_pairs (chart G) a D u v) B.pairs
        both =
            ap (λ (J : Joined). J.paired) h
            ∙ settle_is K.words G a R I.spans D Left t B.pairs k table_left (ap (λ (x : Tally). x.count) tally_left)
            ∙ tally_ext K.words (join_pairs (chart G) a (ecc (chart G) a) D Left) (λ u v. Left u v || own_pairs (chart G) a D u v) B.pairs
            (λ u v lu lv. joins (delivers G a) refl I.spans.own_is u v)

    -- it is below D, and a pair is left: KEPT
    pub kept_is : (R.own ≡ D → ⊥) → (k ≡ 0 → ⊥) → (m : Marked) → m ≡ mark_once_in K a R.ecc (marking B.bounds B.skips)
        → figured Kept (ran (lent t B.searched m.bounds m.skips) D k 1) ≡ figured_by K (target_network K.words members targets links) a D B
    unfolding figured_by opening
    kept_is ne some m h =
        rw (grows_own ∙ not_above, kept_own ∙ ne_eqb R.own D ne, left_some)
        (ap (figured Kept) (once_leaves K G a I.present D Left B t k m tally_left (marks_are m (marking B.bounds B.skips) h) I.stands))
      where
        left_some : any_pair (chart G).depots Left ≡ true
        left_some = some_left K.words G I.net below (way_by hops) (via (chart G) a) alike D B.pairs ends drops_by some

    -- no pair is left: SHRANK
    pub shrank_is : (R.own ≡ D → ⊥) → k ≡ 0 → (X : Ran)
        → X ≡ ran_by K (target_network K.words members targets links)
        (rounds (chart (target_network K.words members targets links)) (length (chart (target_network K.words members targets links)).depots)
        (round (chart (target_network K.words members targets links)) a (start w))) (lent t B.searched B.bounds B.skips)
        → figured Shrank X ≡ figured_by K (target_network K.words members targets links) a D B
    unfolding figured_by opening
    shrank_is ne z X h =
        rw (grows_own ∙ not_above, kept_own ∙ ne_eqb R.own D ne, left_none)
        (ap (figured Shrank) (h ∙ pairs_over K G (rounds (chart G) (length (chart G).depots) (round (chart G) a (start w))) Left B t table_left
        ∙ ap (λ (c : ℕ). ran_by K G (rounds (chart G) (length (chart G).depots) (round (chart G) a (start c))) B) (candidate_is K.words G I.net below (way_by hops) (via (chart G) a) alike D B.pairs ends drops_by)))
      where
        left_none : any_pair (chart G).depots Left ≡ false
        left_none = none_left K.words G I.net below (way_by hops) (via (chart G) a) alike D B.pairs ends drops_by z
