-- The pairs of a round in the pair table are the network's. Assumes nothing.
use mathlib.Core.Path.{◌≡◌, refl, sym, ap, ap₂, ◌∙◌}
use mathlib.Core.Logic.{◌⊎◌, inl, inr}
use mathlib.Core.Bool.{Bool, true, false, cond, not, ◌&&◌, ◌||◌, and-false}
use mathlib.Core.List.{List}
use Prim.Native.Nat.{ℕ, ◌*◌, ◌<◌, zero-le}
use lib.Dec.{eqb, ltb}
use borrow.Author.Tests.{eqb-true, le-ltb}
use Rattle.std.proofs.lemmas.Bool.{cases_Bool, and_parts, and_from, or_cases, or_left, or_right}
use Rattle.lists.specs.Lists.{range, overwrite}
use Rattle.lists.proofs.Tests.{same_test}
use Rattle.graph.specs.Network.{Network, delivers}
use Rattle.graph.specs.Distance.{dist}
use Rattle.graph.specs.Chart.{chart, ecc, Pairs, count_pairs, own_pairs}
use Rattle.graph.specs.Rounds.{join_pairs}
use Rattle.graph.proofs.Yards.{own_none}
use Rattle.rows.specs.Rows.{table_bit, encode_table}
use Rattle.rows.proofs.Written.{table_at}
use Rattle.targets.specs.Reach.{Reached}
use Rattle.pairs.specs.Pairs.{tally, pairs_with, tally_of, settle_of}
use Rattle.pairs.proofs.Tallies.{tally_ext, table_over}
use Rattle.rounds.specs.Targets.{Spans}

tally_over : (W : ℕ) (P Q : Pairs) (t : List ℕ) → tally_of W P (overwrite (encode_table W Q) t) ≡ tally_of W P t
unfolding tally_of
tally_over W P Q t = ap (λ (l : List ℕ). tally l (count_pairs (range (64 * W)) P)) (table_over W P Q t)

-- ---- the pairs with r's partners are r's own

module _ (W : ℕ) (G : Network) (r : ℕ) (R : Reached) (is : Spans W G r R) where
  pub own_pairs_lem : (u v : ℕ) → u < 64 * W → v < 64 * W → pairs_with W R.partners r u v ≡ own_pairs (chart G) r (ecc (chart G) r) u v
  unfolding pairs_with own_pairs chart
  own_pairs_lem u v lu lv = rw (is.partners_are v lv, is.partners_are u lu) (same_test left right to from)
    where
      at : ℕ → Bool
      at w = eqb (dist G r w) (ecc (chart G) r)

      partner : ℕ → Bool
      partner w = delivers G r && (delivers G w && at w)

      left : Bool
      left = ltb u v && ((eqb u r && partner v) || (eqb v r && partner u))

      right : Bool
      right = ltb u v && delivers G u && delivers G v && ((eqb u r && at v) || (eqb v r && at u))

      -- r is one end, and its partner w the other
      known : (w x : ℕ) → (eqb w r && partner x) ≡ true → (delivers G w ≡ true) × (delivers G x ≡ true) × ((eqb w r && at x) ≡ true)
      known w x h =
          let a = and_parts (eqb w r) (partner x) h in
          let b = and_parts (delivers G r) (delivers G x && at x) a.1 in
          let c = and_parts (delivers G x) (at x) b.1 in
          (ap (delivers G) (eqb-true w r a.0) ∙ b.0, c.0, and_from _ _ a.0 c.1)

      made : (w x : ℕ) → delivers G w ≡ true → delivers G x ≡ true → (eqb w r && at x) ≡ true → (eqb w r && partner x) ≡ true
      made w x dw dx h =
          let a = and_parts (eqb w r) (at x) h in
          and_from _ _ a.0 (and_from _ _ (ap (delivers G) (sym (eqb-true w r a.0)) ∙ dw) (and_from _ _ dx a.1))

      to : left ≡ true → right ≡ true
      to h =
          let k = and_parts (ltb u v) ((eqb u r && partner v) || (eqb v r && partner u)) h in
          go k.0 (or_cases (eqb u r && partner v) (eqb v r && partner u) k.1)
        where
          go : ltb u v ≡ true → ((eqb u r && partner v) ≡ true) ⊎ ((eqb v r && partner u) ≡ true) → right ≡ true
          go l (inl q) = let x = known u v q in and_from _ _ (and_from _ _ (and_from _ _ l x.0) x.1) (or_left _ (eqb v r && at u) x.2)
          go l (inr q) = let x = known v u q in and_from _ _ (and_from _ _ (and_from _ _ l x.1) x.0) (or_right (eqb u r && at v) _ x.2)

      from : right ≡ true → left ≡ true
      from h =
          let a = and_parts (ltb u v && delivers G u && delivers G v) ((eqb u r && at v) || (eqb v r && at u)) h in
          let b = and_parts (ltb u v && delivers G u) (delivers G v) a.0 in
          let c = and_parts (ltb u v) (delivers G u) b.0 in
          and_from _ _ c.0 (go c.1 b.1 (or_cases (eqb u r && at v) (eqb v r && at u) a.1))
        where
          go : delivers G u ≡ true → delivers G v ≡ true → ((eqb u r && at v) ≡ true) ⊎ ((eqb v r && at u) ≡ true)
              → ((eqb u r && partner v) || (eqb v r && partner u)) ≡ true
          go du dv (inl q) = or_left _ (eqb v r && partner u) (made u v du dv q)
          go du dv (inr q) = or_right (eqb u r && partner v) _ (made v u dv du q)

  -- THE PAIRS AFTER A ROUND
  pub settle_is : (c : ℕ) (P : Pairs) (pairs pairs₀ : List ℕ) (count : ℕ) → pairs ≡ overwrite (encode_table W P) pairs₀ → count ≡ count_pairs (range (64 * W)) P
      → settle_of W R.partners r R.own c (tally pairs count) ≡ tally_of W (join_pairs (chart G) r (ecc (chart G) r) c P) pairs₀
  unfolding settle_of join_pairs tally_of chart
  settle_is c P pairs pairs₀ count ep ec = rw is.own_is (by (cases_Bool (delivers G r)))
    where
      e : ℕ
      e = ecc (chart G) r

      last : List ℕ
      last = R.partners

      own : Pairs
      own = own_pairs (chart G) r (ecc (chart G) r)

      new : (Q : Pairs) (R : Pairs) → ((u v : ℕ) → u < 64 * W → v < 64 * W → Q u v ≡ R u v) → tally_of W Q pairs ≡ tally_of W R pairs₀
      new Q R h = ap (tally_of W Q) ep ∙ tally_over W Q P pairs₀ ∙ tally_ext W Q R pairs₀ h

      old : tally pairs count ≡ tally_of W P pairs₀
      old = ap₂ tally ep ec

      stored : (u v : ℕ) → u < 64 * W → v < 64 * W → table_bit W pairs u v ≡ P u v
      stored u v lu lv = ap (λ (t : List ℕ). table_bit W t u v) ep ∙ table_at W P pairs₀ u v lu lv

      -- of a depot that delivers, by the two tests
      tests : (a b : Bool)
          → cond a (tally_of W (pairs_with W last r) pairs) (cond b (tally_of W (λ u v. table_bit W pairs u v || pairs_with W last r u v) pairs) (tally pairs count))
          ≡ tally_of W (cond (true && a) own (cond b (λ u v. P u v || own u v) P)) pairs₀
      tests true b = new (pairs_with W last r) own own_pairs_lem
      tests false true = new (λ u v. table_bit W pairs u v || pairs_with W last r u v) (λ u v. P u v || own u v) (λ u v lu lv. ap₂ (λ (x y : Bool). x || y) (stored u v lu lv) (own_pairs_lem u v lu lv))
      tests false false = old

      -- a yard has none
      none : (b : Bool) → delivers G r ≡ false → tally pairs count ≡ tally_of W (cond b (λ u v. P u v || own u v) P) pairs₀
      none true q = old ∙ tally_ext W P (λ u v. P u v || own u v) pairs₀ (λ u v lu lv. rw (own_none (chart G) r q (ecc (chart G) r) u v) (sym (or_none (P u v))))
        where
          or_none : (x : Bool) → (x || false) ≡ x
          or_none true = refl
          or_none false = refl
      none false q = old

      by : (delivers G r ≡ true) ⊎ (delivers G r ≡ false)
          → cond (ltb c (cond (delivers G r) e 0)) (tally_of W (pairs_with W last r) pairs)
          (cond (eqb (cond (delivers G r) e 0) c && not (eqb (cond (delivers G r) e 0) 0)) (tally_of W (λ u v. table_bit W pairs u v || pairs_with W last r u v) pairs) (tally pairs count))
          ≡ tally_of W (cond ((chart G).is_destination r && ltb c e) own (cond (eqb e c && not (eqb e 0)) (λ u v. P u v || own u v) P)) pairs₀
      by (inl q) = rw q (tests (ltb c e) (eqb e c && not (eqb e 0)))
      by (inr q) = rw (q, le-ltb c 0 zero-le, and-false (eqb 0 c)) (none (eqb e c && not (eqb e 0)) q)
