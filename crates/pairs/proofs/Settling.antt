-- What `settle` does to the pairs: r's own alone, r's own added, or nothing. Assumes nothing.
use mathlib.Core.Path.{◌≡◌, refl, sym, ap₂, ◌∙◌, subst}
use mathlib.Core.Logic.{◌≢◌}
use mathlib.Core.Bool.{Bool, true, false, cond, not, ◌&&◌, ◌||◌}
use mathlib.Core.List.{List}
use Prim.Native.Nat.{ℕ, ◌*◌, ◌≤◌, ◌<◌}
use borrow.Author.Tests.{eq-eqb, ne_eqb, lt-ltb, le-ltb}
use Rattle.lists.specs.Lists.{overwrite}
use Rattle.rows.specs.Rows.{table_bit, encode_row, encode_table}
use lib.Dec.{eqb, ltb}
use Rattle.graph.specs.Chart.{Pairs}
use Rattle.pairs.specs.Pairs.{tally, tally_of, pairs_with, settle_of, Counted, Tally}
use Rattle.pairs.proofs.PairCounts.{pairs_none}
use Rattle.pairs.proofs.Tallies.{HoldsPairs, holds_table, tally_again, holds_counted}

-- a table cleared as one long row has no pair
pub clear_holds : (W : ℕ) (t₀ t : List ℕ) → t ≡ overwrite (encode_row (W * (64 * W)) (λ v. false)) t₀ → HoldsPairs W (λ u v. false) t₀ t 0
unfolding tally_of encode_row encode_table
clear_holds W t₀ t e = record { is = ap₂ tally e (sym (pairs_none (64 * W) (λ u v. false) (λ u v l m. refl))) }

module _ (W : ℕ) (last : List ℕ) (r : ℕ) {e c : ℕ} (t₀ : List ℕ) (n : ℕ) where
  -- the eccentricity is above the candidate: the old pairs went, t being the cleared table
  pub settle_above : (t t' : List ℕ) (n' : ℕ) → HoldsPairs W (λ u v. false) t₀ t 0 → tally t' n' ≡ tally_of W (λ u v. table_bit W t u v || pairs_with W last r u v) t
      → c < e → tally t' n' ≡ settle_of W last r e c (tally t₀ n)
  unfolding settle_of
  settle_above t t' n' h q l = rw (lt-ltb c e l) (q ∙ tally_again W (λ u v. false) (λ b u v. b || pairs_with W last r u v) t₀ t (holds_table h))

  -- it is the candidate, and there can be pairs: r's own come to the old ones
  pub settle_equal : (t' : List ℕ) (n' : ℕ) → tally t' n' ≡ tally_of W (λ u v. table_bit W t₀ u v || pairs_with W last r u v) t₀
      → e ≤ c → e ≡ c → e ≢ 0 → tally t' n' ≡ settle_of W last r e c (tally t₀ n)
  unfolding settle_of
  settle_equal t' n' q l s z = rw (le-ltb c e l, eq-eqb e c s, ne_eqb e 0 z) q

  -- one depot alone, and an eccentricity below the candidate: nothing
  pub settle_zero : e ≤ c → e ≡ c → e ≡ 0 → tally t₀ n ≡ settle_of W last r e c (tally t₀ n)
  unfolding settle_of
  settle_zero l s z = rw (le-ltb c e l, eq-eqb e c s, eq-eqb e 0 z)

  pub settle_below : e ≤ c → e ≢ c → tally t₀ n ≡ settle_of W last r e c (tally t₀ n)
  unfolding settle_of
  settle_below l s = rw (le-ltb c e l, ne_eqb e c s)

-- ---- the pairs stay counted

pub settle_counted : (W : ℕ) (last : List ℕ) (r e c : ℕ) (t t' : List ℕ) (n n' : ℕ) → Counted W t n → tally t' n' ≡ settle_of W last r e c (tally t n) → Counted W t' n'
unfolding settle_of
settle_counted W last r e c t t' n n' k h = go (ltb c e) (eqb e c && not (eqb e 0)) h
  where
    new : (P : Pairs) → tally t' n' ≡ tally_of W P t → Counted W t' n'
    new P q = holds_counted (record { is = q }) k.positive k.most k.table

    go : (a b : Bool) → tally t' n' ≡ cond a (tally_of W (pairs_with W last r) t) (cond b (tally_of W (λ u v. table_bit W t u v || pairs_with W last r u v) t) (tally t n)) → Counted W t' n'
    go true b q = new (pairs_with W last r) q
    go false true q = new (λ u v. table_bit W t u v || pairs_with W last r u v) q
    go false false q = subst (λ (x : Tally). Counted W x.pairs x.count) (sym q) k
