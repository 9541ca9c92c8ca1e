-- A table with the number of its pairs: the same pairs give the same, what is added to an encoded table, and one pair put. Assumes nothing.
use mathlib.Core.Path.{◌≡◌, refl, sym, ap, ap₂, ◌∙◌}
use mathlib.Core.Logic.{◌⊎◌, inl, inr}
use mathlib.Core.Bool.{Bool, true, false, cond, ◌&&◌, ◌||◌}
use mathlib.Core.List.{List}
use Prim.Native.Nat.{ℕ, ◌+◌, ◌*◌, ◌^◌, ◌≤◌, ◌<◌}
use native.Mathlib.Nat.{mul-le-mul}
use native.Mathlib.Omega.{arith}
use lib.Dec.{eqb}
use lib.ListN.{length, get_or}
use borrow.Author.Tests.{eqb-true}
use Rattle.std.proofs.lemmas.Bool.{and_parts, or_cases, or_left}
use Rattle.lists.specs.Lists.{range, overwrite}
use Rattle.lists.proofs.Tests.{same_test}
use Rattle.lists.proofs.Fills.{overwrite_length, overwrite_twice}
use Rattle.graph.specs.Chart.{Pairs, count_pairs}
use Rattle.rows.specs.Rows.{table_bit, encode_table, put_bit}
use Rattle.rows.proofs.Written.{encode_table_length, table_at}
use Rattle.rows.proofs.Wholes.{table_whole, encode_table_ext}
use Rattle.rows.proofs.Puts.{put_table}
use Rattle.pairs.specs.Pairs.{Tally, tally, tally_of, Counted}
use Rattle.pairs.proofs.PairCounts.{pairs_same, pairs_with_new, pairs_few}

-- ---- the pairs of an encoded table

-- the same pairs below 64 W
pub tally_ext : (W : ℕ) (P Q : Pairs) (t : List ℕ) → ((u v : ℕ) → u < 64 * W → v < 64 * W → P u v ≡ Q u v) → tally_of W P t ≡ tally_of W Q t
unfolding tally_of
tally_ext W P Q t h = ap₂ (λ (e : List ℕ) (n : ℕ). tally (overwrite e t) n) (encode_table_ext W P Q h) (pairs_same (64 * W) P Q h)

-- an encoded table over another one
pub table_over : (W : ℕ) (P Q : Pairs) (t : List ℕ) → overwrite (encode_table W P) (overwrite (encode_table W Q) t) ≡ overwrite (encode_table W P) t
table_over W P Q t = overwrite_twice (encode_table W P) (encode_table W Q) t (omega (arith, encode_table_length W P, encode_table_length W Q))

-- a change of each pair, made on an encoded table: the contract of one function after another
pub tally_again : (W : ℕ) (P : Pairs) (g : Bool → Pairs) (t₀ t : List ℕ) → t ≡ overwrite (encode_table W P) t₀
    → tally_of W (λ u v. g (table_bit W t u v) u v) t ≡ tally_of W (λ u v. g (P u v) u v) t₀
unfolding tally_of
tally_again W P g t₀ t e =
    ap (λ (l : List ℕ). tally_of W (λ u v. g (table_bit W t u v) u v) l) e
    ∙ ap (λ (l : List ℕ). tally l (count_pairs (range (64 * W)) (λ u v. g (table_bit W t u v) u v))) (table_over W (λ u v. g (table_bit W t u v) u v) P t₀)
    ∙ tally_ext W (λ u v. g (table_bit W t u v) u v) (λ u v. g (P u v) u v) t₀
    (λ u v l h. ap (λ (b : Bool). g b u v) (ap (λ (s : List ℕ). table_bit W s u v) e ∙ table_at W P t₀ u v l h))

-- ---- the table t, written over t₀, has the pairs P, and n is their number

pub record HoldsPairs (W : ℕ) (P : Pairs) (t₀ t : List ℕ) (n : ℕ) : Type 0 where
  pub is : tally t n ≡ tally_of W P t₀

module _ {W : ℕ} {P : Pairs} {t₀ t : List ℕ} {n : ℕ} (h : HoldsPairs W P t₀ t n) where
  pub holds_table : t ≡ overwrite (encode_table W P) t₀
  unfolding tally_of
  holds_table = ap (λ (x : Tally). x.pairs) h.is

  pub holds_count : n ≡ count_pairs (range (64 * W)) P
  unfolding tally_of
  holds_count = ap (λ (x : Tally). x.count) h.is

  pub holds_length : W * (64 * W) ≤ length t₀ → length t ≡ length t₀
  holds_length l = ap length holds_table ∙ overwrite_length (encode_table W P) t₀ (omega (arith, encode_table_length W P))

  pub holds_bit : (u v : ℕ) → u < 64 * W → v < 64 * W → table_bit W t u v ≡ P u v
  holds_bit u v l m = ap (λ (s : List ℕ). table_bit W s u v) holds_table ∙ table_at W P t₀ u v l m

  -- as the functions ask for it
  pub holds_counted : 0 < W → W < 513 → W * (64 * W) ≤ length t₀ → Counted W t n
  holds_counted p m l = record {
    positive = p;
    most = m;
    table = omega (arith, holds_length l);
    counted = holds_count ∙ sym (pairs_same (64 * W) (table_bit W t) P holds_bit);
  }

  -- the same pairs below 64 W
  pub holds_ext : (Q : Pairs) → ((u v : ℕ) → u < 64 * W → v < 64 * W → P u v ≡ Q u v) → HoldsPairs W Q t₀ t n
  holds_ext Q e = record { is = h.is ∙ tally_ext W P Q t₀ e }

-- a table as it is lent
pub holds_whole : {W : ℕ} {t : List ℕ} {n : ℕ} → Counted W t n → ((i : ℕ) → i < W * (64 * W) → get_or t i 0 < 2 ^ 64) → HoldsPairs W (table_bit W t) t t n
unfolding tally_of
holds_whole {W} {t} {n} c fits = record { is = ap₂ tally (table_whole W t c.table fits) c.counted }

-- a table of at most 512 words a row has fewer than 2 ^ 31 pairs
pub tally_fits : {W : ℕ} {t : List ℕ} {n : ℕ} → Counted W t n → n < 2147483648
tally_fits {W} {t} {n} c =
    let m : 64 * W ≤ 32768 = omega (arith, c.most) in
    let q : 64 * W * (64 * W) ≤ 32768 * 32768 = mul-le-mul m m in
    omega (arith, q, c.counted, pairs_few (64 * W) (table_bit W t))

-- ---- one pair put

-- it was there
pub put_old : {W : ℕ} {P : Pairs} {t₀ t : List ℕ} {n : ℕ} (a b : ℕ) → HoldsPairs W P t₀ t n → P a b ≡ true → HoldsPairs W (λ u v. P u v || (eqb u a && eqb v b)) t₀ t n
put_old {W} {P} {t₀} a b h e =
    holds_ext h (λ u v. P u v || (eqb u a && eqb v b))
    (λ u v l m. same_test (P u v) (P u v || (eqb u a && eqb v b)) (λ q. or_left _ (eqb u a && eqb v b) q) (λ q. go u v (or_cases (P u v) (eqb u a && eqb v b) q)))
  where
    go : (u v : ℕ) → (P u v ≡ true) ⊎ ((eqb u a && eqb v b) ≡ true) → P u v ≡ true
    go u v (inl q) = q
    go u v (inr q) = let z = and_parts (eqb u a) (eqb v b) q in ap₂ P (eqb-true u a z.0) (eqb-true v b z.1) ∙ e

-- it is new, and counted
pub put_new : {W : ℕ} {P : Pairs} {t₀ t : List ℕ} {n : ℕ} (a b : ℕ) → HoldsPairs W P t₀ t n → P a b ≡ false → a < 64 * W → b < 64 * W
    → HoldsPairs W (λ u v. P u v || (eqb u a && eqb v b)) t₀ (put_bit W a b true t) (n + 1)
unfolding tally_of
put_new {W} {P} {t₀} {t} {n} a b h e l m = record {
  is =
      ap₂ tally
      (ap (put_bit W a b true) (holds_table h) ∙ put_table W a b true P t₀ l m
      ∙ ap (λ (r : List ℕ). overwrite r t₀)
      (encode_table_ext W (λ u v. cond (eqb u a && eqb v b) true (P u v)) (λ u v. P u v || (eqb u a && eqb v b)) (λ u v p q. go (eqb u a && eqb v b) (P u v))))
      (omega (arith, holds_count h, pairs_with_new (64 * W) P a b l m e));
}
  where
    go : (x y : Bool) → cond x true y ≡ (y || x)
    go true true = refl
    go true false = refl
    go false true = refl
    go false false = refl
