-- WHAT `drop_set_of` SAYS, for every set of rows: `RowsDone` (specs), and a computed table for the numbers that it does not name. Assumes nothing.
use mathlib.Core.Path.{◌≡◌, refl, ap, ◌∙◌}
use mathlib.Core.Logic.{◌⊎◌, inl, inr}
use mathlib.Core.Bool.{Bool, true, false, not, ◌&&◌, ◌||◌}
use mathlib.Core.List.{List, [], ◌∷◌}
use Prim.Native.Nat.{ℕ, ◌+◌, ◌*◌, ◌/◌, ◌%◌, ◌^◌, ◌≤◌, ◌<◌}
use native.Mathlib.Omega.{arith}
use lib.Dec.{ltb}
use lib.ListN.{length, get_or}
use Rattle.lists.specs.Lists.{from, range, countb, sum_of, max_of, overwrite}
use Rattle.lists.proofs.Tests.{clash}
use Rattle.lists.proofs.Fills.{overwrite_length, overwrite_old}
use Rattle.lists.proofs.Sums.{sum_add}
use Rattle.lists.proofs.RangeCounts.{count_same}
use Rattle.lists.proofs.Ranges.{sum_same}
use Rattle.words.specs.Bits.{bit}
use Rattle.graph.specs.Chart.{Pairs, count_pairs}
use Rattle.graph.specs.Opening.{staying_pairs}
use Rattle.rows.specs.Rows.{table_bit, encode_table}
use Rattle.rows.proofs.Written.{encode_table_length, table_at}
use Rattle.pairs.proofs.PairCounts.{pairs_same}
use Rattle.stale_pairs.specs.Stale.{RowsDropped, rows_dropped, stale_pairs, pairs_after, where_done, row_gone, row_stays, row_way, drop_set_of, way_by}
use Rattle.stale_pairs.specs.RowsDone.{RowsDone}
use Rattle.stale_pairs.proofs.StaleRow.{count_parted}
use Rattle.stale_pairs.proofs.RowSets.{known, left_in, left_out}

module _ (W : ℕ) (far : ℕ → ℕ → ℕ) (D : ℕ) (S : ℕ → Bool) (t : List ℕ) (long : W * (64 * W) ≤ length t) where
  abbrev P : Pairs
  P = table_bit W t

  abbrev left : Pairs
  left = pairs_after S far D P

  abbrev after : List ℕ
  after = overwrite (encode_table W left) t

  -- a row's pairs are those gone of it, none where it is not done, and those left
  abbrev gone_of : ℕ → ℕ
  gone_of = where_done S (row_gone W far D P)

  row_parted : (u : ℕ) → countb (P u) (range (64 * W)) ≡ gone_of u + countb (left u) (range (64 * W))
  unfolding row_gone
  row_parted u = go (known (S u))
    where
      gone_in : S u ≡ true → gone_of u ≡ row_gone W far D P u
      gone_in e = rw e

      gone_out : S u ≡ false → gone_of u ≡ 0
      gone_out e = rw e

      go : (S u ≡ true) ⊎ (S u ≡ false) → countb (P u) (range (64 * W)) ≡ gone_of u + countb (left u) (range (64 * W))
      go (inl e) =
          omega (arith, gone_in e, count_parted far D P u (range (64 * W)), count_same (64 * W) (left u) (staying_pairs far D P u) (λ v h. left_in S far D P u v e))
      go (inr e) = omega (arith, gone_out e, count_same (64 * W) (left u) (P u) (λ v h. left_out S far D P u v e))

  ones_parted : count_pairs (range (64 * W)) P ≡ sum_of gone_of (range (64 * W)) + count_pairs (range (64 * W)) (table_bit W after)
  unfolding count_pairs
  ones_parted =
      let rest : ℕ → ℕ = λ u. countb (left u) (range (64 * W)) in
      omega (
        arith,
        sum_same (λ u. countb (P u) (range (64 * W))) (λ u. gone_of u + rest u) (64 * W) (λ u l. row_parted u),
        sum_add gone_of rest (range (64 * W)),
        pairs_same (64 * W) (table_bit W after) left (λ u v a b. table_at W left t u v a b),
      )

  -- of whatever meets the equation
  pub rows_done : {t' : List ℕ} {g k w : ℕ} → rows_dropped t' g k w ≡ drop_set_of W far D S t → RowsDone W far D S t t' g
  unfolding drop_set_of staying_pairs
  rows_done {t'} {g} q =
      let e : t' ≡ after = ap (λ (x : RowsDropped). x.left.left.pairs) q in
      let d : g ≡ sum_of gone_of (range (64 * W)) = ap (λ (x : RowsDropped). x.gone) q in
      record {
        size = ap length e ∙ overwrite_length (encode_table W left) t (omega (arith, encode_table_length W left));
        stay = λ u v l h o. ap (λ (s : List ℕ). table_bit W s u v) e ∙ table_at W left t u v l h ∙ left_in S far D P u v o;
        others = λ u v l h o. ap (λ (s : List ℕ). table_bit W s u v) e ∙ table_at W left t u v l h ∙ left_out S far D P u v o;
        behind = λ i l. ap (λ (s : List ℕ). get_or s i 0) e ∙ overwrite_old (encode_table W left) t i 0 (omega (arith, l, encode_table_length W left));
        counted = ap (λ (s : List ℕ). g + count_pairs (range (64 * W)) (table_bit W s)) e ∙ omega (arith, d, ones_parted);
      }

  -- so a loop that meets the equation meets both
  pub both_done : {t' : List ℕ} {g k w : ℕ} → rows_dropped t' g k w ≡ drop_set_of W far D S t
      → (rows_dropped t' g k w ≡ drop_set_of W far D S t) × RowsDone W far D S t t' g
  both_done q = (q, rows_done q)

-- ---- IN WHATEVER ORDER, and some rows again: rows done after rows done are all of them done, and the numbers gone add up

pub done_joined : {W : ℕ} {way : ℕ → ℕ → ℕ} {D : ℕ} (S T : ℕ → Bool) {old mid new : List ℕ} {g h : ℕ}
    → RowsDone W way D S old mid g → RowsDone W way D T mid new h → RowsDone W way D (λ u. S u || T u) old new (g + h)
done_joined {W} {way} {D} S T {old} {mid} {new} {g} {h} a b = record {
  size = b.size ∙ a.size;
  stay = λ u v l m e. both u v l m (known (S u)) (known (T u)) e;
  others = λ u v l m e. let z = neither (S u) (T u) e in b.others u v l m z.1 ∙ a.others u v l m z.0;
  behind = λ i l. b.behind i l ∙ a.behind i l;
  counted = omega (arith, a.counted, b.counted);
}
  where
    neither : (x y : Bool) → (x || y) ≡ false → (x ≡ false) × (y ≡ false)
    neither true y e = absurd (clash refl e)
    neither false y e = (refl, e)

    twice : (x y : Bool) → ((x && y) && y) ≡ (x && y)
    twice true true = refl
    twice true false = refl
    twice false y = refl

    both : (u v : ℕ) → u < 64 * W → v < 64 * W → (S u ≡ true) ⊎ (S u ≡ false) → (T u ≡ true) ⊎ (T u ≡ false) → (S u || T u) ≡ true
        → table_bit W new u v ≡ (table_bit W old u v && not (ltb (way u v) D))
    both u v l m (inl s) (inl t) e =
        b.stay u v l m t ∙ ap (λ (x : Bool). x && not (ltb (way u v) D)) (a.stay u v l m s) ∙ twice (table_bit W old u v) (not (ltb (way u v) D))
    both u v l m (inl s) (inr t) e = b.others u v l m t ∙ a.stay u v l m s
    both u v l m (inr s) (inl t) e = b.stay u v l m t ∙ ap (λ (x : Bool). x && not (ltb (way u v) D)) (a.others u v l m s)
    both u v l m (inr s) (inr t) e = absurd (clash e (ap (λ (x : Bool). x || T u) s ∙ t))

-- ---- computed: depots 0, 1, 2, 3 in a row and a search from 0, a chain of 5, and pairs of 0 with 1, 2 and 3, of 1 with 3, of 2 with 3

-- of the first n rows: pairs gone, pairs that stay, greatest way
abbrev numbers_at : ℕ → ℕ × ℕ × ℕ
numbers_at n = let r = drop_set_of 1 (way_by (0 ∷ 1 ∷ 2 ∷ 3 ∷ [])) 5 (λ u. ltb u n) (14 ∷ 8 ∷ 8 ∷ []) in (r.gone, r.left.left.count, r.left.way)

-- ways of 1, 2 and 3, then of 4: all go. Then one of 5, which stays
pub numbers_done : numbers_at 0 ∷ numbers_at 1 ∷ numbers_at 2 ∷ numbers_at 3 ∷ [] ≡ (0, 0, 0) ∷ (3, 0, 3) ∷ (4, 0, 4) ∷ (4, 1, 5) ∷ []
unfolding drop_set_of row_gone row_stays row_way stale_pairs staying_pairs table_bit bit countb sum_of max_of range from
numbers_done = refl
