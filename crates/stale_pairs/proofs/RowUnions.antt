-- ROWS DONE, ONE SET AFTER ANOTHER: two sets of which none is in both make their union, and a set after a part of it, whose rows are done again, makes the
-- whole. Assumes nothing.
use mathlib.Core.Path.{◌≡◌, refl, sym, ap, ap₂, ◌∙◌, subst}
use mathlib.Core.Logic.{◌⊎◌, inl, inr}
use mathlib.Core.Bool.{Bool, true, false, cond, not, ◌&&◌, ◌||◌}
use mathlib.Core.List.{List}
use Prim.Native.Nat.{ℕ, zero, suc, ◌+◌, ◌-◌, ◌*◌, ◌^◌, ◌≤◌, ◌<◌, min, max}
use native.Mathlib.Numerals.{add-one}
use native.Mathlib.Omega.{arith}
use lib.Dec.{ltb}
use lib.ListN.{length, get_or}
use Rattle.lists.specs.Lists.{range, countb, sum_of, max_of, overwrite}
use Rattle.lists.proofs.Tests.{clash}
use Rattle.lists.proofs.Members.{length-range, range_in, range_out}
use Rattle.lists.proofs.Counts.{count_le_length, count_none, count-zero}
use Rattle.lists.proofs.Sums.{sum_add}
use Rattle.lists.proofs.RangeCounts.{count_same}
use Rattle.lists.proofs.Ranges.{sum_skip, sum_nothing, sum_same, sum_few, sum_has, max-nothing, max_more, max_none, max_same}
use Rattle.graph.specs.Chart.{Pairs}
use Rattle.graph.specs.Opening.{staying_pairs}
use Rattle.rows.specs.Rows.{table_bit, encode_table}
use Rattle.rows.proofs.Written.{table_at}
use Rattle.rows.proofs.Wholes.{table_whole, encode_table_ext}
use Rattle.pairs.proofs.Tallies.{table_over}
use Rattle.stale_pairs.specs.Stale.{RowsDropped, rows_dropped, stale_pairs, pairs_after, where_done, row_gone, row_stays, row_way, drop_set_of, pairs_in}
use Rattle.stale_pairs.proofs.StaleRow.{count_parted, same_rows}
use Rattle.stale_pairs.proofs.RowSets.{pairs_of, known, left_in, left_out}
use Rattle.stale_pairs.proofs.RowSets as sets

-- ---- numbers of some rows

-- the greatest of two numbers of each row
max_both : (f g : ℕ → ℕ) (n : ℕ) → max_of (λ u. max (f u) (g u)) (range n) ≡ max (max_of f (range n)) (max_of g (range n))
max_both f g zero = omega (arith, max-nothing (λ u. max (f u) (g u)), max-nothing f, max-nothing g)
max_both f g (suc n) =
    let e : (h : ℕ → ℕ) → max_of h (range (suc n)) ≡ max (max_of h (range n)) (h n) = λ h. ap (λ (k : ℕ). max_of h (range k)) (sym (add-one n)) ∙ max_more h n in
    omega (arith, e (λ u. max (f u) (g u)), e f, e g, max_both f g n)

module _ (f : ℕ → ℕ) (u : ℕ) where
  -- of one set and the other
  either_sum : (a b : Bool) → (b ≡ true → a ≡ false) → cond (a || b) (f u) 0 ≡ cond a (f u) 0 + cond b (f u) 0
  either_sum a true h = rw (h refl) (let e : f u ≡ 0 + f u = omega arith in e)
  either_sum true false h = omega arith
  either_sum false false h = refl

  either_max : (a b : Bool) → cond (a || b) (f u) 0 ≡ max (cond a (f u) 0) (cond b (f u) 0)
  either_max true true = omega arith
  either_max true false = omega arith
  either_max false b = omega arith

module _ (W : ℕ) (far : ℕ → ℕ → ℕ) (D : ℕ) (t₀ : List ℕ) where
  abbrev P₀ : Pairs
  P₀ = table_bit W t₀

  module _ (S : ℕ → Bool) {t : List ℕ} {g k w : ℕ} (i : rows_dropped t g k w ≡ drop_set_of W far D S t₀) where
    -- the first, part by part
    set_table : t ≡ overwrite (encode_table W (pairs_after S far D P₀)) t₀
    set_table = sets.set_table W far D t₀ S i

    set_gone : g ≡ sum_of (where_done S (row_gone W far D P₀)) (range (64 * W))
    set_gone = sets.set_gone W far D t₀ S i

    set_count : k ≡ sum_of (where_done S (row_stays W far D P₀)) (range (64 * W))
    set_count = sets.set_count W far D t₀ S i

    set_way : w ≡ max_of (where_done S (row_way W far D P₀)) (range (64 * W))
    set_way = sets.set_way W far D t₀ S i

    bit_left : (u v : ℕ) → u < 64 * W → v < 64 * W → table_bit W t u v ≡ pairs_after S far D P₀ u v
    bit_left = sets.bit_left W far D t₀ S i

    bit_yet : (u v : ℕ) → S u ≡ false → u < 64 * W → v < 64 * W → table_bit W t u v ≡ P₀ u v
    bit_yet = sets.bit_yet W far D t₀ S i

    -- ---- one set after another

    module _ (T : ℕ → Bool) (apart : (u : ℕ) → T u ≡ true → S u ≡ false) where
      -- of what is asked of the rows of the second it does not matter that the first is done
      second_same : (f f' : ℕ → ℕ) → ((u : ℕ) → u < 64 * W → S u ≡ false → f u ≡ f' u) → (u : ℕ) → u < 64 * W → where_done T f u ≡ where_done T f' u
      second_same f f' h u l = go (known (T u))
        where
          go : (T u ≡ true) ⊎ (T u ≡ false) → where_done T f u ≡ where_done T f' u
          go (inl e) = rw e (h u l (apart u e))
          go (inr e) = rw e

      module _ {t' : List ℕ} {g' k' d : ℕ} (r : rows_dropped t' g' k' d ≡ drop_set_of W far D T t) where
        left_both : (u v : ℕ) → u < 64 * W → v < 64 * W → pairs_after T far D (table_bit W t) u v ≡ pairs_after (λ u. S u || T u) far D P₀ u v
        unfolding staying_pairs pairs_after
        left_both u v l h = go (known (T u)) (known (S u))
          where
            go : (T u ≡ true) ⊎ (T u ≡ false) → (S u ≡ true) ⊎ (S u ≡ false) → pairs_after T far D (table_bit W t) u v ≡ pairs_after (λ u. S u || T u) far D P₀ u v
            go (inl e) s = rw (e, apart u e) (ap (λ (y : Bool). y && not (ltb (far u v) D)) (bit_yet u v (apart u e) l h))
            go (inr e) (inl s) = rw (e, s) (bit_left u v l h ∙ left_in S far D P₀ u v s)
            go (inr e) (inr s) = rw (e, s) (bit_yet u v s l h)

        both_table : t' ≡ overwrite (encode_table W (pairs_after (λ u. S u || T u) far D P₀)) t₀
        unfolding drop_set_of
        both_table =
            let Q = pairs_after T far D (table_bit W t) in
            ap (λ (x : RowsDropped). x.left.left.pairs) r
            ∙ ap (λ (s : List ℕ). overwrite (encode_table W Q) s) set_table
            ∙ table_over W Q (pairs_after S far D P₀) t₀
            ∙ ap (λ (e : List ℕ). overwrite e t₀) (encode_table_ext W Q (pairs_after (λ u. S u || T u) far D P₀) left_both)

        -- a sum over both
        both_sum : (f : ℕ → ℕ) {a b : ℕ} → a ≡ sum_of (where_done S f) (range (64 * W)) → b ≡ sum_of (where_done T f) (range (64 * W))
            → a + b ≡ sum_of (where_done (λ u. S u || T u) f) (range (64 * W))
        both_sum f x y =
            ap₂ ◌+◌ x y
            ∙ sym (sum_add (where_done S f) (where_done T f) (range (64 * W)))
            ∙ sum_same (λ u. where_done S f u + where_done T f u) (where_done (λ u. S u || T u) f) (64 * W) (λ u l. sym (either_sum f u (S u) (T u) (apart u)))

        second_gone : g' ≡ sum_of (where_done T (row_gone W far D P₀)) (range (64 * W))
        unfolding drop_set_of row_gone stale_pairs
        second_gone =
            ap (λ (x : RowsDropped). x.gone) r
            ∙ sum_same (where_done T (row_gone W far D (table_bit W t))) (where_done T (row_gone W far D P₀)) (64 * W)
            (second_same (row_gone W far D (table_bit W t)) (row_gone W far D P₀)
            (λ u l e. count_same (64 * W) (stale_pairs far D (table_bit W t) u) (stale_pairs far D P₀ u) (λ v h. ap (λ (b : Bool). b && ltb (far u v) D) (bit_yet u v e l h))))

        second_count : k' ≡ sum_of (where_done T (row_stays W far D P₀)) (range (64 * W))
        unfolding drop_set_of row_stays staying_pairs
        second_count =
            ap (λ (x : RowsDropped). x.left.left.count) r
            ∙ sum_same (where_done T (row_stays W far D (table_bit W t))) (where_done T (row_stays W far D P₀)) (64 * W)
            (second_same (row_stays W far D (table_bit W t)) (row_stays W far D P₀)
            (λ u l e. count_same (64 * W) (staying_pairs far D (table_bit W t) u) (staying_pairs far D P₀ u) (λ v h. ap (λ (b : Bool). b && not (ltb (far u v) D)) (bit_yet u v e l h))))

        second_way : d ≡ max_of (where_done T (row_way W far D P₀)) (range (64 * W))
        unfolding drop_set_of row_way
        second_way =
            ap (λ (x : RowsDropped). x.left.way) r
            ∙ max_same (where_done T (row_way W far D (table_bit W t))) (where_done T (row_way W far D P₀)) (64 * W)
            (second_same (row_way W far D (table_bit W t)) (row_way W far D P₀)
            (λ u l e. max_same (λ v. cond (table_bit W t u v) (min D (far u v)) 0) (λ v. cond (P₀ u v) (min D (far u v)) 0) (64 * W)
            (λ v h. ap (λ (b : Bool). cond b (min D (far u v)) 0) (bit_yet u v e l h))))

        both_way : max w d ≡ max_of (where_done (λ u. S u || T u) (row_way W far D P₀)) (range (64 * W))
        both_way =
            let f : ℕ → ℕ = row_way W far D P₀ in
            ap₂ max set_way second_way
            ∙ sym (max_both (where_done S f) (where_done T f) (64 * W))
            ∙ max_same (λ u. max (where_done S f u) (where_done T f u)) (where_done (λ u. S u || T u) f) (64 * W) (λ u l. sym (either_max f u (S u) (T u)))

        pub set_union : rows_dropped t' (g + g') (k + k') (max w d) ≡ drop_set_of W far D (λ u. S u || T u) t₀
        unfolding drop_set_of
        set_union =
            same_rows
            both_table
            (both_sum (row_gone W far D P₀) set_gone second_gone)
            (both_sum (row_stays W far D P₀) set_count second_count)
            both_way

    -- ---- a set after a part of it, whose pairs that stay are met again

    module _ (U : ℕ → Bool) (part : (u : ℕ) → S u ≡ true → U u ≡ true) {t' : List ℕ} {g' k' d : ℕ} (r : rows_dropped t' g' k' d ≡ drop_set_of W far D U t) where
      -- of a row that was done its pairs that stay are there
      bit_done : (u v : ℕ) → S u ≡ true → u < 64 * W → v < 64 * W → table_bit W t u v ≡ staying_pairs far D P₀ u v
      bit_done u v e l h = bit_left u v l h ∙ left_in S far D P₀ u v e

      -- they stay again, and none goes
      stays_again : (u v : ℕ) → u < 64 * W → v < 64 * W → staying_pairs far D (table_bit W t) u v ≡ staying_pairs far D P₀ u v
      unfolding staying_pairs
      stays_again u v l h = go (known (S u))
        where
          twice : (a b : Bool) → ((a && b) && b) ≡ (a && b)
          twice true true = refl
          twice true false = refl
          twice false b = refl

          go : (S u ≡ true) ⊎ (S u ≡ false) → (table_bit W t u v && not (ltb (far u v) D)) ≡ (P₀ u v && not (ltb (far u v) D))
          go (inl e) = ap (λ (y : Bool). y && not (ltb (far u v) D)) (bit_done u v e l h) ∙ twice (P₀ u v) (not (ltb (far u v) D))
          go (inr e) = ap (λ (y : Bool). y && not (ltb (far u v) D)) (bit_yet u v e l h)

      none_goes : (u v : ℕ) → S u ≡ true → u < 64 * W → v < 64 * W → stale_pairs far D (table_bit W t) u v ≡ false
      unfolding stale_pairs staying_pairs
      none_goes u v e l h = ap (λ (y : Bool). y && ltb (far u v) D) (bit_done u v e l h) ∙ never (P₀ u v) (ltb (far u v) D)
        where
          never : (a b : Bool) → ((a && not b) && b) ≡ false
          never true true = refl
          never true false = refl
          never false b = refl

      again_left : (u v : ℕ) → u < 64 * W → v < 64 * W → pairs_after U far D (table_bit W t) u v ≡ pairs_after U far D P₀ u v
      again_left u v l h = go (known (U u)) (known (S u))
        where
          go : (U u ≡ true) ⊎ (U u ≡ false) → (S u ≡ true) ⊎ (S u ≡ false) → pairs_after U far D (table_bit W t) u v ≡ pairs_after U far D P₀ u v
          go (inl e) s = left_in U far D (table_bit W t) u v e ∙ stays_again u v l h ∙ sym (left_in U far D P₀ u v e)
          go (inr e) (inr s) = left_out U far D (table_bit W t) u v e ∙ bit_yet u v s l h ∙ sym (left_out U far D P₀ u v e)
          go (inr e) (inl s) = absurd (clash (part u s) e)

      again_table : t' ≡ overwrite (encode_table W (pairs_after U far D P₀)) t₀
      unfolding drop_set_of
      again_table =
          let Q = pairs_after U far D (table_bit W t) in
          ap (λ (x : RowsDropped). x.left.left.pairs) r
          ∙ ap (λ (s : List ℕ). overwrite (encode_table W Q) s) set_table
          ∙ table_over W Q (pairs_after S far D P₀) t₀
          ∙ ap (λ (e : List ℕ). overwrite e t₀) (encode_table_ext W Q (pairs_after U far D P₀) again_left)

      again_gone : g + g' ≡ sum_of (where_done U (row_gone W far D P₀)) (range (64 * W))
      unfolding drop_set_of row_gone stale_pairs
      again_gone =
          ap₂ ◌+◌ set_gone (ap (λ (x : RowsDropped). x.gone) r)
          ∙ sym (sum_add (where_done S (row_gone W far D P₀)) (where_done U (row_gone W far D (table_bit W t))) (range (64 * W)))
          ∙ sum_same (λ u. where_done S (row_gone W far D P₀) u + where_done U (row_gone W far D (table_bit W t)) u) (where_done U (row_gone W far D P₀)) (64 * W)
          (λ u l. go u l (known (S u)))
        where
          same_sum : {x y : ℕ} → x ≡ y → 0 + x ≡ y
          same_sum e = omega arith

          go : (u : ℕ) → u < 64 * W → (S u ≡ true) ⊎ (S u ≡ false)
              → where_done S (row_gone W far D P₀) u + where_done U (row_gone W far D (table_bit W t)) u ≡ where_done U (row_gone W far D P₀) u
          go u l (inl s) =
              rw (s, part u s)
              (omega (arith, count_none (stale_pairs far D (table_bit W t) u) (range (64 * W)) (λ v m. none_goes u v s l (range_out (64 * W) m))))
          go u l (inr s) =
              rw s
              (same_sum
              (ap (λ (x : ℕ). cond (U u) x 0)
              (count_same (64 * W) (stale_pairs far D (table_bit W t) u) (stale_pairs far D P₀ u) (λ v h. ap (λ (b : Bool). b && ltb (far u v) D) (bit_yet u v s l h)))))

      again_count : k' ≡ sum_of (where_done U (row_stays W far D P₀)) (range (64 * W))
      unfolding drop_set_of row_stays
      again_count =
          ap (λ (x : RowsDropped). x.left.left.count) r
          ∙ sum_same (where_done U (row_stays W far D (table_bit W t))) (where_done U (row_stays W far D P₀)) (64 * W)
          (λ u l. ap (λ (x : ℕ). cond (U u) x 0)
          (count_same (64 * W) (staying_pairs far D (table_bit W t) u) (staying_pairs far D P₀ u) (λ v h. stays_again u v l h)))

      -- no way of those that stay is above the greatest
      no_greater : (u : ℕ) → S u ≡ true → u < 64 * W → max (row_way W far D P₀ u) (row_way W far D (table_bit W t) u) ≡ row_way W far D P₀ u
      unfolding row_way staying_pairs
      no_greater u e l =
          let f : ℕ → ℕ = λ v. cond (P₀ u v) (min D (far u v)) 0 in
          let f' : ℕ → ℕ = λ v. cond (table_bit W t u v) (min D (far u v)) 0 in
          sym (max_both f f' (64 * W))
          ∙ max_same (λ v. max (f v) (f' v)) f (64 * W)
          (λ v h. ap (λ (b : Bool). max (f v) (cond b (min D (far u v)) 0)) (bit_done u v e l h) ∙ less (min D (far u v)) (P₀ u v) (not (ltb (far u v) D)))
        where
          less : (x : ℕ) (a b : Bool) → max (cond a x 0) (cond (a && b) x 0) ≡ cond a x 0
          less x true true = omega arith
          less x true false = omega arith
          less x false b = omega arith

      way_yet : (u : ℕ) → S u ≡ false → u < 64 * W → row_way W far D (table_bit W t) u ≡ row_way W far D P₀ u
      unfolding row_way
      way_yet u e l =
          max_same (λ v. cond (table_bit W t u v) (min D (far u v)) 0) (λ v. cond (P₀ u v) (min D (far u v)) 0) (64 * W)
          (λ v h. ap (λ (b : Bool). cond b (min D (far u v)) 0) (bit_yet u v e l h))

      again_way : max w d ≡ max_of (where_done U (row_way W far D P₀)) (range (64 * W))
      unfolding drop_set_of
      again_way =
          ap₂ max set_way (ap (λ (x : RowsDropped). x.left.way) r)
          ∙ sym (max_both (where_done S (row_way W far D P₀)) (where_done U (row_way W far D (table_bit W t))) (64 * W))
          ∙ max_same (λ u. max (where_done S (row_way W far D P₀) u) (where_done U (row_way W far D (table_bit W t)) u)) (where_done U (row_way W far D P₀)) (64 * W)
          (λ u l. go u l (known (S u)))
        where
          go : (u : ℕ) → u < 64 * W → (S u ≡ true) ⊎ (S u ≡ false)
              → max (where_done S (row_way W far D P₀) u) (where_done U (row_way W far D (table_bit W t)) u) ≡ where_done U (row_way W far D P₀) u
          go u l (inl s) = rw (s, part u s) (no_greater u s l)
          go u l (inr s) = rw s (omega (arith, ap (λ (x : ℕ). cond (U u) x 0) (way_yet u s l)))

      pub set_again : rows_dropped t' (g + g') k' (max w d) ≡ drop_set_of W far D U t₀
      unfolding drop_set_of
      set_again = same_rows again_table again_gone again_count again_way
