-- ROWS DONE, BY ANY TEST: `drop_set_of` (specs/Stale), in whatever order its rows are done. Rows without a pair do not count; and where those met are as many
-- as stand in the table, the rows left have none. Two sets one after the other are in RowUnions. Assumes nothing.
use mathlib.Core.Path.{◌≡◌, refl, sym, ap, ap₂, ◌∙◌, subst}
use mathlib.Core.Logic.{◌⊎◌, inl, inr}
use mathlib.Core.Bool.{Bool, true, false, cond, not, ◌&&◌, ◌||◌}
use mathlib.Core.List.{List}
use Prim.Native.Nat.{ℕ, zero, suc, ◌+◌, ◌-◌, ◌*◌, ◌^◌, ◌≤◌, ◌<◌, min, max}
use native.Mathlib.Numerals.{add-one}
use native.Mathlib.Omega.{arith}
use lib.Dec.{ltb}
use lib.ListN.{length, get_or}
use Rattle.lists.specs.Lists.{range, countb, sum_of, max_of, overwrite}
use Rattle.lists.proofs.Tests.{clash}
use Rattle.lists.proofs.Members.{length-range, range_in, range_out}
use Rattle.lists.proofs.Counts.{count_le_length, count_none, count-zero}
use Rattle.lists.proofs.Sums.{sum_add}
use Rattle.lists.proofs.RangeCounts.{count_same}
use Rattle.lists.proofs.Ranges.{sum_skip, sum_nothing, sum_same, sum_few, sum_has, max-nothing, max_more, max_none, max_same}
use Rattle.graph.specs.Chart.{Pairs}
use Rattle.graph.specs.Opening.{staying_pairs}
use Rattle.rows.specs.Rows.{table_bit, encode_table}
use Rattle.rows.proofs.Written.{table_at}
use Rattle.rows.proofs.Wholes.{table_whole, encode_table_ext}
use Rattle.pairs.proofs.Tallies.{table_over}
use Rattle.stale_pairs.specs.Stale.{RowsDropped, rows_dropped, stale_pairs, pairs_after, where_done, row_gone, row_stays, row_way, drop_set_of, pairs_in}
use Rattle.stale_pairs.proofs.StaleRow.{count_parted, same_rows}

-- ---- numbers of some rows

-- of a row that has nothing it does not matter whether it is done
idle : {x : ℕ} (a b : Bool) → x ≡ 0 → cond a x 0 ≡ cond b x 0
idle true true e = refl
idle true false e = e
idle false true e = sym e
idle false false e = refl

module _ (W : ℕ) (t : List ℕ) where
  abbrev pub pairs_of : ℕ → ℕ
  pairs_of u = countb (table_bit W t u) (range (64 * W))

  pub pairs_few : (S : ℕ → Bool) → W < 513 → pairs_in W S t ≤ 32768 * 32768
  unfolding pairs_in
  pairs_few S z =
      let few = sum_few (where_done S pairs_of) 32768 (64 * W) (λ u l. one (S u) (omega (arith, count_le_length (table_bit W t u) (range (64 * W)), length-range (64 * W)))) in
      omega (arith, few)
    where
      one : {x : ℕ} (b : Bool) → x ≤ 32768 → cond b x 0 ≤ 32768
      one true l = l
      one false l = omega arith

pub known : (b : Bool) → (b ≡ true) ⊎ (b ≡ false)
known true = inl refl
known false = inr refl

-- a row that passes the test has its pairs that stay, another all of its
pub left_in : (S : ℕ → Bool) (far : ℕ → ℕ → ℕ) (D : ℕ) (P : Pairs) (u v : ℕ) → S u ≡ true → pairs_after S far D P u v ≡ staying_pairs far D P u v
unfolding pairs_after
left_in S far D P u v e = rw e

pub left_out : (S : ℕ → Bool) (far : ℕ → ℕ → ℕ) (D : ℕ) (P : Pairs) (u v : ℕ) → S u ≡ false → pairs_after S far D P u v ≡ P u v
unfolding pairs_after
left_out S far D P u v e = rw e

module _ (W : ℕ) (far : ℕ → ℕ → ℕ) (D : ℕ) (t₀ : List ℕ) where
  abbrev P₀ : Pairs
  P₀ = table_bit W t₀

  abbrev IsBare : ℕ → Type 0
  IsBare u = (v : ℕ) → v < 64 * W → P₀ u v ≡ false

  -- ---- no row is done

  pub set_none : (S : ℕ → Bool) → W * (64 * W) ≤ length t₀ → ((i : ℕ) → i < W * (64 * W) → get_or t₀ i 0 < 2 ^ 64) → ((u : ℕ) → S u ≡ false)
      → rows_dropped t₀ 0 0 0 ≡ drop_set_of W far D S t₀
  unfolding drop_set_of
  set_none S long fits h =
      same_rows
      (table_whole W t₀ long fits ∙ ap (λ (e : List ℕ). overwrite e t₀) (encode_table_ext W P₀ (pairs_after S far D P₀) (λ u v a b. sym (left_out S far D P₀ u v (h u)))))
      (sym (nothing (row_gone W far D P₀)))
      (sym (nothing (row_stays W far D P₀)))
      (sym (max_none (where_done S (row_way W far D P₀)) (64 * W) (λ u l. zero_of (row_way W far D P₀) u)))
    where
      zero_of : (f : ℕ → ℕ) (u : ℕ) → where_done S f u ≡ 0
      zero_of f u = rw (h u)

      nothing : (f : ℕ → ℕ) → sum_of (where_done S f) (range (64 * W)) ≡ 0
      nothing f = sum_skip (where_done S f) 0 (64 * W) (omega arith) (λ u a b. zero_of f u) ∙ sum_nothing (where_done S f)

  -- ---- two tests that differ only in rows without a pair

  bare_gone : (u : ℕ) → IsBare u → row_gone W far D P₀ u ≡ 0
  unfolding row_gone stale_pairs
  bare_gone u b = count_none (λ v. P₀ u v && ltb (far u v) D) (range (64 * W)) (λ v m. ap (λ (y : Bool). y && ltb (far u v) D) (b v (range_out (64 * W) m)))

  bare_stays : (u : ℕ) → IsBare u → row_stays W far D P₀ u ≡ 0
  unfolding row_stays staying_pairs
  bare_stays u b = count_none (λ v. P₀ u v && not (ltb (far u v) D)) (range (64 * W)) (λ v m. ap (λ (y : Bool). y && not (ltb (far u v) D)) (b v (range_out (64 * W) m)))

  bare_way : (u : ℕ) → IsBare u → row_way W far D P₀ u ≡ 0
  unfolding row_way
  bare_way u b = max_none (λ v. cond (P₀ u v) (min D (far u v)) 0) (64 * W) (λ v l. ap (λ (y : Bool). cond y (min D (far u v)) 0) (b v l))

  pub set_same : (S T : ℕ → Bool) → ((u : ℕ) → u < 64 * W → (S u ≡ T u) ⊎ IsBare u) → drop_set_of W far D S t₀ ≡ drop_set_of W far D T t₀
  unfolding drop_set_of staying_pairs pairs_after
  set_same S T h =
      same_rows
      (ap (λ (e : List ℕ). overwrite e t₀) (encode_table_ext W (pairs_after S far D P₀) (pairs_after T far D P₀) (λ u v l m. left u v m (h u l))))
      (sum_same (where_done S (row_gone W far D P₀)) (where_done T (row_gone W far D P₀)) (64 * W) (λ u l. number (row_gone W far D P₀) u (bare_gone u) (h u l)))
      (sum_same (where_done S (row_stays W far D P₀)) (where_done T (row_stays W far D P₀)) (64 * W) (λ u l. number (row_stays W far D P₀) u (bare_stays u) (h u l)))
      (max_same (where_done S (row_way W far D P₀)) (where_done T (row_way W far D P₀)) (64 * W) (λ u l. number (row_way W far D P₀) u (bare_way u) (h u l)))
    where
      number : (f : ℕ → ℕ) (u : ℕ) → (IsBare u → f u ≡ 0) → (S u ≡ T u) ⊎ IsBare u → where_done S f u ≡ where_done T f u
      number f u z (inl e) = ap (λ (b : Bool). cond b (f u) 0) e
      number f u z (inr b) = idle (S u) (T u) (z b)

      bare_left : (R : ℕ → Bool) (u v : ℕ) → P₀ u v ≡ false → pairs_after R far D P₀ u v ≡ false
      bare_left R u v e = go (known (R u))
        where
          go : (R u ≡ true) ⊎ (R u ≡ false) → pairs_after R far D P₀ u v ≡ false
          go (inl k) = left_in R far D P₀ u v k ∙ ap (λ (y : Bool). y && not (ltb (far u v) D)) e
          go (inr k) = left_out R far D P₀ u v k ∙ e

      left : (u v : ℕ) → v < 64 * W → (S u ≡ T u) ⊎ IsBare u → pairs_after S far D P₀ u v ≡ pairs_after T far D P₀ u v
      left u v l (inl e) = ap (λ (b : Bool). cond b (staying_pairs far D P₀ u v) (P₀ u v)) e
      left u v l (inr b) = bare_left S u v (b v l) ∙ sym (bare_left T u v (b v l))

  module _ (S : ℕ → Bool) {t : List ℕ} {g k w : ℕ} (i : rows_dropped t g k w ≡ drop_set_of W far D S t₀) where
    -- the statement, part by part
    pub set_table : t ≡ overwrite (encode_table W (pairs_after S far D P₀)) t₀
    unfolding drop_set_of
    set_table = ap (λ (x : RowsDropped). x.left.left.pairs) i

    pub set_gone : g ≡ sum_of (where_done S (row_gone W far D P₀)) (range (64 * W))
    unfolding drop_set_of
    set_gone = ap (λ (x : RowsDropped). x.gone) i

    pub set_count : k ≡ sum_of (where_done S (row_stays W far D P₀)) (range (64 * W))
    unfolding drop_set_of
    set_count = ap (λ (x : RowsDropped). x.left.left.count) i

    pub set_way : w ≡ max_of (where_done S (row_way W far D P₀)) (range (64 * W))
    unfolding drop_set_of
    set_way = ap (λ (x : RowsDropped). x.left.way) i

    pub bit_left : (u v : ℕ) → u < 64 * W → v < 64 * W → table_bit W t u v ≡ pairs_after S far D P₀ u v
    bit_left u v l h = ap (λ (s : List ℕ). table_bit W s u v) set_table ∙ table_at W (pairs_after S far D P₀) t₀ u v l h

    -- the rows that are not done are as they were
    pub bit_yet : (u v : ℕ) → S u ≡ false → u < 64 * W → v < 64 * W → table_bit W t u v ≡ P₀ u v
    bit_yet u v e l h = bit_left u v l h ∙ left_out S far D P₀ u v e

    -- ---- those gone and those that stay are the pairs of the rows done

    pub set_counted : g + k ≡ pairs_in W S t₀
    unfolding pairs_in row_gone row_stays
    set_counted =
        ap₂ ◌+◌ set_gone set_count
        ∙ sym (sum_add (where_done S (row_gone W far D P₀)) (where_done S (row_stays W far D P₀)) (range (64 * W)))
        ∙ sum_same (λ u. where_done S (row_gone W far D P₀) u + where_done S (row_stays W far D P₀) u) (where_done S (pairs_of W t₀)) (64 * W) (λ u l. one u (S u))
      where
        one : (u : ℕ) (b : Bool) → cond b (row_gone W far D P₀ u) 0 + cond b (row_stays W far D P₀ u) 0 ≡ cond b (pairs_of W t₀ u) 0
        one u true = sym (count_parted far D P₀ u (range (64 * W)))
        one u false = refl

    -- if these are as many as stand in the rows of a greater set, then the others of that have none
    pub met_bare : (T : ℕ → Bool) {total : ℕ} → ((u : ℕ) → S u ≡ true → T u ≡ true) → pairs_in W T t₀ ≤ total → g + k ≡ total
        → (u : ℕ) → u < 64 * W → (S u ≡ T u) ⊎ IsBare u
    unfolding pairs_in
    met_bare T {total} part few e u l = go (known (S u)) (known (T u))
      where
        -- what the greater set has besides
        more : ℕ → ℕ
        more u = where_done T (pairs_of W t₀) u - where_done S (pairs_of W t₀) u

        parted_by : (p : ℕ) (a b : Bool) → (a ≡ true → b ≡ true) → cond b (pairs_of W t₀ p) 0 ≡ cond a (pairs_of W t₀ p) 0 + (cond b (pairs_of W t₀ p) 0 - cond a (pairs_of W t₀ p) 0)
        parted_by p true b h = rw (h refl) (omega arith)
        parted_by p false b h = omega arith

        no_more : more u ≡ 0
        no_more =
            omega (
              arith,
              sum_has more (64 * W) u l,
              sum_add (where_done S (pairs_of W t₀)) more (range (64 * W)),
              sum_same (where_done T (pairs_of W t₀)) (λ p. where_done S (pairs_of W t₀) p + more p) (64 * W) (λ p h. parted_by p (S p) (T p) (part p)),
              set_counted,
              few,
              e,
            )

        bare : S u ≡ false → T u ≡ true → IsBare u
        bare a b v h =
            count-zero (P₀ u) (range (64 * W)) (let z : cond (T u) (pairs_of W t₀ u) 0 - cond (S u) (pairs_of W t₀ u) 0 ≡ 0 = no_more in let y : pairs_of W t₀ u - 0 ≡ 0 = subst (λ (x : Bool). cond true (pairs_of W t₀ u) 0 - cond x (pairs_of W t₀ u) 0 ≡ 0) a (subst (λ (x : Bool). cond x (pairs_of W t₀ u) 0 - cond (S u) (pairs_of W t₀ u) 0 ≡ 0) b z) in omega arith)
            (range_in (64 * W) h)

        go : (S u ≡ true) ⊎ (S u ≡ false) → (T u ≡ true) ⊎ (T u ≡ false) → (S u ≡ T u) ⊎ IsBare u
        go (inl a) b = inl (a ∙ sym (part u a))
        go (inr a) (inr b) = inl (a ∙ sym b)
        go (inr a) (inl b) = inr (bare a b)
