-- The loops of `drop_likely` and `drop_dense_rows`: after each row the statement itself, `drop_set_of`, for the rows done; and what the first makes of all, called
-- once or twice by `drop_rows`. Assumes nothing.
use mathlib.Core.Path.{◌≡◌, refl, sym, ap, ap₂, ◌∙◌}
use mathlib.Core.Logic.{◌≢◌, ◌⊎◌, inl, inr}
use mathlib.Core.Bool.{Bool, true, false, cond, ◌&&◌, ◌||◌}
use mathlib.Core.List.{List}
use Prim.Native.Nat.{ℕ, ◌+◌, ◌-◌, ◌*◌, ◌^◌, ◌≤◌, ◌<◌, max}
use native.Mathlib.Omega.{arith}
use lib.Dec.{eqb, ltb}
use lib.ListN.{length, get_or}
use borrow.Author.Tests.{eq-eqb, ne_eqb, lt-ltb, le-ltb}
use Rattle.std.proofs.lemmas.Bool.{cases_eq, cases_lt}
use Rattle.lists.specs.Lists.{range, overwrite}
use Rattle.lists.proofs.Tests.{clash}
use Rattle.lists.proofs.Sums.{sum_le}
use Rattle.lists.proofs.Ranges.{sum_same, max_same}
use Rattle.graph.specs.Chart.{Pairs, count_pairs}
use Rattle.graph.specs.Opening.{staying_pairs, shrunk_candidate}
use Rattle.rows.specs.Rows.{table_bit}
use Rattle.rows.proofs.Wholes.{encode_table_ext}
use Rattle.pairs.specs.Pairs.{tally, tally_of}
use Rattle.stale_pairs.specs.Stale.{dropped, RowsDropped, rows_dropped, pairs_after, where_done, among, row_stays, row_way, drop_set_of, drop_of, Bare, pairs_in, pairs_below}
use Rattle.stale_pairs.proofs.RowSets.{pairs_of, pairs_few, known, set_none, set_same, bit_yet, set_counted, met_bare}
use Rattle.stale_pairs.proofs.RowUnions.{set_union, set_again}

-- all rows of a table have its pairs, and no table has more than a count can tell
pub below_all : (W : ℕ) (t : List ℕ) → count_pairs (range (64 * W)) (table_bit W t) ≡ pairs_below W (64 * W) t
unfolding count_pairs pairs_below pairs_in
below_all W t = sum_same (pairs_of W t) (where_done (λ u. ltb u (64 * W)) (pairs_of W t)) (64 * W) (λ u l. rw (lt-ltb u (64 * W) l))

-- the pairs of those rows among the first that pass a test are no more than all of these have
pub likely_first : (W n : ℕ) (T : ℕ → Bool) (t : List ℕ) {total : ℕ} → pairs_below W n t ≤ total → pairs_in W (among n T) t ≤ total
unfolding pairs_below pairs_in
likely_first W n T t few =
    omega (arith, few, sum_le (where_done (among n T) (pairs_of W t)) (where_done (λ u. ltb u n) (pairs_of W t)) (range (64 * W)) (λ u m. go (pairs_of W t u) (ltb u n) (T u)))
  where
    go : (x : ℕ) (a b : Bool) → cond (a && b) x 0 ≤ cond a x 0
    go x true true = omega arith
    go x true false = omega arith
    go x false b = omega arith

module _ (W : ℕ) (far : ℕ → ℕ → ℕ) (D : ℕ) (t₀ : List ℕ) where
  abbrev P₀ : Pairs
  P₀ = table_bit W t₀

  -- THE INVARIANT: of the first n rows those below u are passed, and of these the ones that pass the test are done
  pub record RowsDropping (T : ℕ → Bool) (n : ℕ) (t : List ℕ) (g k w u : ℕ) : Type 0 where
    pub within : u ≤ n
    pub size : length t ≡ length t₀
    pub is : rows_dropped t g k w ≡ drop_set_of W far D (among u T) t₀

  -- no row is done
  pub rows_start : {T : ℕ → Bool} {n : ℕ} → W * (64 * W) ≤ length t₀ → ((i : ℕ) → i < W * (64 * W) → get_or t₀ i 0 < 2 ^ 64) → RowsDropping T n t₀ 0 0 0 0
  rows_start {T} l fits = record {
    within = omega arith;
    size = refl;
    is = set_none W far D t₀ (among 0 T) l fits (λ u. ap (λ (b : Bool). b && T u) (le-ltb u 0 (omega arith)));
  }

  module _ {T : ℕ → Bool} {n : ℕ} {t : List ℕ} {g k w u : ℕ} (i : RowsDropping T n t g k w u) where
    -- the rows up to q besides, of which none passes the test
    pub rows_left_out : {q : ℕ} → u ≤ q → q ≤ n → ((p : ℕ) → u ≤ p → p < q → T p ≡ false) → RowsDropping T n t g k w q
    rows_left_out {q} a b h = record {
      within = b;
      size = i.size;
      is = i.is ∙ set_same W far D t₀ (among u T) (among q T) (λ p l. inl (same p (cases_lt p u) (cases_lt p q)));
    }
      where
        same : (p : ℕ) → (p < u) ⊎ (u ≤ p) → (p < q) ⊎ (q ≤ p) → among u T p ≡ among q T p
        same p (inl c) d = ap (λ (x : Bool). x && T p) (lt-ltb p u c ∙ sym (lt-ltb p q (omega arith)))
        same p (inr c) (inl d) = rw (le-ltb p u c, lt-ltb p q d, h p c d) refl
        same p (inr c) (inr d) = ap (λ (x : Bool). x && T p) (le-ltb p u c ∙ sym (le-ltb p q d))

    -- the rows up to q besides, which have no pair
    pub rows_bare : {q : ℕ} → Bare W n t u q → RowsDropping T n t g k w q
    rows_bare {q} r = record {
      within = r.within;
      size = i.size;
      is = i.is ∙ set_same W far D t₀ (among u T) (among q T) (λ p l. same p l (cases_lt p u) (cases_lt p q));
    }
      where
        same : (p : ℕ) → p < 64 * W → (p < u) ⊎ (u ≤ p) → (p < q) ⊎ (q ≤ p) → (among u T p ≡ among q T p) ⊎ ((v : ℕ) → v < 64 * W → P₀ p v ≡ false)
        same p l (inl c) d = inl (ap (λ (x : Bool). x && T p) (lt-ltb p u c ∙ sym (lt-ltb p q (omega (arith, r.after)))))
        same p l (inr c) (inl d) = inr (λ v h. sym (bit_yet W far D t₀ (among u T) i.is p v (ap (λ (x : Bool). x && T p) (le-ltb p u c)) l h) ∙ r.none p v c d h)
        same p l (inr c) (inr d) = inl (ap (λ (x : Bool). x && T p) (le-ltb p u c ∙ sym (le-ltb p q d)))

    -- as many as there can be are met: the rows left have none
    pub rows_met : {total : ℕ} → n ≤ 64 * W → pairs_in W (among n T) t₀ ≤ total → g + k ≡ total → RowsDropping T n t g k w n
    rows_met m few e = record {
      within = omega arith;
      size = i.size;
      is = i.is ∙ set_same W far D t₀ (among u T) (among n T) (met_bare W far D t₀ (among u T) i.is (among n T) part few e);
    }
      where
        part : (p : ℕ) → among u T p ≡ true → among n T p ≡ true
        part p e = go (cases_lt p u)
          where
            go : (p < u) ⊎ (u ≤ p) → among n T p ≡ true
            go (inl c) = ap (λ (b : Bool). b && T p) (lt-ltb p n (omega (arith, i.within)) ∙ sym (lt-ltb p u c)) ∙ e
            go (inr c) = absurd (clash e (ap (λ (b : Bool). b && T p) (le-ltb p u c)))

    -- one row more, done if it passes the test
    module _ {t' : List ℕ} {g' k' d : ℕ} (r : rows_dropped t' g' k' d ≡ drop_set_of W far D (λ p. eqb p u && T p) t) where
      apart : (p : ℕ) → (eqb p u && T p) ≡ true → among u T p ≡ false
      apart p e = go (cases_eq p u)
        where
          go : (p ≡ u) ⊎ (p ≢ u) → among u T p ≡ false
          go (inl q) = ap (λ (b : Bool). b && T p) (le-ltb p u (omega arith))
          go (inr q) = absurd (clash e (ap (λ (b : Bool). b && T p) (ne_eqb p u q)))

      one_more : (p : ℕ) → (among u T p || (eqb p u && T p)) ≡ among (u + 1) T p
      one_more p = go (cases_eq p u) (cases_lt p u)
        where
          or_none : (b : Bool) → (b || false) ≡ b
          or_none true = refl
          or_none false = refl

          go : (p ≡ u) ⊎ (p ≢ u) → (p < u) ⊎ (u ≤ p) → (among u T p || (eqb p u && T p)) ≡ among (u + 1) T p
          go (inl q) c = rw (q, eq-eqb u u refl, le-ltb u u (omega arith), lt-ltb u (u + 1) (omega arith)) refl
          go (inr q) (inl c) = rw (ne_eqb p u q, lt-ltb p u c, lt-ltb p (u + 1) (omega arith)) (or_none (T p))
          go (inr q) (inr c) = rw (ne_eqb p u q, le-ltb p u c, le-ltb p (u + 1) (omega arith)) refl

      pub rows_more : {w' : ℕ} → u < n → w' ≡ max w d → length t' ≡ length t → RowsDropping T n t' (g + g') (k + k') w' (u + 1)
      rows_more l e s = record {
        within = omega arith;
        size = s ∙ i.size;
        is =
            rw e (set_union W far D t₀ (among u T) i.is (λ p. eqb p u && T p) apart r
            ∙ set_same W far D t₀ (λ p. among u T p || (eqb p u && T p)) (among (u + 1) T) (λ p l. inl (one_more p)));
      }

      -- at most as many as there can be
      pub rows_few : W < 513 → g + g' + (k + k') ≤ 32768 * 32768
      rows_few z = omega (arith, set_counted W far D t₀ (λ p. among u T p || (eqb p u && T p)) (set_union W far D t₀ (among u T) i.is (λ p. eqb p u && T p) apart r), pairs_few W t₀ (λ p. among u T p || (eqb p u && T p)) z)

    -- no row is left
    pub rows_end : n ≤ u → rows_dropped t g k w ≡ drop_set_of W far D (among n T) t₀
    rows_end z = i.is ∙ ap (λ (j : ℕ). drop_set_of W far D (among j T) t₀) (omega (arith, i.within))

  -- ---- one row, done if it passes a test

  pub one_done : (T : ℕ → Bool) (u : ℕ) {t : List ℕ} {g k w : ℕ} → T u ≡ true → rows_dropped t g k w ≡ drop_set_of W far D (λ p. eqb p u) t₀ → rows_dropped t g k w ≡ drop_set_of W far D (λ p. eqb p u && T p) t₀
  one_done T u e r = r ∙ set_same W far D t₀ (λ p. eqb p u) (λ p. eqb p u && T p) (λ p l. inl (go p (cases_eq p u)))
    where
      go : (p : ℕ) → (p ≡ u) ⊎ (p ≢ u) → eqb p u ≡ (eqb p u && T p)
      go p (inl q) = rw (q, eq-eqb u u refl, e) refl
      go p (inr q) = rw (ne_eqb p u q) refl

  -- ---- those first that are thought to have a pair; if some are missed, all that have one

  module _ (T : ℕ → Bool) (n : ℕ) {total : ℕ} (few : pairs_below W n t₀ ≤ total) {t : List ℕ} {g k w : ℕ}
      (i : rows_dropped t g k w ≡ drop_set_of W far D (among n T) t₀) where
    part_lem : (p : ℕ) → among n T p ≡ true → ltb p n ≡ true
    part_lem p = go (ltb p n) (T p)
      where
        go : (a b : Bool) → (a && b) ≡ true → a ≡ true
        go true b e = refl
        go false b e = e

    -- no more are met than there can be
    pub likely_few : g + k ≤ total
    likely_few = omega (arith, set_counted W far D t₀ (among n T) i, likely_first W n T t₀ few)

    -- all are met
    pub likely_all : g + k ≡ total → rows_dropped t g k w ≡ drop_set_of W far D (λ p. ltb p n) t₀
    unfolding pairs_below
    likely_all e = i ∙ set_same W far D t₀ (among n T) (λ p. ltb p n) (met_bare W far D t₀ (among n T) i (λ p. ltb p n) part_lem few e)

    -- those gone stand no more
    pub left_few : pairs_below W n t ≤ total - g
    unfolding pairs_below
    left_few =
        let all = drop_set_of W far D (λ p. ltb p n) t in
        omega (
          arith,
          few,
          set_counted W far D t (λ p. ltb p n) {t = all.left.left.pairs} {g = all.gone} {k = all.left.left.count} {w = all.left.way} refl,
          set_counted W far D t₀ (λ p. ltb p n) (set_again W far D t₀ (among n T) i (λ p. ltb p n) part_lem {t' = all.left.left.pairs} {g' = all.gone} {k' = all.left.left.count} {d = all.left.way} refl),
        )

    -- all that have one are done
    pub again_all : (T' : ℕ → Bool) {t' : List ℕ} {g' k' d w' : ℕ} → ((p v : ℕ) → p < n → v < 64 * W → T' p ≡ false → table_bit W t p v ≡ false)
        → rows_dropped t' g' k' d ≡ drop_set_of W far D (among n T') t → w' ≡ max w d → rows_dropped t' (g + g') k' w' ≡ drop_set_of W far D (λ p. ltb p n) t₀
    again_all T' h r e =
        rw e
        (set_again W far D t₀ (among n T) i (λ p. ltb p n) part_lem
        (r ∙ set_same W far D t (among n T') (λ p. ltb p n) (λ p l. go p (cases_lt p n) (known (T' p)))))
      where
        go : (p : ℕ) → (p < n) ⊎ (n ≤ p) → (T' p ≡ true) ⊎ (T' p ≡ false) → (among n T' p ≡ ltb p n) ⊎ ((v : ℕ) → v < 64 * W → table_bit W t p v ≡ false)
        go p (inl c) (inl o) = inl (rw (lt-ltb p n c, o) refl)
        go p (inl c) (inr o) = inr (λ v l. h p v c l o)
        go p (inr c) o = inl (rw (le-ltb p n c) refl)

  -- ALL ROWS are the table: `drop_stale` is `drop_rows` over 64 W
  pub all_rows : {t : List ℕ} {g k w : ℕ} → rows_dropped t g k w ≡ drop_set_of W far D (λ p. ltb p (64 * W)) t₀ → dropped (tally t k) w ≡ drop_of W far D t₀
  unfolding drop_set_of drop_of tally_of shrunk_candidate count_pairs row_stays row_way pairs_after
  all_rows q =
      ap (λ (x : RowsDropped). x.left) q
      ∙ ap₂ dropped
      (ap₂ tally
      (ap (λ (e : List ℕ). overwrite e t₀)
      (encode_table_ext W (pairs_after (λ p. ltb p (64 * W)) far D P₀) (staying_pairs far D P₀) (λ p v a b. rw (lt-ltb p (64 * W) a) refl)))
      (sum_same (where_done (λ p. ltb p (64 * W)) (row_stays W far D P₀)) (row_stays W far D P₀) (64 * W) (λ p l. rw (lt-ltb p (64 * W) l) refl)))
      (max_same (where_done (λ p. ltb p (64 * W)) (row_way W far D P₀)) (row_way W far D P₀) (64 * W) (λ p l. rw (lt-ltb p (64 * W) l) refl))

  -- no row is left of those that are looked for as they come
  pub dense_end : {n : ℕ} {t : List ℕ} {g k w u : ℕ} → RowsDropping (λ p. true) n t g k w u → n ≤ u → rows_dropped t g k w ≡ drop_set_of W far D (λ p. ltb p n) t₀
  dense_end {n} i z = rows_end i z ∙ set_same W far D t₀ (among n (λ p. true)) (λ p. ltb p n) (λ p l. inl (go (ltb p n)))
    where
      go : (b : Bool) → (b && true) ≡ b
      go true = refl
      go false = refl
