-- The loop of `drop_row`: the pairs of row u below `at` are dropped where they are stale, those gone and those that stay are counted, and their
-- greatest way is known. Assumes nothing.
use mathlib.Core.Path.{◌≡◌, refl, sym, ap, ap₂, ◌∙◌}
use mathlib.Core.Logic.{◌≢◌, ◌⊎◌, inl, inr}
use mathlib.Core.Bool.{Bool, true, false, cond, not, ◌&&◌, ◌||◌}
use mathlib.Core.List.{List}
use Prim.Native.Nat.{ℕ, ◌+◌, ◌*◌, ◌/◌, ◌^◌, ◌≤◌, ◌<◌, min, max}
use native.Mathlib.Omega.{arith}
use lib.Dec.{eqb, ltb}
use lib.ListN.{length, get_or, set, length-set}
use lib.Seq.{set-get_or}
use borrow.Author.Tests.{eq-eqb, ne_eqb, lt-ltb, le-ltb}
use Rattle.std.proofs.lemmas.Bool.{cases_eq, cases_lt}
use Rattle.lists.specs.Lists.{range, countb, sum_of, max_of, overwrite}
use Rattle.lists.proofs.Members.{length-range}
use Rattle.lists.proofs.Counts.{count_le_length, count_ext, count-or, count_none}
use Rattle.lists.proofs.RangeCounts.{count_same, count_split}
use Rattle.words.specs.Bits.{bit, word_of}
use Rattle.words.proofs.Bits.{bit_of_zero, word_of_ext, word_of-none}
use Rattle.graph.specs.Chart.{Pairs}
use Rattle.rows.specs.Rows.{table_bit, encode_table}
use Rattle.rows.proofs.Written.{table_at, table_word}
use Rattle.rows.proofs.Wholes.{table_whole, encode_table_ext}
use Rattle.rows.proofs.WordPuts.{put_word_lem}
use Rattle.pairs.specs.Pairs.{tally}
use Rattle.stale_pairs.specs.Stale.{dropped, rows_dropped, stale_pairs, pairs_after, row_gone, row_stays, row_way, staying_bit, stale_bit, greatest_bit, WordSifted, sifted, sift_of, where_done, drop_set_of}
use Rattle.lists.proofs.Ranges.{sum_nothing, sum_but, sum_skip, count_nothing, max-nothing, max_put, max_none, max_same, max-split}
use Rattle.graph.specs.Opening.{staying_pairs}

-- a pair goes or stays
pub count_parted : (far : ℕ → ℕ → ℕ) (D : ℕ) (P : Pairs) (u : ℕ) (vs : List ℕ)
    → countb (P u) vs ≡ countb (stale_pairs far D P u) vs + countb (staying_pairs far D P u) vs
unfolding stale_pairs staying_pairs
count_parted far D P u vs =
    count_ext (P u) (λ v. (P u v && ltb (far u v) D) || (P u v && not (ltb (far u v) D))) vs (λ v m. either (P u v) (ltb (far u v) D))
    ∙ count-or (λ v. P u v && ltb (far u v) D) (λ v. P u v && not (ltb (far u v) D)) vs (λ v. one (P u v) (ltb (far u v) D))
  where
    either : (a b : Bool) → a ≡ ((a && b) || (a && not b))
    either true true = refl
    either true false = refl
    either false b = refl

    one : (a b : Bool) → (a && b) ≡ true → (a && not b) ≡ false
    one true true e = refl
    one true false e = sym e
    one false b e = refl

-- what is said of rows done, part by part
pub same_rows : {t t' : List ℕ} {g g' n n' w w' : ℕ} → t ≡ t' → g ≡ g' → n ≡ n' → w ≡ w' → rows_dropped t g n w ≡ rows_dropped t' g' n' w'
same_rows a b c d = ap₂ (λ x (g : ℕ). record { left = x; gone = g }) (ap₂ dropped (ap₂ tally a c) d) b

-- of one row alone a sum has what the row has, and so has the greatest number
module _ (f : ℕ → ℕ) (n u : ℕ) (l : u < n) where
  abbrev alone : ℕ → ℕ
  alone = where_done (λ p. eqb p u) f

  alone_here : alone u ≡ f u
  alone_here = rw (eq-eqb u u refl)

  alone_else : (p : ℕ) → p ≢ u → alone p ≡ 0
  alone_else p ne = rw (ne_eqb p u ne)

  sum_one : sum_of alone (range n) ≡ f u
  sum_one =
      omega (
        arith,
        sum_but alone (λ p. 0) n u l (λ p m ne. alone_else p ne),
        sum_skip (λ p. 0) 0 n (omega arith) (λ p a b. refl),
        sum_nothing (λ p. 0),
        alone_here,
      )

  max_one : max_of alone (range n) ≡ f u
  max_one = omega (arith, max_put (λ p. 0) alone n u l (λ p m ne. sym (alone_else p ne)) refl, max_none (λ p. 0) n (λ p m. refl), alone_here)

module _ (W : ℕ) (far : ℕ → ℕ → ℕ) (D u : ℕ) (t₀ : List ℕ) where
  -- the way of a pair of the row, 0 where there is none
  unfoldable pub way_at : ℕ → ℕ
  way_at v = cond (table_bit W t₀ u v) (min D (far u v)) 0

  -- the pairs left when those of the row below `at` are looked at
  unfoldable pub left_below : ℕ → Pairs
  left_below at p v = cond (eqb p u && ltb v at) (staying_pairs far D (table_bit W t₀) p v) (table_bit W t₀ p v)

  pub record RowDropping (t : List ℕ) (g n w at : ℕ) : Type 0 where
    pub table : t ≡ overwrite (encode_table W (left_below at)) t₀
    pub size : length t ≡ length t₀
    pub gone : g ≡ countb (stale_pairs far D (table_bit W t₀) u) (range at)
    pub count : n ≡ countb (staying_pairs far D (table_bit W t₀) u) (range at)
    pub way : w ≡ max_of way_at (range at)

  left_none : (p v : ℕ) → left_below 0 p v ≡ table_bit W t₀ p v
  unfolding left_below
  left_none p v = ap (λ (x : Bool). cond (eqb p u && x) (staying_pairs far D (table_bit W t₀) p v) (table_bit W t₀ p v)) (le-ltb v 0 (omega arith)) ∙ go (eqb p u)
    where
      go : (b : Bool) → cond (b && false) (staying_pairs far D (table_bit W t₀) p v) (table_bit W t₀ p v) ≡ table_bit W t₀ p v
      go true = refl
      go false = refl

  pub row_start : W * (64 * W) ≤ length t₀ → ((i : ℕ) → i < W * (64 * W) → get_or t₀ i 0 < 2 ^ 64) → RowDropping t₀ 0 0 0 0
  row_start l fits = record {
    table = table_whole W t₀ l fits ∙ ap (λ (e : List ℕ). overwrite e t₀) (encode_table_ext W (table_bit W t₀) (left_below 0) (λ p v a b. sym (left_none p v)));
    size = refl;
    gone = sym (count_nothing (stale_pairs far D (table_bit W t₀) u));
    count = sym (count_nothing (staying_pairs far D (table_bit W t₀) u));
    way = sym (max-nothing way_at);
  }

  -- other rows are as they were, and so is this one past `at`; below it has what stays
  left_other : (at p v : ℕ) → p ≢ u → left_below at p v ≡ table_bit W t₀ p v
  unfolding left_below
  left_other at p v ne = rw (ne_eqb p u ne)

  left_seen : (at v : ℕ) → v < at → left_below at u v ≡ staying_pairs far D (table_bit W t₀) u v
  unfolding left_below
  left_seen at v l = rw (eq-eqb u u refl, lt-ltb v at l)

  left_past : (at v : ℕ) → at ≤ v → left_below at u v ≡ table_bit W t₀ u v
  unfolding left_below
  left_past at v l = rw (eq-eqb u u refl, le-ltb v at l)

  -- no more pairs go or stay than codes are passed
  row_few : {t : List ℕ} {g n w at : ℕ} → RowDropping t g n w at → g + n ≤ at
  row_few {at = at} i =
      omega (arith, i.gone, i.count, count_parted far D (table_bit W t₀) u (range at), count_le_length (table_bit W t₀ u) (range at), length-range at)

  -- one word more: x is word j of the row, and the pairs of `sift` are those of the row
  module _ {t : List ℕ} {g n w j : ℕ} (i : RowDropping t g n w (64 * j)) (below : u < 64 * W) (h : j < W) where
    abbrev x : ℕ
    x = get_or t (W * u + j) 0

    bit_yet : (b : ℕ) → b < 64 → bit x b ≡ table_bit W t₀ u (64 * j + b)
    bit_yet b l =
        sym (table_word W t u j b below h l) ∙ ap (λ (s : List ℕ). table_bit W s u (64 * j + b)) i.table
        ∙ table_at W (left_below (64 * j)) t₀ u (64 * j + b) below (omega arith) ∙ left_past (64 * j) (64 * j + b) (omega arith)

    stay_bit : (b : ℕ) → b < 64 → staying_bit far D u (64 * j) x b ≡ staying_pairs far D (table_bit W t₀) u (64 * j + b)
    unfolding staying_bit staying_pairs
    stay_bit b l = ap (λ (y : Bool). y && not (ltb (far u (64 * j + b)) D)) (bit_yet b l)

    left_word : (p q : ℕ) → (p ≡ u → q / 64 ≡ j → ⊥) → left_below (64 * j) p q ≡ left_below (64 * (j + 1)) p q
    left_word p q ne = go (cases_eq p u) (cases_lt q (64 * j)) (cases_lt q (64 * (j + 1)))
      where
        go : (p ≡ u) ⊎ (p ≢ u) → (q < 64 * j) ⊎ (64 * j ≤ q) → (q < 64 * (j + 1)) ⊎ (64 * (j + 1) ≤ q) → left_below (64 * j) p q ≡ left_below (64 * (j + 1)) p q
        go (inr e) a b = left_other (64 * j) p q e ∙ sym (left_other (64 * (j + 1)) p q e)
        go (inl e) (inl a) b = rw e (left_seen (64 * j) q a ∙ sym (left_seen (64 * (j + 1)) q (omega arith)))
        go (inl e) (inr a) (inl b) = absurd (ne e (omega arith))
        go (inl e) (inr a) (inr b) = rw e (left_past (64 * j) q a ∙ sym (left_past (64 * (j + 1)) q b))

    stale_bit_lem : (b : ℕ) → b < 64 → stale_bit far D u (64 * j) x b ≡ stale_pairs far D (table_bit W t₀) u (64 * j + b)
    unfolding stale_bit stale_pairs
    stale_bit_lem b l = ap (λ (y : Bool). y && ltb (far u (64 * j + b)) D) (bit_yet b l)

    -- a test of the row's codes, counted up to the end of this word
    count_word : (p : ℕ → Bool) → countb p (range (64 * (j + 1))) ≡ countb p (range (64 * j)) + countb (λ b. p (64 * j + b)) (range 64)
    count_word p = let e : 64 * (j + 1) ≡ 64 * j + 64 = omega arith in ap (λ (k : ℕ). countb p (range k)) e ∙ count_split (64 * j) 64 p

    module _ {y b c d : ℕ} (sift : sifted y b c d ≡ sift_of far D u (64 * j) x) where
      word_table : set t (W * u + j) y ≡ overwrite (encode_table W (left_below (64 * (j + 1)))) t₀
      unfolding sift_of
      word_table =
          ap (λ (s : List ℕ). set s (W * u + j) y) i.table
          ∙ put_word_lem W u j y (left_below (64 * j)) (left_below (64 * (j + 1))) t₀ below h
          (ap (λ (s : WordSifted). s.word) sift
          ∙ word_of_ext 64 (staying_bit far D u (64 * j) x) (λ b. left_below (64 * (j + 1)) u (64 * j + b)) (λ b l. stay_bit b l ∙ sym (left_seen (64 * (j + 1)) (64 * j + b) (omega arith))))
          (λ p q a b ne. left_word p q ne)

      word_gone : b ≡ countb (λ b. stale_pairs far D (table_bit W t₀) u (64 * j + b)) (range 64)
      unfolding sift_of
      word_gone = ap (λ (s : WordSifted). s.gone) sift ∙ count_same 64 (stale_bit far D u (64 * j) x) (λ b. stale_pairs far D (table_bit W t₀) u (64 * j + b)) stale_bit_lem

      word_stays : c ≡ countb (λ b. staying_pairs far D (table_bit W t₀) u (64 * j + b)) (range 64)
      unfolding sift_of
      word_stays = ap (λ (s : WordSifted). s.kept) sift ∙ count_same 64 (staying_bit far D u (64 * j) x) (λ b. staying_pairs far D (table_bit W t₀) u (64 * j + b)) stay_bit

      way_word : d ≡ max_of (λ b. way_at (64 * j + b)) (range 64)
      unfolding sift_of greatest_bit way_at
      way_word =
          ap (λ (s : WordSifted). s.way) sift
          ∙ max_same (λ b. cond (bit x b) (min D (far u (64 * j + b))) 0) (λ b. way_at (64 * j + b)) 64
          (λ b l. ap (λ (y : Bool). cond y (min D (far u (64 * j + b))) 0) (bit_yet b l))

      pub row_word : {w' : ℕ} → w' ≡ max w d → RowDropping (set t (W * u + j) y) (g + b) (n + c) w' (64 * (j + 1))
      row_word m =
          let e : 64 * (j + 1) ≡ 64 * j + 64 = omega arith in
          record {
            table = word_table;
            size = simp length-set i.size;
            gone = omega (arith, i.gone, word_gone, count_word (stale_pairs far D (table_bit W t₀) u));
            count = omega (arith, i.count, word_stays, count_word (staying_pairs far D (table_bit W t₀) u));
            way = m ∙ ap₂ max i.way way_word ∙ sym (ap (λ (k : ℕ). max_of way_at (range k)) e ∙ max-split way_at (64 * j) 64);
          }

      -- the sums of the code: a row of at most 512 words has at most 32,768 pairs
      few : g + b + (n + c) ≤ 32768 * W
      few = omega (arith, row_few (row_word refl), h)

      pub gone_fits : W < 513 → g + b < 2 ^ 32
      gone_fits z = omega (arith, few)

      pub count_fits : W < 513 → n + c < 2 ^ 32
      count_fits z = omega (arith, few)

    -- a word without a pair: nothing goes, nothing stays
    nothing-sifted : x ≡ 0 → sifted 0 0 0 0 ≡ sift_of far D u (64 * j) x
    unfolding sift_of staying_bit stale_bit greatest_bit
    nothing-sifted e = rw (word, gone, kept, way)
      where
        no_bit : (b : ℕ) → bit x b ≡ false
        no_bit b = ap (λ (y : ℕ). bit y b) e ∙ bit_of_zero b

        word : word_of 64 (staying_bit far D u (64 * j) x) ≡ 0
        word = word_of_ext 64 (staying_bit far D u (64 * j) x) (λ b. false) (λ b l. ap (λ (y : Bool). y && not (ltb (far u (64 * j + b)) D)) (no_bit b)) ∙ word_of-none 64

        gone : countb (stale_bit far D u (64 * j) x) (range 64) ≡ 0
        gone = count_none (stale_bit far D u (64 * j) x) (range 64) (λ b l. ap (λ (y : Bool). y && ltb (far u (64 * j + b)) D) (no_bit b))

        kept : countb (staying_bit far D u (64 * j) x) (range 64) ≡ 0
        kept = count_none (staying_bit far D u (64 * j) x) (range 64) (λ b l. ap (λ (y : Bool). y && not (ltb (far u (64 * j + b)) D)) (no_bit b))

        way : greatest_bit far D u (64 * j) x ≡ 0
        way = max_none (λ b. cond (bit x b) (min D (far u (64 * j + b))) 0) 64 (λ b l. ap (λ (y : Bool). cond y (min D (far u (64 * j + b))) 0) (no_bit b))

    pub row_skip : x ≡ 0 → RowDropping t g n w (64 * (j + 1))
    row_skip e =
        let r = row_word (nothing-sifted e) {w' = w} (omega arith) in
        record {
          table = sym (ap (λ (y : ℕ). set t (W * u + j) y) (sym e) ∙ set-get_or t (W * u + j) 0) ∙ r.table;
          size = i.size;
          gone = omega (arith, r.gone);
          count = omega (arith, r.count);
          way = r.way;
        }

  -- no word is left
  pub row_end : {t : List ℕ} {g n w at : ℕ} → u < 64 * W → RowDropping t g n w at → at ≡ 64 * W → rows_dropped t g n w ≡ drop_set_of W far D (λ p. eqb p u) t₀
  unfolding drop_set_of pairs_after row_gone row_stays row_way way_at
  row_end {at = at} below i e =
      same_rows
      (i.table ∙ ap (λ (e : List ℕ). overwrite e t₀) (encode_table_ext W (left_below at) (pairs_after (λ p. eqb p u) far D (table_bit W t₀)) (λ p v l h. same p v (cases_eq p u) (omega arith))))
      (i.gone ∙ ap (λ (k : ℕ). countb (stale_pairs far D (table_bit W t₀) u) (range k)) e ∙ sym (sum_one (row_gone W far D (table_bit W t₀)) (64 * W) u below))
      (i.count ∙ ap (λ (k : ℕ). countb (staying_pairs far D (table_bit W t₀) u) (range k)) e ∙ sym (sum_one (row_stays W far D (table_bit W t₀)) (64 * W) u below))
      (i.way ∙ ap (λ (k : ℕ). max_of way_at (range k)) e ∙ sym (max_one (row_way W far D (table_bit W t₀)) (64 * W) u below))
    where
      same : (p v : ℕ) → (p ≡ u) ⊎ (p ≢ u) → v < at → left_below at p v ≡ pairs_after (λ p. eqb p u) far D (table_bit W t₀) p v
      same p v (inr ne) l = rw (ne_eqb p u ne) (left_other at p v ne)
      same p v (inl e) l = rw (e, eq-eqb u u refl) (left_seen at v l)
