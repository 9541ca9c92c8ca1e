-- The pairs of one number with the members of a word: those above it, put into its row at once, and those below it, put one by one.
-- Assumes nothing.
use mathlib.Core.Path.{◌≡◌, refl, sym, ap, ap₂, ◌∙◌}
use mathlib.Core.Logic.{◌≢◌, ◌⊎◌, inl, inr}
use mathlib.Core.Bool.{Bool, true, false, not, ◌&&◌, ◌||◌}
use mathlib.Core.List.{List}
use Prim.Native.Nat.{ℕ, ◌+◌, ◌-◌, ◌*◌, ◌/◌, ◌%◌, ◌^◌, ◌≤◌, ◌<◌}
use native.Mathlib.Nat.{mod-lt, zero-lt-suc}
use native.Mathlib.Omega.{arith}
use lib.Bits.{bit_and, bit_or}
use lib.Dec.{eqb, ltb}
use lib.ListN.{get_or, set}
use borrow.Author.Tests.{eqb-true, eq-eqb, ne_eqb, lt-ltb, le-ltb, not-true}
use Rattle.std.proofs.lemmas.Bool.{and_parts, and_from, or_cases, or_left, or_right, cases_eq, cases_lt}
use Rattle.lists.specs.Lists.{range, countb}
use Rattle.lists.proofs.Tests.{clash, same_test}
use Rattle.lists.proofs.Members.{length-range}
use Rattle.lists.proofs.Counts.{count-or, count_le_length}
use Rattle.lists.proofs.RangeCounts.{count_same}
use Rattle.words.specs.Bits.{bit, word_of}
use Rattle.words.specs.Least.{IsLeast, WithoutLeast}
use Rattle.words.proofs.Bits.{bit_of_zero, word_of_ext, word_of-none, word_is, word_or, word_minus}
use Rattle.words.proofs.Counts.{count_word_of}
use Rattle.graph.specs.Chart.{Pairs, count_pairs}
use Rattle.rows.specs.Rows.{table_bit, in_word}
use Rattle.rows.proofs.Written.{table_word}
use Rattle.rows.proofs.WordPuts.{put_word_lem}
use Rattle.pairs.specs.Pairs.{tally, tally_of}
use Rattle.pairs.proofs.PairCounts.{pairs_with_part}
use Rattle.pairs.proofs.Tallies.{HoldsPairs, holds_table, holds_count, holds_bit, holds_ext, tally_again}
use Rattle.words.proofs.Lowest.{without_inside, without_here, without_other}

-- ---- small laws of tests

and_none : (a : Bool) → (a && false) ≡ false
and_none true = refl
and_none false = refl

and_all : (a : Bool) → (a && true) ≡ a
and_all true = refl
and_all false = refl

or_none : (a : Bool) → (a || false) ≡ a
or_none true = refl
or_none false = refl

-- ---- the members of a word below a number, as `lower_part` finds them: none, all, or those below its bit

module _ (x j high : ℕ) where
  pub part_none : high ≤ 64 * j → 0 ≡ word_of 64 (λ b. bit x b && ltb (64 * j + b) high)
  part_none l =
      sym (word_of_ext 64 (λ b. bit x b && ltb (64 * j + b) high) (λ b. false) (λ b m. ap (λ (y : Bool). bit x b && y) (le-ltb (64 * j + b) high (omega arith)) ∙ and_none (bit x b)) ∙ word_of-none 64)

  pub part_all : x < 2 ^ 64 → 64 * j + 64 ≤ high → x ≡ word_of 64 (λ b. bit x b && ltb (64 * j + b) high)
  part_all f l =
      word_is 64 x (λ b. bit x b && ltb (64 * j + b) high) f
      (λ b m. sym (ap (λ (y : Bool). bit x b && y) (lt-ltb (64 * j + b) high (omega arith)) ∙ and_all (bit x b)))

  pub part_some : 64 * j < high → word_of 64 (λ b. bit x b && ltb b (high - 64 * j)) ≡ word_of 64 (λ b. bit x b && ltb (64 * j + b) high)
  part_some l =
      word_of_ext 64 (λ b. bit x b && ltb b (high - 64 * j)) (λ b. bit x b && ltb (64 * j + b) high)
      (λ b m. ap (λ (y : Bool). bit x b && y) (go b (cases_lt (64 * j + b) high)))
    where
      go : (b : ℕ) → (64 * j + b < high) ⊎ (high ≤ 64 * j + b) → ltb b (high - 64 * j) ≡ ltb (64 * j + b) high
      go b (inl h) = lt-ltb b (high - 64 * j) (omega arith) ∙ sym (lt-ltb (64 * j + b) high h)
      go b (inr h) = le-ltb b (high - 64 * j) (omega arith) ∙ sym (le-ltb (64 * j + b) high h)

-- ---- a number of a word, by its bit

pub word_here : (j x b : ℕ) → b < 64 → in_word j x (64 * j + b) ≡ bit x b
unfolding in_word
word_here j x b l =
    let q : (64 * j + b) / 64 ≡ j = omega arith in
    let r : (64 * j + b) % 64 ≡ b = omega arith in
    ap₂ (λ (y k : ℕ). eqb y j && bit x k) q r ∙ ap (λ (y : Bool). y && bit x b) (eq-eqb j j refl)

word_out : (j x v : ℕ) → v / 64 ≢ j → in_word j x v ≡ false
unfolding in_word
word_out j x v ne = ap (λ (y : Bool). y && bit x (v % 64)) (ne_eqb (v / 64) j ne)

pub word_few : (x : ℕ) {c : ℕ} → c ≡ countb (bit x) (range 64) → c ≤ 64
word_few x e = omega (arith, e, count_le_length (bit x) (range 64), length-range 64)

-- ---- those above: the word or x in the row of `low`, and as many more as were not there

module _ {W : ℕ} {P : Pairs} {t₀ t : List ℕ} {n : ℕ} (h : HoldsPairs W P t₀ t n) (low j x : ℕ) (l : low < 64 * W) (k : j < W) where
  abbrev place : ℕ
  place = W * low + j

  abbrev old : ℕ
  old = get_or t place 0

  abbrev upper : Pairs
  upper u v = P u v || (eqb u low && in_word j x v)

  old_bit : (b : ℕ) → b < 64 → bit old b ≡ P low (64 * j + b)
  old_bit b m = sym (table_word W t low j b l k m) ∙ holds_bit h low (64 * j + b) l (omega arith)

  upper_row : (b : ℕ) → b < 64 → upper low (64 * j + b) ≡ (P low (64 * j + b) || bit x b)
  upper_row b m = ap₂ (λ (y z : Bool). P low (64 * j + b) || (y && z)) (eq-eqb low low refl) (word_here j x b m)

  upper_other : (u v : ℕ) → (u ≡ low → v / 64 ≡ j → ⊥) → upper u v ≡ P u v
  upper_other u v ne = go (cases_eq u low) (cases_eq (v / 64) j)
    where
      go : (u ≡ low) ⊎ (u ≢ low) → (v / 64 ≡ j) ⊎ (v / 64 ≢ j) → upper u v ≡ P u v
      go (inl e) (inl f) = absurd (ne e f)
      go (inl e) (inr f) = ap (λ (y : Bool). P u v || (eqb u low && y)) (word_out j x v f) ∙ ap (λ (y : Bool). P u v || y) (and_none (eqb u low)) ∙ or_none (P u v)
      go (inr e) f = ap (λ (y : Bool). P u v || (y && in_word j x v)) (ne_eqb u low e) ∙ or_none (P u v)

  upper_count : count_pairs (range (64 * W)) upper ≡ count_pairs (range (64 * W)) P + countb (λ b. bit x b && not (bit old b)) (range 64)
  upper_count =
      omega (
        arith,
        pairs_with_part (64 * W) P upper low (64 * j) 64 l (omega arith) (λ u v a b ne. upper_other u v (λ e f. ne e (omega arith) (omega arith))),
        count_same 64 (λ b. upper low (64 * j + b)) (λ b. P low (64 * j + b) || (bit x b && not (P low (64 * j + b)))) (λ b m. upper_row b m ∙ split (P low (64 * j + b)) (bit x b)),
        count-or (λ b. P low (64 * j + b)) (λ b. bit x b && not (P low (64 * j + b))) (range 64) (λ b e. ap (λ (y : Bool). bit x b && not y) e ∙ and_none (bit x b)),
        count_same 64 (λ b. bit x b && not (bit old b)) (λ b. bit x b && not (P low (64 * j + b))) (λ b m. ap (λ (y : Bool). bit x b && not y) (old_bit b m)),
      )
    where
      split : (p y : Bool) → (p || y) ≡ (p || (y && not p))
      split true y = refl
      split false true = refl
      split false false = refl

  pub put_upper_lem : x < 2 ^ 64 → old < 2 ^ 64 → {c : ℕ} → c ≡ countb (bit (bit_and x ((2 ^ 64 - 1) - old))) (range 64)
      → tally (set t place (bit_or old x)) (n + c) ≡ tally_of W upper t₀
  unfolding tally_of
  put_upper_lem f g {c} e =
      ap₂ tally
      (ap (λ (s : List ℕ). set s place (bit_or old x)) (holds_table h)
      ∙ put_word_lem W low j (bit_or old x) P upper t₀ l k
      (word_or 64 old x g f ∙ word_of_ext 64 (λ b. bit old b || bit x b) (λ b. upper low (64 * j + b)) (λ b m. ap (λ (y : Bool). y || bit x b) (old_bit b m) ∙ sym (upper_row b m)))
      (λ u v a b ne. sym (upper_other u v ne)))
      (omega (arith, holds_count h, upper_count, e, ap (λ (w : ℕ). countb (bit w) (range 64)) (word_minus 64 x old f g), count_word_of 64 (λ b. bit x b && not (bit old b))))

  -- a word without members
  pub put_nothing : x ≡ 0 → tally t n ≡ tally_of W upper t₀
  unfolding in_word
  put_nothing e = (holds_ext h upper (λ u v a b. sym (none u v))).is
    where
      none : (u v : ℕ) → upper u v ≡ P u v
      none u v =
          ap (λ (y : ℕ). P u v || (eqb u low && (eqb (v / 64) j && bit y (v % 64)))) e
          ∙ ap (λ (y : Bool). P u v || (eqb u low && (eqb (v / 64) j && y))) (bit_of_zero (v % 64))
          ∙ ap (λ (y : Bool). P u v || (eqb u low && y)) (and_none (eqb (v / 64) j))
          ∙ ap (λ (y : Bool). P u v || y) (and_none (eqb u low))
          ∙ or_none (P u v)

-- ---- those below: the members of x that are not left are put

module _ (W j x high : ℕ) (t₀ : List ℕ) where
  unfoldable pub passed : ℕ → ℕ → Bool
  passed left u = eqb (u / 64) j && (bit x (u % 64) && not (bit left (u % 64)))

  unfoldable pub lower_put : ℕ → Pairs
  lower_put left u v = table_bit W t₀ u v || (eqb v high && passed left u)

  pub record Lowering (t : List ℕ) (n left : ℕ) : Type 0 where
    pub inside : (b : ℕ) → b < 64 → bit left b ≡ true → bit x b ≡ true
    pub holds : HoldsPairs W (lower_put left) t₀ t n

  pub lower_start : {n : ℕ} → HoldsPairs W (table_bit W t₀) t₀ t₀ n → Lowering t₀ n x
  unfolding lower_put passed
  lower_start h = record {
    inside = λ b l e. e;
    holds = holds_ext h (lower_put x) (λ u v a b. sym (none (table_bit W t₀ u v) (eqb v high) (eqb (u / 64) j) (bit x (u % 64))));
  }
    where
      none : (p a b c : Bool) → (p || (a && (b && (c && not c)))) ≡ p
      none true a b c = refl
      none false false b c = refl
      none false true false c = refl
      none false true true true = refl
      none false true true false = refl

  module _ {t : List ℕ} {n left y b : ℕ} (i : Lowering t n left) (l : IsLeast left b) (d : WithoutLeast left y) where
    passed_more : (u : ℕ) → passed y u ≡ (passed left u || eqb u (64 * j + b))
    unfolding passed
    passed_more u = same_test (passed y u) (passed left u || eqb u (64 * j + b)) to (λ h. from (or_cases (passed left u) (eqb u (64 * j + b)) h))
      where
        small : u % 64 < 64
        small = mod-lt u (zero-lt-suc 63)

        to : passed y u ≡ true → (passed left u || eqb u (64 * j + b)) ≡ true
        to h =
            let z = and_parts (eqb (u / 64) j) (bit x (u % 64) && not (bit y (u % 64))) h in
            let m = and_parts (bit x (u % 64)) (not (bit y (u % 64))) z.1 in
            go z.0 m.0 m.1 (cases_eq (u % 64) b)
          where
            go : eqb (u / 64) j ≡ true → bit x (u % 64) ≡ true → not (bit y (u % 64)) ≡ true → (u % 64 ≡ b) ⊎ (u % 64 ≢ b) → (passed left u || eqb u (64 * j + b)) ≡ true
            go e p q (inl s) = or_right (passed left u) _ (eq-eqb u (64 * j + b) (omega (arith, eqb-true (u / 64) j e)))
            go e p q (inr s) = or_left _ (eqb u (64 * j + b)) (and_from _ _ e (and_from _ _ p (ap not (sym (without_other l d (u % 64) small s)) ∙ q)))

        from : (passed left u ≡ true) ⊎ (eqb u (64 * j + b) ≡ true) → passed y u ≡ true
        from (inl h) =
            let z = and_parts (eqb (u / 64) j) (bit x (u % 64) && not (bit left (u % 64))) h in
            let m = and_parts (bit x (u % 64)) (not (bit left (u % 64))) z.1 in
            and_from _ _ z.0 (and_from _ _ m.0 (gone m.1 (bit y (u % 64)) refl))
          where
            gone : not (bit left (u % 64)) ≡ true → (a : Bool) → bit y (u % 64) ≡ a → not (bit y (u % 64)) ≡ true
            gone q true e = absurd (clash (without_inside l d (u % 64) small e) (not-true (bit left (u % 64)) q))
            gone q false e = ap not e
        from (inr h) =
            let e : u ≡ 64 * j + b = eqb-true u (64 * j + b) h in
            let below = l.below in
            let q : u / 64 ≡ j = omega arith in
            let r : u % 64 ≡ b = omega arith in
            and_from _ _ (eq-eqb (u / 64) j q) (and_from _ _ (ap (bit x) r ∙ i.inside b l.below l.here) (ap not (ap (bit y) r ∙ without_here l d)))

    -- the pair of the least member left is put
    pub lower_more : {t' : List ℕ} {n' : ℕ} → tally t' n' ≡ tally_of W (λ u v. table_bit W t u v || (eqb u (64 * j + b) && eqb v high)) t → Lowering t' n' y
    unfolding lower_put
    lower_more {t'} {n'} q = record {
      inside = λ k m e. i.inside k m (without_inside l d k m e);
      holds =
          holds_ext (put (q ∙ tally_again W (lower_put left) (λ a u v. a || (eqb u (64 * j + b) && eqb v high)) t₀ t (holds_table i.holds))) (lower_put y)
          (λ u v a c. sym (ap (λ (z : Bool). table_bit W t₀ u v || (eqb v high && z)) (passed_more u) ∙ go (table_bit W t₀ u v) (eqb v high) (passed left u) (eqb u (64 * j + b))));
    }
      where
        put : tally t' n' ≡ tally_of W (λ u v. lower_put left u v || (eqb u (64 * j + b) && eqb v high)) t₀ → HoldsPairs W (λ u v. lower_put left u v || (eqb u (64 * j + b) && eqb v high)) t₀ t' n'
        put q = record { is = q }

        go : (p a m e : Bool) → (p || (a && (m || e))) ≡ ((p || (a && m)) || (e && a))
        go true a m e = refl
        go false true true e = refl
        go false true false true = refl
        go false true false false = refl
        go false false m true = refl
        go false false m false = refl

  -- no member is left
  pub lower_end : {t : List ℕ} {n left : ℕ} → Lowering t n left → left ≡ 0 → tally t n ≡ tally_of W (λ u v. table_bit W t₀ u v || (eqb v high && in_word j x u)) t₀
  unfolding lower_put passed in_word
  lower_end {left = left} i z =
      (holds_ext i.holds (λ u v. table_bit W t₀ u v || (eqb v high && in_word j x u))
      (λ u v a b. ap (λ (y : Bool). table_bit W t₀ u v || (eqb v high && (eqb (u / 64) j && (bit x (u % 64) && not y)))) (gone (u % 64))
      ∙ ap (λ (y : Bool). table_bit W t₀ u v || (eqb v high && (eqb (u / 64) j && y))) (and_all (bit x (u % 64))))).is
    where
      gone : (k : ℕ) → bit left k ≡ false
      gone k = ap (λ (w : ℕ). bit w k) z ∙ bit_of_zero k
