-- The loop of `add_pairs`: the pairs of r with the members below `at` are in the table, and counted. Assumes nothing.
use mathlib.Core.Path.{◌≡◌, refl, sym, ap, ap₂, ◌∙◌, subst}
use mathlib.Core.Logic.{◌⊎◌, inl, inr}
use mathlib.Core.Bool.{Bool, true, false, not, ◌&&◌, ◌||◌}
use mathlib.Core.List.{List}
use Prim.Native.Nat.{ℕ, ◌+◌, ◌-◌, ◌*◌, ◌/◌, ◌%◌, ◌^◌, ◌≤◌, ◌<◌}
use native.Mathlib.Nat.{mod-lt, zero-lt-suc}
use native.Mathlib.Omega.{arith}
use lib.Bits.{bit_and}
use lib.Dec.{eqb, ltb}
use lib.ListN.{get_or}
use borrow.Author.Tests.{eqb-true, eq-eqb, ltb-true, lt-ltb, le-ltb}
use Rattle.std.proofs.lemmas.Bool.{and_parts, and_from, or_cases, or_left, or_right, cases_lt}
use Rattle.lists.proofs.Tests.{same_test}
use Rattle.words.specs.Bits.{bit, word_of}
use Rattle.words.proofs.Bits.{bit-word_of, word_of_lt, word_minus}
use Rattle.graph.specs.Chart.{Pairs}
use Rattle.rows.specs.Rows.{row_bit, table_bit, in_word}
use Rattle.rows.proofs.Written.{row_in}
use Rattle.pairs.specs.Pairs.{tally, tally_of, pairs_with}
use Rattle.pairs.proofs.Tallies.{HoldsPairs, holds_table, holds_ext, tally_again}

-- ---- the pairs of r with the members of any set

unfoldable pub with_set : ℕ → (ℕ → Bool) → Pairs
with_set r m u v = ltb u v && ((eqb u r && m v) || (eqb v r && m u))

set_ext : (r : ℕ) (m n : ℕ → Bool) → ((x : ℕ) → m x ≡ n x) → (u v : ℕ) → with_set r m u v ≡ with_set r n u v
unfolding with_set
set_ext r m n h u v = ap₂ (λ (x y : Bool). ltb u v && ((eqb u r && x) || (eqb v r && y))) (h v) (h u)

set-none : (r : ℕ) (m : ℕ → Bool) → ((x : ℕ) → m x ≡ false) → (u v : ℕ) → with_set r m u v ≡ false
unfolding with_set
set-none r m h u v = set_ext r m (λ x. false) h u v ∙ go (ltb u v) (eqb u r) (eqb v r)
  where
    go : (l x y : Bool) → (l && ((x && false) || (y && false))) ≡ false
    go true true true = refl
    go true true false = refl
    go true false true = refl
    go true false false = refl
    go false x y = refl

-- a set and another one
set_or : (r : ℕ) (m n : ℕ → Bool) (u v : ℕ) → with_set r (λ x. m x || n x) u v ≡ (with_set r m u v || with_set r n u v)
unfolding with_set
set_or r m n u v = go (ltb u v) (eqb u r) (eqb v r) (m v) (m u) (n v) (n u)
  where
    none : (x : Bool) → (x || false) ≡ x
    none true = refl
    none false = refl

    go : (l x y a b c d : Bool) → (l && ((x && (a || c)) || (y && (b || d)))) ≡ ((l && ((x && a) || (y && b))) || (l && ((x && c) || (y && d))))
    go false x y a b c d = refl
    go true false false a b c d = refl
    go true false true a b c d = refl
    go true true false true b c d = refl
    go true true false false b c d = refl
    go true true true true b c d = refl
    go true true true false true true d = refl
    go true true true false true false d = refl
    go true true true false false c d = refl

-- the pairs of r with a set m: r the lower of the two, or the higher
set_parts : (r : ℕ) (m : ℕ → Bool) (u v : ℕ) → with_set r m u v ≡ ((eqb u r && (m v && ltb r v)) || (eqb v r && (m u && ltb u r)))
unfolding with_set
set_parts r m u v =
    same_test (with_set r m u v) ((eqb u r && (m v && ltb r v)) || (eqb v r && (m u && ltb u r)))
    (λ h. (let z = and_parts (ltb u v) ((eqb u r && m v) || (eqb v r && m u)) h in to z.0 (or_cases (eqb u r && m v) (eqb v r && m u) z.1)))
    (λ h. from (or_cases (eqb u r && (m v && ltb r v)) (eqb v r && (m u && ltb u r)) h))
  where
    to : ltb u v ≡ true → ((eqb u r && m v) ≡ true) ⊎ ((eqb v r && m u) ≡ true) → ((eqb u r && (m v && ltb r v)) || (eqb v r && (m u && ltb u r))) ≡ true
    to l (inl h) =
        let z = and_parts (eqb u r) (m v) h in
        or_left _ (eqb v r && (m u && ltb u r)) (and_from _ _ z.0 (and_from _ _ z.1 (ap (λ (k : ℕ). ltb k v) (sym (eqb-true u r z.0)) ∙ l)))
    to l (inr h) =
        let z = and_parts (eqb v r) (m u) h in
        or_right (eqb u r && (m v && ltb r v)) _ (and_from _ _ z.0 (and_from _ _ z.1 (ap (ltb u) (sym (eqb-true v r z.0)) ∙ l)))

    from : ((eqb u r && (m v && ltb r v)) ≡ true) ⊎ ((eqb v r && (m u && ltb u r)) ≡ true) → with_set r m u v ≡ true
    from (inl h) =
        let z = and_parts (eqb u r) (m v && ltb r v) h in
        let y = and_parts (m v) (ltb r v) z.1 in
        and_from _ _ (ap (λ (k : ℕ). ltb k v) (eqb-true u r z.0) ∙ y.1) (or_left _ (eqb v r && m u) (and_from _ _ z.0 y.0))
    from (inr h) =
        let z = and_parts (eqb v r) (m u && ltb u r) h in
        let y = and_parts (m u) (ltb u r) z.1 in
        and_from _ _ (ap (ltb u) (eqb-true v r z.0) ∙ y.1) (or_right (eqb u r && m v) _ (and_from _ _ z.0 y.0))

-- ---- the members below a number

module _ (W : ℕ) (last : List ℕ) where
  unfoldable pub member_below : ℕ → ℕ → Bool
  member_below at x = ltb x at && row_bit W last x

  below_none : (x : ℕ) → member_below 0 x ≡ false
  unfolding member_below
  below_none x = rw (le-ltb x 0 (omega arith))

  -- the members in word j
  unfoldable pub member_in : ℕ → ℕ → Bool
  member_in j x = eqb (x / 64) j && row_bit W last x

  below_word : (j x : ℕ) → member_below (64 * (j + 1)) x ≡ (member_below (64 * j) x || member_in j x)
  unfolding member_below member_in
  below_word j x =
      same_test (member_below (64 * (j + 1)) x) (member_below (64 * j) x || member_in j x)
      (λ h. to (and_parts (ltb x (64 * (j + 1))) (row_bit W last x) h)) (λ h. from (or_cases (member_below (64 * j) x) (member_in j x) h))
    where
      to : (ltb x (64 * (j + 1)) ≡ true) × (row_bit W last x ≡ true) → (member_below (64 * j) x || member_in j x) ≡ true
      to z = go (ltb-true x (64 * (j + 1)) z.0) (cases_lt x (64 * j))
        where
          go : x < 64 * (j + 1) → (x < 64 * j) ⊎ (64 * j ≤ x) → (member_below (64 * j) x || member_in j x) ≡ true
          go l (inl p) = or_left _ (member_in j x) (and_from _ _ (lt-ltb x (64 * j) p) z.1)
          go l (inr p) = or_right (member_below (64 * j) x) _ (and_from _ _ (eq-eqb (x / 64) j (omega arith)) z.1)

      from : (member_below (64 * j) x ≡ true) ⊎ (member_in j x ≡ true) → (ltb x (64 * (j + 1)) && row_bit W last x) ≡ true
      from (inl h) =
          let z = and_parts (ltb x (64 * j)) (row_bit W last x) h in
          and_from _ _ (lt-ltb x (64 * (j + 1)) (omega (arith, ltb-true x (64 * j) z.0))) z.1
      from (inr h) =
          let z = and_parts (eqb (x / 64) j) (row_bit W last x) h in
          and_from _ _ (lt-ltb x (64 * (j + 1)) (omega (arith, eqb-true (x / 64) j z.0))) z.1

  below_all : (x : ℕ) → member_below (64 * W) x ≡ row_bit W last x
  unfolding member_below row_bit
  below_all x = go (ltb x (64 * W)) (bit (get_or last (x / 64) 0) (x % 64))
    where
      go : (a b : Bool) → (a && (a && b)) ≡ (a && b)
      go true b = refl
      go false b = refl

  -- those of them that pass a test, as a word w that has their bits
  part_is : (j w : ℕ) (c : ℕ → Bool) → j < W → ((b : ℕ) → b < 64 → bit w b ≡ (bit (get_or last j 0) b && c (64 * j + b))) → (x : ℕ)
      → in_word j w x ≡ (member_in j x && c x)
  unfolding member_in in_word
  part_is j w c l h x =
      same_test (in_word j w x) (member_in j x && c x)
      (λ e. to (and_parts (eqb (x / 64) j) (bit w (x % 64)) e)) (λ e. from (and_parts (member_in j x) (c x) e))
    where
      small : x % 64 < 64
      small = mod-lt x (zero-lt-suc 63)

      -- the bit, where x is in word j
      at : x / 64 ≡ j → bit w (x % 64) ≡ (row_bit W last x && c x)
      at q =
          let r : 64 * j + x % 64 ≡ x = omega arith in
          h (x % 64) small
          ∙ ap₂ (λ (i : ℕ) (k : ℕ). bit (get_or last i 0) (x % 64) && c k) (sym q) r
          ∙ ap (λ (y : Bool). y && c x) (sym (row_in W last x (omega arith)))

      to : (eqb (x / 64) j ≡ true) × (bit w (x % 64) ≡ true) → (member_in j x && c x) ≡ true
      to z =
          let m = and_parts (row_bit W last x) (c x) (sym (at (eqb-true (x / 64) j z.0)) ∙ z.1) in
          and_from _ _ (and_from _ _ z.0 m.0) m.1

      from : (member_in j x ≡ true) × (c x ≡ true) → in_word j w x ≡ true
      from z =
          let m = and_parts (eqb (x / 64) j) (row_bit W last x) z.0 in
          and_from _ _ m.0 (at (eqb-true (x / 64) j m.0) ∙ and_from _ _ m.1 z.1)

-- ---- the loop

-- the table's own pairs, and those of r with the members below `at`
unfoldable pub added_below : ℕ → List ℕ → ℕ → List ℕ → ℕ → Pairs
added_below W last r t₀ at u v = table_bit W t₀ u v || with_set r (member_below W last at) u v

pub record Adding (W : ℕ) (last : List ℕ) (r : ℕ) (t₀ t : List ℕ) (n at : ℕ) : Type 0 where
  pub holds : HoldsPairs W (added_below W last r t₀ at) t₀ t n

or_none : (x : Bool) → (x || false) ≡ x
or_none true = refl
or_none false = refl

pub add_start : {W : ℕ} (last : List ℕ) (r : ℕ) {t : List ℕ} {n : ℕ} → HoldsPairs W (table_bit W t) t t n → Adding W last r t t n 0
unfolding added_below
add_start {W} last r {t} {n} h = record {
  holds =
      holds_ext h (added_below W last r t 0)
      (λ u v l m. sym (ap (λ (x : Bool). table_bit W t u v || x) (set-none r (member_below W last 0) (below_none W last) u v) ∙ or_none (table_bit W t u v)));
}

-- one word more: x is word j, with its members above r put first, and then those below r
module _ {W : ℕ} {last : List ℕ} {r : ℕ} {t₀ t : List ℕ} {n j : ℕ} (i : Adding W last r t₀ t n (64 * j)) (k : j < W) where
  -- the members above r, and their pairs
  module _ (hi : ℕ) {t₁ : List ℕ} {n₁ : ℕ} (q₁ : tally t₁ n₁ ≡ tally_of W (λ u v. table_bit W t u v || (eqb u r && in_word j hi v)) t) where
    pub add_upper : HoldsPairs W (λ u v. added_below W last r t₀ (64 * j) u v || (eqb u r && in_word j hi v)) t₀ t₁ n₁
    add_upper = record { is = q₁ ∙ tally_again W (added_below W last r t₀ (64 * j)) (λ b u v. b || (eqb u r && in_word j hi v)) t₀ t (holds_table i.holds) }

    -- the members below r, and their pairs
    module _ (lo : ℕ) {t₂ : List ℕ} {n₂ : ℕ} (q₂ : tally t₂ n₂ ≡ tally_of W (λ u v. table_bit W t₁ u v || (eqb v r && in_word j lo u)) t₁) where
      both : HoldsPairs W (λ u v. (added_below W last r t₀ (64 * j) u v || (eqb u r && in_word j hi v)) || (eqb v r && in_word j lo u)) t₀ t₂ n₂
      both = record {
        is =
            q₂
            ∙ tally_again W (λ u v. added_below W last r t₀ (64 * j) u v || (eqb u r && in_word j hi v)) (λ b u v. b || (eqb v r && in_word j lo u)) t₀ t₁ (holds_table add_upper);
      }

      pub add_word : ((b : ℕ) → b < 64 → bit hi b ≡ (bit (get_or last j 0) b && ltb r (64 * j + b)))
          → ((b : ℕ) → b < 64 → bit lo b ≡ (bit (get_or last j 0) b && ltb (64 * j + b) r)) → Adding W last r t₀ t₂ n₂ (64 * (j + 1))
      unfolding added_below
      add_word above below = record { holds = holds_ext both (added_below W last r t₀ (64 * (j + 1))) (λ u v l m. same u v) }
        where
          assoc : (a b c d : Bool) → (((a || b) || c) || d) ≡ (a || (b || (c || d)))
          assoc true b c d = refl
          assoc false true c d = refl
          assoc false false c d = refl

          same : (u v : ℕ) → ((added_below W last r t₀ (64 * j) u v || (eqb u r && in_word j hi v)) || (eqb v r && in_word j lo u)) ≡ added_below W last r t₀ (64 * (j + 1)) u v
          same u v =
              ap₂ (λ (x y : Bool). (added_below W last r t₀ (64 * j) u v || (eqb u r && x)) || (eqb v r && y))
              (part_is W last j hi (ltb r) k above v) (part_is W last j lo (λ x. ltb x r) k below u)
              ∙ assoc (table_bit W t₀ u v) (with_set r (member_below W last (64 * j)) u v) (eqb u r && (member_in W last j v && ltb r v)) (eqb v r && (member_in W last j u && ltb u r))
              ∙ ap (λ (x : Bool). table_bit W t₀ u v || (with_set r (member_below W last (64 * j)) u v || x)) (sym (set_parts r (member_in W last j) u v))
              ∙ ap (λ (x : Bool). table_bit W t₀ u v || x)
              (sym
              (set_ext r (member_below W last (64 * (j + 1))) (λ x. member_below W last (64 * j) x || member_in W last j x) (below_word W last j) u v
              ∙ set_or r (member_below W last (64 * j)) (member_in W last j) u v))

-- the parts of a word as the code makes them: those below r, and those that are not below r + 1
pub lower_bits : (x j r : ℕ) {lo : ℕ} → lo ≡ word_of 64 (λ b. bit x b && ltb (64 * j + b) r) → (b : ℕ) → b < 64 → bit lo b ≡ (bit x b && ltb (64 * j + b) r)
lower_bits x j r e b l = ap (λ (w : ℕ). bit w b) e ∙ bit-word_of 64 (λ b. bit x b && ltb (64 * j + b) r) b l

pub upper_bits : (x j r : ℕ) {up : ℕ} → x < 2 ^ 64 → up ≡ word_of 64 (λ b. bit x b && ltb (64 * j + b) (r + 1)) → (b : ℕ) → b < 64
    → bit (bit_and x ((2 ^ 64 - 1) - up)) b ≡ (bit x b && ltb r (64 * j + b))
upper_bits x j r {up} f e b l =
    ap (λ (w : ℕ). bit w b) (word_minus 64 x up f (subst (λ (w : ℕ). w < 2 ^ 64) (sym e) (word_of_lt 64 (λ b. bit x b && ltb (64 * j + b) (r + 1)))))
    ∙ bit-word_of 64 (λ b. bit x b && not (bit up b)) b l
    ∙ ap (λ (y : Bool). bit x b && not y) (lower_bits x j (r + 1) e b l)
    ∙ go (bit x b) (cases_lt r (64 * j + b))
  where
    go : (a : Bool) → (r < 64 * j + b) ⊎ (64 * j + b ≤ r) → (a && not (a && ltb (64 * j + b) (r + 1))) ≡ (a && ltb r (64 * j + b))
    go false o = refl
    go true (inl h) = ap not (le-ltb (64 * j + b) (r + 1) (omega arith)) ∙ sym (lt-ltb r (64 * j + b) h)
    go true (inr h) = ap not (lt-ltb (64 * j + b) (r + 1) (omega arith)) ∙ sym (le-ltb r (64 * j + b) h)

-- no word is left
pub add_end : {W : ℕ} {last : List ℕ} {r : ℕ} {t₀ t : List ℕ} {n at : ℕ} → Adding W last r t₀ t n at → at ≡ 64 * W
    → tally t n ≡ tally_of W (λ u v. table_bit W t₀ u v || pairs_with W last r u v) t₀
unfolding added_below with_set pairs_with
add_end {W} {last} {r} {t₀} {t} {n} {at} i e =
    (holds_ext i.holds (λ u v. table_bit W t₀ u v || pairs_with W last r u v)
    (λ u v l m. ap (λ (b : Bool). table_bit W t₀ u v || b) (set_ext r (member_below W last at) (row_bit W last) (λ x. ap (λ (k : ℕ). member_below W last k x) e ∙ below_all W last x) u v))).is
