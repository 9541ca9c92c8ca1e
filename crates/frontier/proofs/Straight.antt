-- A step over rows of four words: the four in the place of next. Assumes nothing.
use mathlib.Core.Path.{◌≡◌, refl, sym, ap, ◌∙◌, subst}
use mathlib.Core.Logic.{◌≢◌}
use mathlib.Core.Bool.{true, false, not}
use mathlib.Core.List.{List, [], ◌∷◌}
use Prim.Native.Nat.{ℕ, ◌+◌, ◌-◌, ◌*◌, ◌%◌, ◌^◌, ◌≤◌, ◌<◌}
use native.Mathlib.Omega.{arith}
use lib.Bits.{bit_and, bit_or, or_add_and, and_le_l}
use lib.Dec.{eqb}
use lib.ListN.{length, get_or, set}
use lib.Seq.{get_or-set_other}
use borrow.Author.Tests.{eq-eqb, ne_eqb}
use Rattle.lists.specs.Lists.{range, mapl, anyb, overwrite}
use Rattle.words.specs.Bits.{word_of}
use Rattle.words.proofs.Bits.{word_of_lt}
use Rattle.rows.specs.Rows.{row_bit, encode_row}
use Rattle.rows.proofs.Wholes.{row_word_is}
use Rattle.frontier.specs.declared.Four.{Four}
use Rattle.frontier.specs.declared.Visit.{Visit}
use Rattle.frontier.specs.Steps.{AreWords, four_list, union_of, no_words, reached, reach_set, put_word, visited, visit_of, hop_set, is_taken, Taken, taken, take_of, stepped, step_of, left_after, row_of, turned, turn_of}
use Rattle.frontier.specs.Visits.{Goes}
use Rattle.frontier.proofs.Links.{four}
use Rattle.frontier.proofs.Visits.{fours_start, fours_next, fours_end}
use Rattle.frontier.proofs.Passes.{Taking, take_start, take_next, take_end}
use Rattle.frontier.proofs.Stepping.{step_none, step_more, step_left, step_last, row_even, row_odd, turn_even, turn_odd, turn_stays}

four_ext : {a b c d a' b' c' d' : ℕ} → a ≡ a' → b ≡ b' → c ≡ c' → d ≡ d' → four_list (four a b c d) ≡ four_list (four a' b' c' d')
four_ext p q r s = rw (p, q, r, s)

-- ---- the codes that are left

module _ (left : List ℕ) (g : Four) (G : AreWords g) (long : 4 ≤ length left) (s₀ : get_or left 0 0 < 2 ^ 64) (s₁ : get_or left 1 0 < 2 ^ 64) (s₂ : get_or left 2 0 < 2 ^ 64)
    (s₃ : get_or left 3 0 < 2 ^ 64) where
  -- a row without the codes of a word
  abbrev without : List ℕ → ℕ → ℕ → List ℕ
  without l j x = set l j (bit_and (get_or l j 0) ((2 ^ 64 - 1) - x))

  abbrev n₀ : ℕ
  n₀ = bit_and g.a (get_or left 0 0)

  abbrev l₁ : List ℕ
  l₁ = without left 0 n₀

  abbrev n₁ : ℕ
  n₁ = bit_and g.b (get_or l₁ 1 0)

  abbrev l₂ : List ℕ
  l₂ = without l₁ 1 n₁

  abbrev n₂ : ℕ
  n₂ = bit_and g.c (get_or l₂ 2 0)

  abbrev l₃ : List ℕ
  l₃ = without l₂ 2 n₂

  abbrev n₃ : ℕ
  n₃ = bit_and g.d (get_or l₃ 3 0)

  fits₁ : get_or l₁ 1 0 < 2 ^ 64
  fits₁ = subst (λ (x : ℕ). x < 2 ^ 64) (sym (get_or-set_other left 0 1 _ 0 (omega arith))) s₁

  fits₂ : get_or l₂ 2 0 < 2 ^ 64
  fits₂ = subst (λ (x : ℕ). x < 2 ^ 64) (sym (get_or-set_other l₁ 1 2 _ 0 (omega arith) ∙ get_or-set_other left 0 2 _ 0 (omega arith))) s₂

  fits₃ : get_or l₃ 3 0 < 2 ^ 64
  fits₃ =
      subst (λ (x : ℕ). x < 2 ^ 64)
      (sym (get_or-set_other l₂ 2 3 _ 0 (omega arith) ∙ get_or-set_other l₁ 1 3 _ 0 (omega arith) ∙ get_or-set_other left 0 3 _ 0 (omega arith))) s₃

  whole : Taking 4 (four_list g) left (four_list (four n₀ n₁ n₂ n₃)) (without l₃ 3 n₃) (bit_or (bit_or (bit_or (bit_or 0 n₀) n₁) n₂) n₃) 4
  whole =
      take_next 4 (four_list g) left (n₀ ∷ n₁ ∷ n₂ ∷ g.d ∷ []) l₃ (bit_or (bit_or (bit_or 0 n₀) n₁) n₂) 3
      (take_next 4 (four_list g) left (n₀ ∷ n₁ ∷ g.c ∷ g.d ∷ []) l₂ (bit_or (bit_or 0 n₀) n₁) 2
      (take_next 4 (four_list g) left (n₀ ∷ g.b ∷ g.c ∷ g.d ∷ []) l₁ (bit_or 0 n₀) 1
      (take_next 4 (four_list g) left (four_list g) left 0 0 (take_start 4 (four_list g) left) (omega arith) (omega arith) (omega arith) G.a_fits s₀)
      (omega arith) (omega arith) (omega arith) G.b_fits fits₁)
      (omega arith) (omega arith) (omega arith) G.c_fits fits₂)
      (omega arith) (omega arith) (omega arith) G.d_fits fits₃

  none_or : (x : ℕ) → bit_or 0 x ≡ x
  none_or x =
      let s = or_add_and 0 x in
      let p = and_le_l 0 x in
      omega arith

  pub four_taken : taken (not (eqb (union_of (four n₀ n₁ n₂ n₃)) 0)) (four_list (four n₀ n₁ n₂ n₃)) (without l₃ 3 n₃) ≡ take_of 4 (four_list g) left
  four_taken =
      ap (λ (x : ℕ). taken (not (eqb (bit_or (bit_or (bit_or x n₁) n₂) n₃) 0)) (four_list (four n₀ n₁ n₂ n₃)) (without l₃ 3 n₃)) (sym (none_or n₀))
      ∙ take_end 4 (four_list g) left (four_list (four n₀ n₁ n₂ n₃)) (without l₃ 3 n₃) (bit_or (bit_or (bit_or (bit_or 0 n₀) n₁) n₂) n₃) 4 whole (omega arith)

-- ---- four words stored

pub four_put : (row : List ℕ) (n : Four) → 4 ≤ length row → set (set (set (set row 0 n.a) 1 n.b) 2 n.c) 3 n.d ≡ overwrite (four_list n) row
unfolding overwrite
four_put (x ∷ y ∷ z ∷ t ∷ r) n h = refl
four_put (x ∷ y ∷ z ∷ []) n h = absurd (omega arith)
four_put (x ∷ y ∷ []) n h = absurd (omega arith)
four_put (x ∷ []) n h = absurd (omega arith)
four_put [] n h = absurd (omega arith)

-- ---- the step

module _ (links layer left : List ℕ) (k : ℕ) (g n : Four) (hops₀ hops₁ other left' : List ℕ)
    (reach : reached g hops₁ ≡ reach_set 4 links k 0 (row_bit 4 layer) (reached no_words hops₀))
    (take : taken (not (eqb (union_of n) 0)) (four_list n) left' ≡ take_of 4 (four_list g) left) where
  put_all : visited (four_list g) hops₁ ≡ visit_of 4 links layer k (visited (four_list no_words) hops₀)
  unfolding put_word
  put_all =
      fours_end 4 links k layer 4
      (fours_next 4 links k layer 0 g hops₁ (fours_start 4 links k layer (four_list no_words) hops₀ (omega arith)) reach
      (g.a ∷ 0 ∷ 0 ∷ 0 ∷ []) (g.a ∷ g.b ∷ 0 ∷ 0 ∷ []) (g.a ∷ g.b ∷ g.c ∷ 0 ∷ []) (four_list g) (omega arith) refl refl refl refl)
      (omega arith) (omega arith)

  four_none : union_of n ≡ 0 → stepped false hops₁ other ≡ step_of 4 links layer k hops₀ other left
  four_none e =
      step_none 4 links layer left (four_list no_words) (four_list g) (four_list n) left' k hops₀ hops₁ (not (eqb (union_of n) 0)) put_all take other
      (ap not (ap not (eq-eqb (union_of n) 0 e)))

  four_left : left' ≡ left_after 4 links layer left
  four_left = step_left 4 links layer left (four_list no_words) (four_list g) (four_list n) left' k hops₀ hops₁ (not (eqb (union_of n) 0)) put_all take

  -- what is taken are words
  fits : AreWords n
  unfolding take_of overwrite encode_row mapl range
  fits = record {
    a_fits = taken_word 0 n.a (ap (λ (u : Taken). get_or u.next 0 0) take);
    b_fits = taken_word 1 n.b (ap (λ (u : Taken). get_or u.next 1 0) take);
    c_fits = taken_word 2 n.c (ap (λ (u : Taken). get_or u.next 2 0) take);
    d_fits = taken_word 3 n.d (ap (λ (u : Taken). get_or u.next 3 0) take);
  }
    where
      taken_word : (j x : ℕ) → x ≡ word_of 64 (λ b. is_taken 4 (four_list g) left (64 * j + b)) → x < 2 ^ 64
      taken_word j x e = subst (λ (y : ℕ). y < 2 ^ 64) (sym e) (word_of_lt 64 (λ b. is_taken 4 (four_list g) left (64 * j + b)))

  module _ (other' : List ℕ) (p : other' ≡ overwrite (four_list n) other) where
    as_row : four_list n ≡ encode_row 4 (row_bit 4 (four_list n))
    unfolding encode_row mapl range
    as_row =
        four_ext (row_word_is 4 (four_list n) 0 (omega arith) fits.a_fits) (row_word_is 4 (four_list n) 1 (omega arith) fits.b_fits)
        (row_word_is 4 (four_list n) 2 (omega arith) fits.c_fits) (row_word_is 4 (four_list n) 3 (omega arith) fits.d_fits)

    four_more : union_of n ≢ 0 → stepped true hops₁ other' ≡ step_of 4 links layer k hops₀ other left
    four_more e =
        step_more 4 links layer left (four_list no_words) (four_list g) (four_list n) left' k hops₀ hops₁ (not (eqb (union_of n) 0)) put_all take other other'
        (ap not (ap not (ne_eqb (union_of n) 0 e))) (p ∙ ap (λ (l : List ℕ). overwrite l other) as_row)

-- ---- the step in its struct, whose rows are of four words, by turns

module _ (v w : Visit) (e : v.words ≡ 4) (even odd layer left : List ℕ) (q : layer ≡ row_of v.k even odd) where
  -- no code is left
  pub straight_last : not (anyb (row_bit 4 left) (range (64 * 4))) ≡ true → w.hops.now ≡ hop_set v.words v.k (row_bit v.words layer) v.hops.now
      → turned false w.hops.now even odd ≡ turn_of v.words v.links.now v.k v.hops.now even odd left
  straight_last z m =
      turn_stays v.words v.links.now v.k v.hops.now even odd left w.hops.now false
      (step_last v.words v.links.now (row_of v.k even odd) left v.k v.hops.now w.hops.now (row_of v.k odd even)
      (subst (λ (W : ℕ). not (anyb (row_bit W left) (range (64 * W))) ≡ true) (sym e) z)
      (m ∙ ap (λ (l : List ℕ). hop_set v.words v.k (row_bit v.words l) v.hops.now) q))

  module _ (g n : Four) (left' : List ℕ) (went : Goes 0 (row_bit v.words layer) v no_words w g)
      (take : taken (not (eqb (union_of n) 0)) (four_list n) left' ≡ take_of 4 (four_list g) left) where
    reach : reached g w.hops.now ≡ reach_set 4 v.links.now v.k 0 (row_bit 4 layer) (reached no_words v.hops.now)
    reach = subst (λ (W : ℕ). reached g w.hops.now ≡ reach_set W v.links.now v.k 0 (row_bit W layer) (reached no_words v.hops.now)) e went.visited

    -- nothing new is reached
    pub straight_none : union_of n ≡ 0 → turned false w.hops.now even odd ≡ turn_of v.words v.links.now v.k v.hops.now even odd left
    straight_none z =
        turn_stays v.words v.links.now v.k v.hops.now even odd left w.hops.now false
        (subst (λ (l : List ℕ). stepped false w.hops.now (row_of v.k odd even) ≡ step_of v.words v.links.now l v.k v.hops.now (row_of v.k odd even) left) q
        (rw e (four_none v.links.now layer left v.k g n v.hops.now w.hops.now (row_of v.k odd even) left' reach take z)))

    more : (other other' : List ℕ) → other' ≡ overwrite (four_list n) other → union_of n ≢ 0 → (l : List ℕ) → row_of v.k even odd ≡ l
        → stepped true w.hops.now other' ≡ step_of v.words v.links.now l v.k v.hops.now other left
    more other other' p z l r =
        subst (λ (l : List ℕ). stepped true w.hops.now other' ≡ step_of v.words v.links.now l v.k v.hops.now other left) (q ∙ r)
        (rw e (four_more v.links.now layer left v.k g n v.hops.now w.hops.now other left' reach take other' p z))

    -- something is, and goes into the odd row, or into the even one
    pub straight_even : (odd' : List ℕ) → v.k % 2 ≡ 0 → odd' ≡ overwrite (four_list n) odd → union_of n ≢ 0
        → turned true w.hops.now even odd' ≡ turn_of v.words v.links.now v.k v.hops.now even odd left
    straight_even odd' p o z =
        turn_even v.words v.links.now v.k v.hops.now even odd left w.hops.now true odd' p (more odd odd' o z even (row_even v.k even odd p))

    pub straight_odd : (even' : List ℕ) → v.k % 2 ≢ 0 → even' ≡ overwrite (four_list n) even → union_of n ≢ 0
        → turned true w.hops.now even' odd ≡ turn_of v.words v.links.now v.k v.hops.now even odd left
    straight_odd even' p o z =
        turn_odd v.words v.links.now v.k v.hops.now even odd left w.hops.now true even' p (more even even' o z odd (row_odd v.k even odd p))

    pub straight_left : left' ≡ left_after v.words v.links.now (row_of v.k even odd) left
    straight_left =
        subst (λ (l : List ℕ). left' ≡ left_after v.words v.links.now l left) q
        (rw e (four_left v.links.now layer left v.k g n v.hops.now w.hops.now even left' reach take))
