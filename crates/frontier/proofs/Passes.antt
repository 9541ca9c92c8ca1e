-- The two passes over next in a step: the codes left are taken, and next goes into the other row. Assumes nothing.
use mathlib.Core.Path.{◌≡◌, refl, sym, ap, ap₂, ◌∙◌}
use mathlib.Core.Logic.{◌⊎◌, inl, inr}
use mathlib.Core.Bool.{Bool, true, false, not, ◌&&◌}
use mathlib.Core.List.{List}
use Prim.Native.Nat.{ℕ, ◌+◌, ◌-◌, ◌*◌, ◌^◌, ◌≤◌, ◌<◌}
use native.Mathlib.Nat.{lt_irrefl}
use native.Mathlib.Omega.{arith}
use lib.Bits.{bit_and, bit_or, or_add_and, and_le_l, and_le_r}
use lib.Count.{count_trailing_zeros}
use lib.Dec.{eqb}
use lib.ListN.{length, get_or, set, length-set}
use borrow.Author.Tests.{eq-eqb, ne_eqb}
use Rattle.std.proofs.lemmas.Bool.{cases_lt}
use Rattle.lists.specs.Lists.{range, anyb, overwrite}
use Rattle.lists.proofs.Members.{any_none, any_intro, range_in, range_out}
use Rattle.words.specs.Bits.{bit, word_of}
use Rattle.words.specs.Least.{IsLeast}
use Rattle.words.proofs.Bits.{bit_of_zero, bit_and_lem, bit-word_of, word_of_ext, word_is, word_minus}
use Rattle.words.proofs.Lowest.{least_is}
use Rattle.rows.specs.Rows.{row_bit, encode_row}
use Rattle.rows.proofs.Written.{row_word}
use Rattle.rows.proofs.Turns.{turn_none, turn_more, turn_next, turn_copy}
use Rattle.frontier.specs.Steps.{is_taken, taken, take_of}

-- ---- the codes left are taken

module _ (W : ℕ) (next₀ left₀ : List ℕ) where
  abbrev new : ℕ → Bool
  new = is_taken W next₀ left₀

  abbrev staying : ℕ → Bool
  staying v = row_bit W left₀ v && not (new v)

  -- the first j words have been taken, and their or is `all`
  pub record Taking (next left : List ℕ) (all j : ℕ) : Type 0 where
    pub within : j ≤ W
    pub next_same : length next ≡ length next₀
    pub left_same : length left ≡ length left₀
    pub next_is : next ≡ overwrite (encode_row j new) next₀
    pub left_is : left ≡ overwrite (encode_row j staying) left₀
    pub none : all ≡ 0 → (v : ℕ) → v < 64 * j → new v ≡ false
    pub some : 0 < all → anyb new (range (64 * W)) ≡ true

  pub take_start : Taking next₀ left₀ 0 0
  take_start = record {
    within = omega arith;
    next_same = refl;
    left_same = refl;
    next_is = turn_none new next₀;
    left_is = turn_none staying left₀;
    none = λ e v l. absurd (lt_irrefl v (omega arith));
    some = λ l. absurd (lt_irrefl 0 l);
  }

  module _ (next left : List ℕ) (all j : ℕ) (I : Taking next left all j) (h : j < W) (l : j < length next₀) (m : j < length left₀)
      (a : get_or next j 0 < 2 ^ 64) (b : get_or left j 0 < 2 ^ 64) where
    -- the word that is stored, and what is left
    abbrev x : ℕ
    x = bit_and (get_or next j 0) (get_or left j 0)

    abbrev y : ℕ
    y = bit_and (get_or left j 0) ((2 ^ 64 - 1) - x)

    next_bit : (c : ℕ) → c < 64 → bit (get_or next j 0) c ≡ row_bit W next₀ (64 * j + c)
    next_bit c n = ap (λ (r : ℕ). bit r c) (turn_next new next₀ next j I.next_is) ∙ sym (row_word W next₀ j c h n)

    left_bit : (c : ℕ) → c < 64 → bit (get_or left j 0) c ≡ row_bit W left₀ (64 * j + c)
    left_bit c n = ap (λ (r : ℕ). bit r c) (turn_next staying left₀ left j I.left_is) ∙ sym (row_word W left₀ j c h n)

    x_fits : x < 2 ^ 64
    x_fits = let p = and_le_l (get_or next j 0) (get_or left j 0) in omega arith

    x_is : x ≡ word_of 64 (λ c. new (64 * j + c))
    unfolding is_taken
    x_is =
        word_is 64 x (λ c. new (64 * j + c)) x_fits
        (λ c n. bit_and_lem (get_or next j 0) (get_or left j 0) c ∙ ap₂ (λ (p q : Bool). p && q) (next_bit c n) (left_bit c n))

    x_bit : (c : ℕ) → c < 64 → new (64 * j + c) ≡ bit x c
    x_bit c n = sym (ap (λ (r : ℕ). bit r c) x_is ∙ bit-word_of 64 (λ c. new (64 * j + c)) c n)

    y_is : y ≡ word_of 64 (λ c. staying (64 * j + c))
    y_is =
        word_minus 64 (get_or left j 0) x b x_fits
        ∙ word_of_ext 64 (λ c. bit (get_or left j 0) c && not (bit x c)) (λ c. staying (64 * j + c))
        (λ c n. ap₂ (λ (p q : Bool). p && not q) (left_bit c n) (sym (x_bit c n)))

    x_none : x ≡ 0 → (v : ℕ) → 64 * j ≤ v → v < 64 * (j + 1) → new v ≡ false
    x_none e v p q =
        let r : v ≡ 64 * j + (v - 64 * j) = omega arith in
        ap new r ∙ x_bit (v - 64 * j) (omega arith) ∙ ap (λ (r : ℕ). bit r (v - 64 * j)) e ∙ bit_of_zero (v - 64 * j)

    x_some : 0 < x → anyb new (range (64 * W)) ≡ true
    x_some p =
        let q : IsLeast x (count_trailing_zeros 64 x) = least_is x p x_fits in
        any_intro new (range (64 * W)) (range_in (64 * W) {v = 64 * j + count_trailing_zeros 64 x} (omega (arith, q.below))) (x_bit (count_trailing_zeros 64 x) q.below ∙ q.here)

    pub take_next : Taking (set next j x) (set left j y) (bit_or all x) (j + 1)
    take_next = record {
      within = omega arith;
      next_same = length-set next j x ∙ I.next_same;
      left_same = length-set left j y ∙ I.left_same;
      next_is = turn_more new next₀ next j x I.next_is l x_is;
      left_is = turn_more staying left₀ left j y I.left_is m y_is;
      none = λ e v n.
          (let s = or_add_and all x in
          let p = and_le_l all x in
          let q = and_le_r all x in
          on (omega arith) (omega arith) v n (cases_lt v (64 * j)));
      some = λ n. (let s = or_add_and all x in more n s (cases_lt 0 all));
    }
      where
        on : all ≡ 0 → x ≡ 0 → (v : ℕ) → v < 64 * (j + 1) → (v < 64 * j) ⊎ (64 * j ≤ v) → new v ≡ false
        on p q v n (inl o) = I.none p v o
        on p q v n (inr o) = x_none q v o n

        more : 0 < bit_or all x → bit_or all x + bit_and all x ≡ all + x → (0 < all) ⊎ (all ≤ 0) → anyb new (range (64 * W)) ≡ true
        more n s (inl o) = I.some o
        more n s (inr o) = x_some (omega arith)

  module _ (next left : List ℕ) (all j : ℕ) (I : Taking next left all j) (h : W ≤ j) where
    whole : j ≡ W
    whole = omega (arith, I.within)

    -- whether one is taken
    pub take_end : taken (not (eqb all 0)) next left ≡ take_of W next₀ left₀
    unfolding take_of
    take_end =
        rw (
          go (cases_lt 0 all),
          I.next_is ∙ ap (λ (n : ℕ). overwrite (encode_row n new) next₀) whole,
          I.left_is ∙ ap (λ (n : ℕ). overwrite (encode_row n staying) left₀) whole,
        )
      where
        under : (v : ℕ) → v < 64 * W → v < 64 * j
        under v n = omega arith

        go : (0 < all) ⊎ (all ≤ 0) → not (eqb all 0) ≡ anyb new (range (64 * W))
        go (inl m) = rw (ne_eqb all 0 (λ e. lt_irrefl 0 (omega arith))) (sym (I.some m))
        go (inr m) =
            let e : all ≡ 0 = omega arith in
            rw (eq-eqb all 0 e) (sym (any_none new (range (64 * W)) (λ v n. I.none e v (under v (range_out (64 * W) n)))))

-- the start and the end of the walk
pub ruleset taking = (take_start, take_end)

-- ---- next passed on

module _ (W : ℕ) (next other₀ : List ℕ) where
  -- the first j words stand in the other row
  pub record Passing (other : List ℕ) (j : ℕ) : Type 0 where
    pub within : j ≤ W
    pub same : length other ≡ length other₀
    pub other_is : other ≡ overwrite (encode_row j (row_bit W next)) other₀

  pub pass_start : Passing other₀ 0
  pass_start = record { within = omega arith; same = refl; other_is = turn_none (row_bit W next) other₀ }

  pub pass_next : (other : List ℕ) (j : ℕ) → Passing other j → j < W → j < length other₀ → get_or next j 0 < 2 ^ 64 → Passing (set other j (get_or next j 0)) (j + 1)
  pass_next other j I h l a = record {
    within = omega arith;
    same = length-set other j (get_or next j 0) ∙ I.same;
    other_is = turn_copy W next other₀ other j I.other_is l h a;
  }

  pub pass_end : (other : List ℕ) (j : ℕ) → Passing other j → W ≤ j → other ≡ overwrite (encode_row W (row_bit W next)) other₀
  pass_end other j I h =
      let e : j ≡ W = omega (arith, I.within) in
      I.other_is ∙ ap (λ (n : ℕ). overwrite (encode_row n (row_bit W next)) other₀) e

-- the start and the end of the copy
pub ruleset passing = (pass_start, pass_end)
