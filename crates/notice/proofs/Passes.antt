-- THE READER IN ONE PASS: what stands behind the digits that stand in twos says how the line reads. Assumes nothing.
use mathlib.Core.Path.{◌≡◌, refl, sym, ap, ◌∙◌}
use mathlib.Core.Logic.{◌⊎◌, inl, inr}
use mathlib.Core.Bool.{true, false}
use mathlib.Core.List.{List}
use Prim.Native.Nat.{ℕ, suc, ◌+◌, ◌*◌, ◌%◌, ◌≤◌, ◌<◌}
use native.Mathlib.Omega.{arith}
use lib.Dec.{eqb, ltb}
use lib.ListN.{length, get_or, take, length-take}
use borrow.Author.Tests.{lt-ltb, le-ltb, eqb-true, eqb-false}
use Rattle.std.specs.Prelude.{None}
use Rattle.std.proofs.lemmas.Bool.{cases_Bool, cases_lt}
use Rattle.lists.specs.Lists.{allb}
use Rattle.hexadecimal.specs.Hex.{is_digit, bytes_of, spelt}
use Rattle.hexadecimal.proofs.Pairs.{digits_one, spelt_none}
use Rattle.notice.specs.Lines.{line_limit, line_end, is_frame, end_of, spells_frame, garbled, frame, read_head, read_line}
use Rattle.notice.proofs.Ends.{end_found, end_none, end_stray}
use Rattle.notice.proofs.Tests.{and_none, spells_other, frame_parts}

-- ---- a head that does not read

endless : (head : List ℕ) → length head ≤ end_of head → garbled ≡ read_head head
unfolding read_head
endless head l = rw (le-ltb (end_of head) (length head) l) refl

other : (head : List ℕ) → false ≡ spells_frame (take (end_of head) head) → garbled ≡ read_head head
unfolding read_head
other head s = rw (← s, ← and_none (ltb (end_of head) (length head))) refl

-- an odd number of digits spells none
spells_odd : (ds : List ℕ) → length ds % 2 ≡ 1 → false ≡ spells_frame ds
unfolding spells_frame
spells_odd ds o = rw (o) (and_none (allb is_digit ds))

-- ---- n twos of digits that the head begins with

module _ (input : List ℕ) {head : List ℕ} (n : ℕ) (part : head ≡ take line_limit input) (fits : 2 * n ≤ length head) (digits : allb is_digit (take (2 * n) head) ≡ true) where
  head_is : read_head head ≡ read_line input
  unfolding read_line
  head_is = ap read_head part

  -- nothing stands behind them
  pub pass_out : 2 * n ≡ length head → garbled ≡ read_line input
  pass_out e = endless head (omega (arith, end_none head (2 * n) e digits)) ∙ head_is

  -- what stands behind them is no 0A: the next two are not both digits
  pub pass_stray : (2 * n ≡ length head → ⊥) → (get_or head (2 * n) 0 ≡ line_end → ⊥)
      → (2 * n + 1 < length head → spelt (get_or head (2 * n) 0) (get_or head (2 * n + 1) 0) ≡ None) → garbled ≡ read_line input
  pass_stray o e two = go (cases_Bool (is_digit (get_or head (2 * n) 0))) ∙ head_is
    where
      l : 2 * n < length head
      l = omega (arith, fits, o)

      odd : is_digit (get_or head (2 * n) 0) ≡ true → (get_or head (suc (2 * n)) 0 ≡ line_end → ⊥) ⊎ (get_or head (suc (2 * n)) 0 ≡ line_end)
          → suc (2 * n) < length head → garbled ≡ read_head head
      odd d (inl q) k =
          let more = digits_one head (2 * n) l digits d in
          let f = spelt_none _ _ d (two (omega arith)) in
          let m : 2 * n + 1 ≡ suc (2 * n) = omega arith in
          other head (spells_other _ (end_stray head (suc (2 * n)) k more q (sym (ap (λ (i : ℕ). is_digit (get_or head i 0)) m) ∙ f)))
      odd d (inr q) k =
          let more = digits_one head (2 * n) l digits d in
          let is = end_found head (suc (2 * n)) k more q in
          other head (spells_odd _ (omega (arith, is, k, length-take (end_of head) head)))

      here : (x : ℕ) → (x ≡ line_end → ⊥) ⊎ (x ≡ line_end)
      here x = at (cases_Bool (eqb x line_end))
        where
          at : (eqb x line_end ≡ true) ⊎ (eqb x line_end ≡ false) → (x ≡ line_end → ⊥) ⊎ (x ≡ line_end)
          at (inl q) = inr (eqb-true x line_end q)
          at (inr q) = inl (eqb-false x line_end q)

      go : (is_digit (get_or head (2 * n) 0) ≡ true) ⊎ (is_digit (get_or head (2 * n) 0) ≡ false) → garbled ≡ read_head head
      go (inr f) = other head (spells_other _ (end_stray head (2 * n) l digits e f))
      go (inl d) = side (cases_lt (suc (2 * n)) (length head))
        where
          side : (suc (2 * n) < length head) ⊎ (length head ≤ suc (2 * n)) → garbled ≡ read_head head
          side (inl k) = odd d (here (get_or head (suc (2 * n)) 0)) k
          side (inr k) =
              let more = digits_one head (2 * n) l digits d in
              let s : suc (2 * n) ≡ length head = omega (arith, l, k) in
              endless head (omega (arith, end_none head (suc (2 * n)) s more))

  -- it is 0A: the line reads if they spell a frame
  module _ (o : 2 * n ≡ length head → ⊥) (e : get_or head (2 * n) 0 ≡ line_end) {f : List ℕ} (spelled : f ≡ bytes_of (take (2 * n) head)) where
    end_is : end_of head ≡ 2 * n
    end_is = sym (end_found head (2 * n) (omega (arith, fits, o)) digits e)

    even : length (take (2 * n) head) % 2 ≡ 0
    even = omega (arith, fits, length-take (2 * n) head)

    spells : spells_frame (take (2 * n) head) ≡ is_frame f
    unfolding spells_frame
    spells = rw (digits, even, spelled) refl

    pub pass_other : is_frame f ≡ false → garbled ≡ read_line input
    pass_other w = other head (sym (ap (λ (i : ℕ). spells_frame (take i head)) end_is ∙ spells ∙ w)) ∙ head_is

    reads : is_frame f ≡ true → frame f (2 * n + 1) ≡ read_head head
    unfolding read_head
    reads w = rw (end_is, lt-ltb (2 * n) (length head) (omega (arith, fits, o)), spells, w, spelled) refl

    pub pass_frame : is_frame f ≡ true → frame f (2 * n + 1) ≡ read_line input
    pass_frame w = reads w ∙ head_is

-- a frame that a buffer begins with has at least 3 bytes
pub pass_long : (buffer : List ℕ) (n : ℕ) → n ≤ length buffer → is_frame (take n buffer) ≡ true → 3 ≤ n
pass_long buffer n k w = omega (arith, (frame_parts (take n buffer) w).0, length-take n buffer)

pub ruleset passes = (pass_out, pass_stray, pass_other, pass_frame, pass_long)
