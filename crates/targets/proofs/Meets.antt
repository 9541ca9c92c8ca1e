-- A loop that goes through the words of two rows: whether they have a member in common. Assumes nothing.
use mathlib.Core.Path.{◌≡◌, sym, ap, ap₂, ◌∙◌}
use mathlib.Core.Logic.{◌⊎◌, inl, inr, ◌≢◌}
use mathlib.Core.Bool.{Bool, true, not, ◌&&◌, ◌||◌}
use mathlib.Core.List.{List}
use Prim.Native.Nat.{ℕ, ◌+◌, ◌*◌, ◌/◌, ◌%◌, ◌^◌, ◌≤◌, ◌<◌}
use native.Mathlib.Nat.{lt_irrefl, lt_of_le_of_lt}
use native.Mathlib.Omega.{arith}
use lib.Bits.{bit_and, bit_or, or_lt, and_le_l}
use lib.Count.{count_trailing_zeros}
use lib.Dec.{eqb}
use lib.ListN.{get_or}
use borrow.Author.Tests.{eq-eqb, ne_eqb}
use Rattle.std.proofs.lemmas.Bool.{or_cases, or_left, or_right, cases_eq, cases_lt}
use Rattle.lists.specs.Lists.{range, anyb}
use Rattle.lists.proofs.Tests.{clash, not→false, t→true}
use Rattle.lists.proofs.Members.{any_intro, any_none, range_in, range_out}
use Rattle.words.specs.Bits.{bit}
use Rattle.words.specs.Least.{IsLeast}
use Rattle.words.proofs.Bits.{bit_of_zero, bit_or_lem, bit_and_lem}
use Rattle.words.proofs.Lowest.{least_is}
use Rattle.rows.specs.Rows.{row_bit}
use Rattle.rows.proofs.Written.{row_word}

module _ (W : ℕ) (a b : List ℕ) where
  abbrev test : ℕ → Bool
  test v = row_bit W a v && row_bit W b v

  -- a bit of `both` is one that both rows have in one of the first w words
  pub record IsMeeting (both w : ℕ) : Type 0 where
    pub within : w ≤ W
    pub fits : both < 2 ^ 64
    pub found : (k : ℕ) → k < 64 → bit both k ≡ true → (j : ℕ) × (j < w) × (test (64 * j + k) ≡ true)
    pub kept : (j k : ℕ) → j < w → k < 64 → test (64 * j + k) ≡ true → bit both k ≡ true

  pub meeting_none : IsMeeting 0 0
  meeting_none = record {
    within = omega arith;
    fits = omega arith;
    found = λ k l e. absurd (clash e (bit_of_zero k));
    kept = λ j k l m e. absurd (lt_irrefl j (omega arith));
  }

  pub meeting_more : {both w : ℕ} → IsMeeting both w → w < W → get_or a w 0 < 2 ^ 64 → IsMeeting (bit_or both (bit_and (get_or a w 0) (get_or b w 0))) (w + 1)
  meeting_more {both} {w} g l small = record {
    within = omega arith;
    fits = or_lt 64 both more g.fits (lt_of_le_of_lt (and_le_l (get_or a w 0) _) small);
    found = found;
    kept = kept;
  }
    where
      more : ℕ
      more = bit_and (get_or a w 0) (get_or b w 0)

      here : (k : ℕ) → k < 64 → bit more k ≡ test (64 * w + k)
      here k m = bit_and_lem (get_or a w 0) (get_or b w 0) k ∙ sym (ap₂ (λ (x y : Bool). x && y) (row_word W a w k l m) (row_word W b w k l m))

      found : (k : ℕ) → k < 64 → bit (bit_or both more) k ≡ true → (j : ℕ) × (j < w + 1) × (test (64 * j + k) ≡ true)
      found k m e = go (or_cases (bit both k) (bit more k) (sym (bit_or_lem both more k) ∙ e))
        where
          go : (bit both k ≡ true) ⊎ (bit more k ≡ true) → (j : ℕ) × (j < w + 1) × (test (64 * j + k) ≡ true)
          go (inl h) = let f = g.found k m h in (f.0, omega (arith, f.1), f.2)
          go (inr h) = (w, omega arith, sym (here k m) ∙ h)

      kept : (j k : ℕ) → j < w + 1 → k < 64 → test (64 * j + k) ≡ true → bit (bit_or both more) k ≡ true
      kept j k n m e = bit_or_lem both more k ∙ go (cases_lt j w)
        where
          go : (j < w) ⊎ (w ≤ j) → (bit both k || bit more k) ≡ true
          go (inl h) = or_left _ (bit more k) (g.kept j k h m e)
          go (inr h) =
              let q : w ≡ j = omega arith in
              or_right (bit both k) _ (here k m ∙ ap (λ (i : ℕ). test (64 * i + k)) q ∙ e)

  pub meeting_all : {both w : ℕ} → IsMeeting both w → W ≤ w → not (eqb both 0) ≡ anyb test (range (64 * W))
  meeting_all {both} {w} g l = go (cases_eq both 0)
    where
      go : (both ≡ 0) ⊎ (both ≢ 0) → not (eqb both 0) ≡ anyb test (range (64 * W))
      go (inl z) =
          ap not (eq-eqb both 0 z)
          ∙ sym (any_none test (range (64 * W)) (λ v m.
          let n = range_out (64 * W) m in
          let e : v ≡ 64 * (v / 64) + v % 64 = omega arith in
          not→false (test v) (λ t. clash (g.kept (v / 64) (v % 64) (omega arith) (omega arith) (ap test (sym e) ∙ t→true (test v) t)) (ap (λ (x : ℕ). bit x (v % 64)) z ∙ bit_of_zero (v % 64)))))
      go (inr n) =
          let p : IsLeast both (count_trailing_zeros 64 both) = least_is both (omega (arith, n)) g.fits in
          let f = g.found (count_trailing_zeros 64 both) p.below p.here in
          ap not (ne_eqb both 0 n)
          ∙ sym (any_intro test (range (64 * W)) (range_in (64 * W) {v = 64 * f.0 + count_trailing_zeros 64 both} (omega (arith, f.1, p.below, g.within))) f.2)
