-- The targets at a hop, put into a row: the members of a word, one after the other, and a word after the other. Assumes nothing.
use mathlib.Core.Path.{◌≡◌, refl, sym, ap, ap₂, ◌∙◌}
use mathlib.Core.Logic.{◌⊎◌, inl, inr, ◌≢◌}
use mathlib.Core.Bool.{Bool, true, false, cond, not, ◌&&◌, ◌||◌, and-false, and-true as and-true_r}
use mathlib.Core.List.{List, []}
use Prim.Native.Nat.{ℕ, ◌+◌, ◌*◌, ◌^◌, ◌≤◌, ◌<◌}
use native.Mathlib.Nat.{lt_of_le_of_lt}
use native.Mathlib.Omega.{arith}
use lib.Bits.{bit_and, and_le_l}
use lib.Dec.{eqb}
use lib.ListN.{length, get_or, set, length-set}
use borrow.Author.Tests.{eq-eqb, ne_eqb}
use Rattle.std.proofs.lemmas.Bool.{cases_eq}
use Rattle.lists.specs.Lists.{range, anyb, max_of, overwrite}
use Rattle.words.specs.Bits.{bit, word_of}
use Rattle.words.specs.Least.{IsLeast, WithoutLeast}
use Rattle.words.proofs.Bits.{bit_of_zero, bit_and_lem, bit-word_of, word_of_lt, word_of_ext, word_is}
use Rattle.words.proofs.Lowest.{without_here, without_other}
use Rattle.graph.specs.Distance.{vertices}
use Rattle.rows.specs.Rows.{row_bit, encode_row}
use Rattle.rows.proofs.Written.{row_word}
use Rattle.rows.proofs.Turns.{turn_none, turn_more}
use Rattle.map.specs.Memory.{network_of}
use Rattle.targets.specs.Hops.{IsLastLayer}
use Rattle.targets.specs.Reach.{farthest_of, reached, reach_of}
use Rattle.targets.proofs.Rows.{greatest_last}

-- ---- a word after the other

-- the first w words are those of f
pub record IsPut (f : ℕ → Bool) (W : ℕ) (before after : List ℕ) (w : ℕ) : Type 0 where
  pub within : w ≤ W
  pub size : length after ≡ length before
  pub is : after ≡ overwrite (encode_row w f) before

module _ (f : ℕ → Bool) (W : ℕ) (before : List ℕ) where
  pub put_none : IsPut f W before before 0
  put_none = record { within = omega arith; size = refl; is = turn_none f before }

  pub put_more : (after : List ℕ) (w x : ℕ) → IsPut f W before after w → w < W → W ≤ length before → x ≡ word_of 64 (λ b. f (64 * w + b))
      → IsPut f W before (set after w x) (w + 1)
  put_more after w x i l m e = record {
    within = omega arith;
    size = length-set after w x ∙ i.size;
    is = turn_more f before after w x i.is (omega arith) e;
  }

  pub put_all : (after : List ℕ) (w : ℕ) → IsPut f W before after w → W ≤ w → after ≡ overwrite (encode_row W f) before
  put_all after w i l = i.is ∙ ap (λ (n : ℕ). overwrite (encode_row n f) before) (omega (arith, i.within))

-- the word of two rows
pub both_word : (W : ℕ) (a b : List ℕ) (w : ℕ) → w < W → get_or a w 0 < 2 ^ 64
    → bit_and (get_or a w 0) (get_or b w 0) ≡ word_of 64 (λ k. row_bit W a (64 * w + k) && row_bit W b (64 * w + k))
both_word W a b w l small =
    word_is 64 (bit_and (get_or a w 0) (get_or b w 0)) (λ k. row_bit W a (64 * w + k) && row_bit W b (64 * w + k)) (lt_of_le_of_lt (and_le_l (get_or a w 0) _) small)
    (λ k m. bit_and_lem (get_or a w 0) (get_or b w 0) k ∙ sym (ap₂ (λ (x y : Bool). x && y) (row_word W a w k l m) (row_word W b w k l m)))

-- the word of a row's members at a hop
pub at_word : (W : ℕ) (a hops : List ℕ) (w e x : ℕ) → w < W → x ≡ word_of 64 (λ k. bit (get_or a w 0) k && eqb (get_or hops (64 * w + k) 0) e)
    → x ≡ word_of 64 (λ k. row_bit W a (64 * w + k) && eqb (get_or hops (64 * w + k) 0) e)
at_word W a hops w e x l q =
    q ∙ word_of_ext 64 _ _ (λ k m. ap (λ (t : Bool). t && eqb (get_or hops (64 * w + k) 0) e) (sym (row_word W a w k l m)))

-- ---- a member after the other

module _ (hops : List ℕ) (w word e : ℕ) where
  abbrev at : ℕ → Bool
  at k = eqb (get_or hops (64 * w + k) 0) e

  -- of the members that were looked at, those at e are left
  pub record BitsKept (here x : ℕ) : Type 0 where
    pub fits : here < 2 ^ 64
    pub is : (k : ℕ) → k < 64 → bit here k ≡ (bit word k && (bit x k || at k))

  pub kept_none : word < 2 ^ 64 → BitsKept word word
  kept_none small = record { fits = small; is = λ k l. go (bit word k) (at k) }
    where
      go : (b c : Bool) → b ≡ (b && (b || c))
      go true c = refl
      go false c = refl

  -- a member at e stays
  pub kept_stays : {here x y b z : ℕ} → BitsKept here x → IsLeast x b → WithoutLeast x y → get_or hops (64 * w + b) 0 ≡ e → z ≡ here → BitsKept z y
  kept_stays {here} {x} {y} {b} {z} g l d q s = record { fits = rw s g.fits; is = λ k m. ap (λ (w : ℕ). bit w k) s ∙ go k m (cases_eq k b) }
    where
      go : (k : ℕ) → k < 64 → (k ≡ b) ⊎ (k ≢ b) → bit here k ≡ (bit word k && (bit y k || at k))
      go k m (inl s) =
          let t : at k ≡ true = eq-eqb (get_or hops (64 * w + k) 0) e (ap (λ (i : ℕ). get_or hops (64 * w + i) 0) s ∙ q) in
          g.is k m ∙ rw (t, ap (bit x) s ∙ l.here, ap (bit y) s ∙ without_here l d)
      go k m (inr n) = g.is k m ∙ rw (without_other l d k m n)

  -- another leaves
  pub kept_leaves : {here x y b z : ℕ} → BitsKept here x → IsLeast x b → WithoutLeast x y → (get_or hops (64 * w + b) 0 ≡ e → ⊥)
      → z ≡ word_of 64 (λ k. bit here k && not (eqb k b)) → BitsKept z y
  kept_leaves {here} {x} {y} {b} {z} g l d q s = record {
    fits = rw s (word_of_lt 64 (λ k. bit here k && not (eqb k b)));
    is = λ k m. ap (λ (w : ℕ). bit w k) s ∙ bit-word_of 64 (λ k. bit here k && not (eqb k b)) k m ∙ go k m (cases_eq k b);
  }
    where
      go : (k : ℕ) → k < 64 → (k ≡ b) ⊎ (k ≢ b) → (bit here k && not (eqb k b)) ≡ (bit word k && (bit y k || at k))
      go k m (inl s) =
          let t : at k ≡ false = ne_eqb (get_or hops (64 * w + k) 0) e (λ z. q (ap (λ (i : ℕ). get_or hops (64 * w + i) 0) (sym s) ∙ z)) in
          rw (t, eq-eqb k b s, ap (bit y) s ∙ without_here l d) (and-false (bit here k) ∙ sym (and-false (bit word k)))
      go k m (inr n) = rw (ne_eqb k b n, without_other l d k m n) (and-true_r (bit here k) ∙ g.is k m)

  pub kept_all : {here x : ℕ} → BitsKept here x → x ≡ 0 → here ≡ word_of 64 (λ k. bit word k && at k)
  kept_all {here} {x} g z = word_is 64 here (λ k. bit word k && at k) g.fits (λ k l. g.is k l ∙ rw (ap (λ (w : ℕ). bit w k) z ∙ bit_of_zero k))

-- ---- as far as a target lies

module _ (W : ℕ) (targets hops last : List ℕ) (depth : ℕ) where
  abbrev met : Bool
  met = anyb (λ v. row_bit W last v && row_bit W targets v) (range (64 * W))

  pub farthest_last : {b : Bool} → b ≡ met → b ≡ true → depth ≡ farthest_of W targets hops last depth
  unfolding farthest_of
  farthest_last e t = rw (sym e ∙ t)

  pub farthest_pass : {b : Bool} {n : ℕ} → b ≡ met → b ≡ false → n ≡ max_of (λ v. get_or hops v 0) (vertices (network_of W targets [])) → n ≡ farthest_of W targets hops last depth
  unfolding farthest_of
  farthest_pass e f q = rw (sym e ∙ f) q

  -- AFTER A SEARCH THAT REACHES ALL TARGETS IT IS THE GREATEST HOP OF ONE
  pub farthest_is : IsLastLayer W targets last hops depth → farthest_of W targets hops last depth ≡ max_of (λ v. get_or hops v 0) (vertices (network_of W targets []))
  unfolding farthest_of
  farthest_is is = go met refl
    where
      go : (b : Bool) → met ≡ b → cond b depth (max_of (λ v. get_or hops v 0) (vertices (network_of W targets []))) ≡ max_of (λ v. get_or hops v 0) (vertices (network_of W targets []))
      go true t = greatest_last W targets hops last depth is t
      go false f = refl

  -- ---- the depot's own

  module _ (r : ℕ) (row after : List ℕ) {e : ℕ} (far : e ≡ farthest_of W targets hops last depth) where
    pub reach_none : row_bit W targets r ≡ false → after ≡ overwrite (encode_row W (λ v. false)) row → reached e 0 after ≡ reach_of W targets hops last r depth row
    unfolding reach_of
    reach_none f q = rw (f, q, far)

    pub reach_last : row_bit W targets r ≡ true → e ≡ depth → after ≡ overwrite (encode_row W (λ v. row_bit W targets v && row_bit W last v)) row
        → reached e e after ≡ reach_of W targets hops last r depth row
    unfolding reach_of
    reach_last t d q = rw (t, q, eq-eqb (farthest_of W targets hops last depth) depth (sym far ∙ d)) (ap (λ (n : ℕ). reached n n (overwrite (encode_row W (λ v. row_bit W targets v && row_bit W last v)) row)) far)

    pub reach_pass : row_bit W targets r ≡ true → (e ≡ depth → ⊥) → after ≡ overwrite (encode_row W (λ v. row_bit W targets v && eqb (get_or hops v 0) e)) row
        → reached e e after ≡ reach_of W targets hops last r depth row
    unfolding reach_of
    reach_pass t d q =
        rw (t, q, ne_eqb (farthest_of W targets hops last depth) depth (λ z. d (far ∙ z)))
        (ap (λ (n : ℕ). reached n n (overwrite (encode_row W (λ v. row_bit W targets v && eqb (get_or hops v 0) n)) row)) far)

-- what the check is told: of the greatest hop, and of the partners
pub ruleset far = (farthest_last, farthest_pass)

pub ruleset reaching = (reach_none, reach_last, reach_pass)
