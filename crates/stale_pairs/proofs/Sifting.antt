-- The loop of `sift`: the members of x that are not left are taken out where they are stale, and counted, and their greatest way is known.
-- Assumes nothing.
use mathlib.Core.Path.{◌≡◌, refl, sym, ap, ap₂, ◌∙◌}
use mathlib.Core.Logic.{◌≢◌, ◌⊎◌, inl, inr}
use mathlib.Core.Bool.{Bool, true, false, cond, not, ◌&&◌, ◌||◌}
use Prim.Native.Nat.{ℕ, ◌+◌, ◌^◌, ◌≤◌, ◌<◌, min, max}
use native.Mathlib.Omega.{arith}
use lib.Dec.{eqb, ltb}
use borrow.Author.Tests.{eq-eqb, ne_eqb, lt-ltb, le-ltb}
use Rattle.std.proofs.lemmas.Bool.{cases_eq}
use Rattle.lists.specs.Lists.{range, countb, max_of}
use Rattle.lists.proofs.Members.{length-range}
use Rattle.lists.proofs.Counts.{count_le_length, count_none}
use Rattle.lists.proofs.RangeCounts.{count_same, count_with_new}
use Rattle.words.specs.Bits.{bit, word_of}
use Rattle.words.specs.Least.{IsLeast, WithoutLeast}
use Rattle.words.proofs.Lowest.{without_inside, without_here, without_other}
use Rattle.words.proofs.Bits.{bit_of_zero, bit-word_of, word_of_ext, word_is}
use Rattle.stale_pairs.specs.Stale.{staying_bit, stale_bit, greatest_bit, sifted, sift_of}
use Rattle.lists.proofs.Ranges.{max_same, max_none, max_put}

module _ (far : ℕ → ℕ → ℕ) (D u first x : ℕ) where
  abbrev way_of : ℕ → ℕ
  way_of b = min D (far u (first + b))

  -- the members that are left, and those that stay; the ways of those that are not left
  unfoldable pub kept_bit : ℕ → ℕ → Bool
  kept_bit left b = bit x b && (bit left b || not (ltb (far u (first + b)) D))

  unfoldable pub passed_way : ℕ → ℕ → ℕ
  passed_way left b = cond (bit x b && not (bit left b)) (way_of b) 0

  -- those that are not left and pass a test
  unfoldable pub passed_if : (ℕ → Bool) → ℕ → ℕ → Bool
  passed_if test left b = bit x b && (not (bit left b) && test b)

  abbrev is_stale : ℕ → Bool
  is_stale b = ltb (far u (first + b)) D

  pub record Sifting (word gone kept way left : ℕ) : Type 0 where
    pub inside : (b : ℕ) → b < 64 → bit left b ≡ true → bit x b ≡ true
    pub stays : word ≡ word_of 64 (kept_bit left)
    pub went : gone ≡ countb (passed_if is_stale left) (range 64)
    pub stayed : kept ≡ countb (passed_if (λ b. not (is_stale b)) left) (range 64)
    pub greatest : way ≡ max_of (passed_way left) (range 64)

  pub sift_start : x < 2 ^ 64 → Sifting x 0 0 0 x
  unfolding kept_bit passed_if passed_way
  sift_start f = record {
    inside = λ b l h. h;
    stays = word_is 64 x (kept_bit x) f (λ k l. whole (bit x k) (not (ltb (far u (first + k)) D)));
    went = sym (none_passed is_stale);
    stayed = sym (none_passed (λ b. not (is_stale b)));
    greatest = sym (max_none (passed_way x) 64 (λ k l. none k (bit x k)));
  }
    where
      none_passed : (test : ℕ → Bool) → countb (passed_if test x) (range 64) ≡ 0
      none_passed test = count_none (passed_if test x) (range 64) (λ k m. go (bit x k) (test k))
        where
          go : (a t : Bool) → (a && (not a && t)) ≡ false
          go true t = refl
          go false t = refl

      whole : (a b : Bool) → a ≡ (a && (a || b))
      whole true b = refl
      whole false b = refl

      none : (k : ℕ) (a : Bool) → cond (a && not a) (way_of k) 0 ≡ 0
      none k true = refl
      none k false = refl

  -- the least member left
  module _ {word gone kept way left y b : ℕ} (i : Sifting word gone kept way left) (l : IsLeast left b) (d : WithoutLeast left y) where
    passed_other : (k : ℕ) → k < 64 → k ≢ b → passed_way left k ≡ passed_way y k
    unfolding passed_way
    passed_other k m ne = ap (λ (z : Bool). cond (bit x k && not z) (way_of k) 0) (sym (without_other l d k m ne))

    passed_before : passed_way left b ≡ 0
    unfolding passed_way
    passed_before = rw l.here (go (bit x b))
      where
        go : (a : Bool) → cond (a && false) (way_of b) 0 ≡ 0
        go true = refl
        go false = refl

    passed_here : passed_way y b ≡ way_of b
    unfolding passed_way
    passed_here = rw (without_here l d, i.inside b l.below l.here)

    way_more : {e way' : ℕ} → e ≡ way_of b → way' ≡ max way e → way' ≡ max_of (passed_way y) (range 64)
    way_more {e} s m =
        m ∙ ap₂ max i.greatest (s ∙ sym passed_here)
        ∙ sym (max_put (passed_way left) (passed_way y) 64 b l.below passed_other passed_before)

    inside_more : (k : ℕ) → k < 64 → bit y k ≡ true → bit x k ≡ true
    inside_more k m h = i.inside k m (without_inside l d k m h)

    kept_other : (k : ℕ) → k < 64 → k ≢ b → kept_bit left k ≡ kept_bit y k
    unfolding kept_bit
    kept_other k m ne = ap (λ (z : Bool). bit x k && (z || not (ltb (far u (first + k)) D))) (sym (without_other l d k m ne))

    -- it is counted with those that pass a test, or is not
    if_other : (test : ℕ → Bool) (k : ℕ) → k < 64 → k ≢ b → passed_if test left k ≡ passed_if test y k
    unfolding passed_if
    if_other test k m ne = ap (λ (z : Bool). bit x k && (not z && test k)) (sym (without_other l d k m ne))

    if_before : (test : ℕ → Bool) → passed_if test left b ≡ false
    unfolding passed_if
    if_before test = rw (l.here, i.inside b l.below l.here)

    if_here : (test : ℕ → Bool) → passed_if test y b ≡ test b
    unfolding passed_if
    if_here test = rw (without_here l d, i.inside b l.below l.here)

    one_more : (test : ℕ → Bool) {n : ℕ} → test b ≡ true → n ≡ countb (passed_if test left) (range 64) → n + 1 ≡ countb (passed_if test y) (range 64)
    one_more test e q =
        ap (λ (n : ℕ). n + 1) q
        ∙ sym (count_with_new 64 (passed_if test left) b l.below (if_before test))
        ∙ count_same 64 (λ k. eqb k b || passed_if test left k) (passed_if test y) (λ k h. go k h (cases_eq k b))
      where
        go : (k : ℕ) → k < 64 → (k ≡ b) ⊎ (k ≢ b) → (eqb k b || passed_if test left k) ≡ passed_if test y k
        go k h (inl p) = ap (λ (z : Bool). z || passed_if test left k) (eq-eqb k b p) ∙ sym (ap (passed_if test y) p ∙ if_here test ∙ e)
        go k h (inr p) = ap (λ (z : Bool). z || passed_if test left k) (ne_eqb k b p) ∙ if_other test k h p

    none_more : (test : ℕ → Bool) {n : ℕ} → test b ≡ false → n ≡ countb (passed_if test left) (range 64) → n ≡ countb (passed_if test y) (range 64)
    none_more test e q = q ∙ count_same 64 (passed_if test left) (passed_if test y) (λ k h. go k h (cases_eq k b))
      where
        go : (k : ℕ) → k < 64 → (k ≡ b) ⊎ (k ≢ b) → passed_if test left k ≡ passed_if test y k
        go k h (inl p) = ap (passed_if test left) p ∙ if_before test ∙ sym (ap (passed_if test y) p ∙ if_here test ∙ e)
        go k h (inr p) = if_other test k h p

    -- it is stale, and taken out
    pub sift_drop : {word' e way' : ℕ} → word' ≡ word_of 64 (λ k. bit word k && not (eqb k b)) → e ≡ way_of b → way' ≡ max way e → e < D → Sifting word' (gone + 1) kept way' y
    unfolding kept_bit
    sift_drop {word'} {e} q s m n = record {
      inside = inside_more;
      stays = q ∙ word_of_ext 64 (λ k. bit word k && not (eqb k b)) (kept_bit y) (λ k h. go k h (cases_eq k b));
      went = one_more is_stale stale i.went;
      stayed = none_more (λ b. not (is_stale b)) (ap not stale) i.stayed;
      greatest = way_more s m;
    }
      where
        stale : is_stale b ≡ true
        stale = lt-ltb (far u (first + b)) D (omega arith)

        was : (k : ℕ) → k < 64 → bit word k ≡ kept_bit left k
        was k h = ap (λ (w : ℕ). bit w k) i.stays ∙ bit-word_of 64 (kept_bit left) k h

        none : (a : Bool) → (a && false) ≡ false
        none true = refl
        none false = refl

        all : (a : Bool) → (a && true) ≡ a
        all true = refl
        all false = refl

        go : (k : ℕ) → k < 64 → (k ≡ b) ⊎ (k ≢ b) → (bit word k && not (eqb k b)) ≡ kept_bit y k
        go k h (inl p) =
            ap (λ (z : Bool). bit word k && not z) (eq-eqb k b p) ∙ none (bit word k)
            ∙ sym (ap (kept_bit y) p ∙ ap₂ (λ (z w : Bool). bit x b && (z || not w)) (without_here l d) stale ∙ none (bit x b))
        go k h (inr p) = ap (λ (z : Bool). bit word k && not z) (ne_eqb k b p) ∙ all (bit word k) ∙ was k h ∙ kept_other k h p

    -- it stays
    pub sift_keep : {e way' : ℕ} → e ≡ way_of b → way' ≡ max way e → D ≤ e → Sifting word gone (kept + 1) way' y
    unfolding kept_bit
    sift_keep {e} s m n = record {
      inside = inside_more;
      stays = i.stays ∙ word_of_ext 64 (kept_bit left) (kept_bit y) (λ k h. go k h (cases_eq k b));
      went = none_more is_stale fresh i.went;
      stayed = one_more (λ b. not (is_stale b)) (ap not fresh) i.stayed;
      greatest = way_more s m;
    }
      where
        fresh : is_stale b ≡ false
        fresh = le-ltb (far u (first + b)) D (omega arith)

        go : (k : ℕ) → k < 64 → (k ≡ b) ⊎ (k ≢ b) → kept_bit left k ≡ kept_bit y k
        go k h (inl p) =
            ap (kept_bit left) p ∙ ap (λ (z : Bool). bit x b && (z || not (ltb (far u (first + b)) D))) l.here
            ∙ sym (ap (kept_bit y) p ∙ ap₂ (λ (z w : Bool). bit x b && (z || not w)) (without_here l d) fresh)
        go k h (inr p) = kept_other k h p

  -- a word has 64 members at most
  pub sift_few : {word gone kept way left : ℕ} → Sifting word gone kept way left → (gone ≤ 64) × (kept ≤ 64)
  sift_few {left = left} i =
      let most = length-range 64 in
      (omega (arith, i.went, count_le_length (passed_if is_stale left) (range 64)), omega (arith, i.stayed, count_le_length (passed_if (λ b. not (is_stale b)) left) (range 64)))

  -- no member is left
  pub sift_end : {word gone kept way left : ℕ} → Sifting word gone kept way left → left ≡ 0 → sifted word gone kept way ≡ sift_of far D u first x
  unfolding sift_of kept_bit passed_if passed_way staying_bit stale_bit greatest_bit
  sift_end {word} {gone} {kept} {way} {left} i z =
      same
      (i.stays ∙ word_of_ext 64 (kept_bit left) (staying_bit far D u first x) (λ k h. ap (λ (a : Bool). bit x k && (a || not (ltb (far u (first + k)) D))) (passed k)))
      (i.went ∙ counted is_stale)
      (i.stayed ∙ counted (λ b. not (is_stale b)))
      (i.greatest ∙ max_same (passed_way left) (λ b. cond (bit x b) (way_of b) 0) 64 (λ k h. ap (λ (a : Bool). cond (bit x k && not a) (way_of k) 0) (passed k) ∙ all k (bit x k)))
    where
      same : {y y' g g' k k' w w' : ℕ} → y ≡ y' → g ≡ g' → k ≡ k' → w ≡ w' → sifted y g k w ≡ sifted y' g' k' w'
      same a b c d = rw (a, b, c, d)

      passed : (k : ℕ) → bit left k ≡ false
      passed k = ap (λ (w : ℕ). bit w k) z ∙ bit_of_zero k

      counted : (test : ℕ → Bool) → countb (passed_if test left) (range 64) ≡ countb (λ b. bit x b && test b) (range 64)
      counted test = count_same 64 (passed_if test left) (λ b. bit x b && test b) (λ k h. ap (λ (a : Bool). bit x k && (not a && test k)) (passed k))

      all : (k : ℕ) (a : Bool) → cond (a && true) (way_of k) 0 ≡ cond a (way_of k) 0
      all k true = refl
      all k false = refl
