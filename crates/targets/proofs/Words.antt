-- A loop that goes through the set bits of a word and takes the hop of each: their sum, and the greatest. Assumes nothing.
use mathlib.Core.Path.{◌≡◌, refl, sym, ap, ◌∙◌}
use mathlib.Core.Bool.{Bool, true, false, cond}
use mathlib.Core.List.{List}
use Prim.Native.Nat.{ℕ, zero, suc, ◌+◌, ◌*◌, ◌≤◌, ◌<◌, max}
use native.Mathlib.Numerals.{add-one}
use native.Mathlib.Omega.{arith}
use lib.ListN.{length, get_or, take}
use Rattle.std.specs.List.{sum, between}
use Rattle.std.proofs.lemmas.List.{take_all}
use Rattle.std.proofs.lemmas.List.Sums.{sum_by_more}
use Rattle.std.proofs.lemmas.List.Edits.{get_or-between, length-between}
use Rattle.lists.specs.Lists.{range, allb, sum_of, max_of}
use Rattle.lists.proofs.Members.{all_elim, range_in}
use Rattle.lists.proofs.Ranges.{sum_nothing, sum_more, sum_same, sum_skip, sum_but, sum_few, sum_has, max_none, max_put}
use Rattle.words.specs.Bits.{bit}
use Rattle.words.specs.Least.{IsLeast, WithoutLeast}
use Rattle.words.proofs.Bits.{bit_of_zero}
use Rattle.words.proofs.Lowest.{without_here, without_other}
use Rattle.targets.specs.Hops.{hop_in}

-- a hop that is taken or not
pub one_small : (t : Bool) (h : ℕ) → h < 65536 → cond t h 0 ≤ 65535
one_small true h s = omega arith
one_small false h s = omega arith

-- the first n numbers of a list, added
sum_taken : (xs : List ℕ) (n : ℕ) → n ≤ length xs → sum (take n xs) ≡ sum_of (λ b. get_or xs b 0) (range n)
sum_taken xs zero h = sym (sum_nothing (λ b. get_or xs b 0))
sum_taken xs (suc n) h =
    ap (λ (k : ℕ). sum (take k xs)) (sym (add-one n))
    ∙ sum_by_more (λ x. x) xs n 0 h
    ∙ ap (λ (s : ℕ). s + get_or xs n 0) (sum_taken xs n (omega arith))
    ∙ sym (sum_more (λ b. get_or xs b 0) n)
    ∙ ap (λ (k : ℕ). sum_of (λ b. get_or xs b 0) (range k)) (add-one n)

-- every bit of the full word
full_bits : allb (bit 18446744073709551615) (range 64) ≡ true
unfolding bit allb range
full_bits = refl

module _ (hops : List ℕ) (w : ℕ) where
  in_member : (x b : ℕ) → bit x b ≡ true → hop_in hops w x b ≡ get_or hops (64 * w + b) 0
  unfolding hop_in
  in_member x b e = rw e

  in_none : (x b : ℕ) → bit x b ≡ false → hop_in hops w x b ≡ 0
  unfolding hop_in
  in_none x b e = rw e

  in_same : (x y b : ℕ) → bit x b ≡ bit y b → hop_in hops w x b ≡ hop_in hops w y b
  unfolding hop_in
  in_same x y b e = rw e

  -- no member is left
  sum_left_none : {x : ℕ} → x ≡ 0 → sum_of (hop_in hops w x) (range 64) ≡ 0
  sum_left_none {x} z =
      sum_skip (hop_in hops w x) 0 64 (omega arith) (λ b l m. in_none x b (ap (λ (x : ℕ). bit x b) z ∙ bit_of_zero b)) ∙ sum_nothing (hop_in hops w x)

  max_left_none : {x : ℕ} → x ≡ 0 → max_of (hop_in hops w x) (range 64) ≡ 0
  max_left_none {x} z = max_none (hop_in hops w x) 64 (λ b l. in_none x b (ap (λ (x : ℕ). bit x b) z ∙ bit_of_zero b))

  -- ---- a full word: the hops of all its codes

  pub all_sum : 64 * w + 64 ≤ length hops → sum (between (64 * w) (64 * w + 64) hops) ≡ sum_of (λ b. get_or hops (64 * w + b) 0) (range 64)
  all_sum h =
      let e : length part ≡ 64 = omega (arith, length-between hops (64 * w) (64 * w + 64) h) in
      ap sum (sym (take_all 64 part (omega arith))) ∙ sum_taken part 64 (omega arith)
      ∙ sum_same (λ b. get_or part b 0) (λ b. get_or hops (64 * w + b) 0) 64 (λ b l. get_or-between hops (64 * w) (64 * w + 64) b 0 (omega arith))
    where
      part : List ℕ
      part = between (64 * w) (64 * w + 64) hops

  pub full_sum : {word sum : ℕ} → word ≡ 18446744073709551615 → sum ≡ sum_of (λ k. get_or hops (64 * w + k) 0) (range 64) → sum ≡ sum_of (hop_in hops w word) (range 64)
  full_sum {word} {sum} e s =
      s ∙ sum_same (λ k. get_or hops (64 * w + k) 0) (hop_in hops w word) 64
      (λ b l. sym (in_member word b (ap (λ (x : ℕ). bit x b) e ∙ all_elim (bit 18446744073709551615) (range 64) full_bits (range_in 64 l))))

  -- what a word's hops come to at most
  pub word_few : (word : ℕ) {sum : ℕ} → sum ≡ sum_of (hop_in hops w word) (range 64) → ((v : ℕ) → get_or hops v 0 < 65536) → sum ≤ 65535 * 64
  unfolding hop_in
  word_few word e small =
      omega (arith, e, sum_few (hop_in hops w word) 65535 64 (λ b m. one_small (bit word b) (get_or hops (64 * w + b) 0) (small (64 * w + b))))

  module _ (word : ℕ) where
    -- ---- the sum: with the hops of the members that are left it is that of the word

    pub record BitsSummed (sum x : ℕ) : Type 0 where
      pub is : sum + sum_of (hop_in hops w x) (range 64) ≡ sum_of (hop_in hops w word) (range 64)

    pub summing_none : BitsSummed 0 word
    summing_none = record { is = omega arith }

    -- the least member is added, and leaves
    pub summing_next : {sum x y b : ℕ} → BitsSummed sum x → IsLeast x b → WithoutLeast x y → BitsSummed (sum + get_or hops (64 * w + b) 0) y
    summing_next {sum} {x} {y} {b} g l d = record {
      is =
          omega (
            arith,
            g.is,
            sum_but (hop_in hops w x) (hop_in hops w y) 64 b l.below (λ k m ne. in_same x y k (sym (without_other l d k m ne))),
            in_member x b l.here,
            in_none y b (without_here l d),
          );
    }

    pub summing_all : {sum x : ℕ} → BitsSummed sum x → x ≡ 0 → sum ≡ sum_of (hop_in hops w word) (range 64)
    summing_all g z = omega (arith, g.is, sum_left_none z)

    -- it is small
    pub summing_most : {sum x b : ℕ} → BitsSummed sum x → IsLeast x b → ((v : ℕ) → get_or hops v 0 < 65536) → sum + get_or hops (64 * w + b) 0 ≤ 65535 * 64
    summing_most {sum} {x} {b} g l small =
        omega (arith, g.is, in_member x b l.here, sum_has (hop_in hops w x) 64 b l.below, word_few word refl small)

    -- ---- the greatest: with those of the members that are left it is that of the word

    pub record BitsCompared (most x : ℕ) : Type 0 where
      pub is : max most (max_of (hop_in hops w x) (range 64)) ≡ max_of (hop_in hops w word) (range 64)

    pub comparing_none : BitsCompared 0 word
    comparing_none = record { is = omega arith }

    pub comparing_next : {most x y b n : ℕ} → BitsCompared most x → IsLeast x b → WithoutLeast x y → n ≡ max most (get_or hops (64 * w + b) 0) → BitsCompared n y
    comparing_next {most} {x} {y} {b} {n} g l d e = record {
      is =
          omega (
            arith,
            e,
            g.is,
            max_put (hop_in hops w y) (hop_in hops w x) 64 b l.below (λ k m ne. in_same y x k (without_other l d k m ne)) (in_none y b (without_here l d)),
            in_member x b l.here,
          );
    }

    pub comparing_all : {most x : ℕ} → BitsCompared most x → x ≡ 0 → most ≡ max_of (hop_in hops w word) (range 64)
    comparing_all g z = omega (arith, g.is, max_left_none z)

-- what the check is told of these loops
pub ruleset comparing = (comparing_none, comparing_next, comparing_all)

pub ruleset summing = (full_sum, word_few, summing_none, summing_most)
