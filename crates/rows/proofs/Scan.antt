-- A loop that reads a word of a row a turn: the members counted, and the numbers that a search for a member has passed. Assumes nothing.
use mathlib.Core.Path.{◌≡◌, sym, ap, ◌∙◌}
use mathlib.Core.Logic.{◌⊎◌, inl, inr}
use mathlib.Core.Bool.{Bool, true, false, not}
use mathlib.Core.List.{List}
use Prim.Native.Nat.{ℕ, ◌+◌, ◌-◌, ◌*◌, ◌/◌, ◌%◌, ◌^◌, ◌≤◌, ◌<◌}
use native.Mathlib.Omega.{arith}
use lib.ListN.{length, get_or, take}
use lib.Count.{count_trailing_zeros}
use Rattle.std.proofs.lemmas.Bool.{cases_lt}
use Rattle.std.proofs.lemmas.List.{length-take-le, get_or-take}
use Rattle.std.specs.Bool.{MatchBool}
use Rattle.std.specs.List.{AllWithin, HoldsAt}
use Rattle.lists.specs.Lists.{range, countb, anyb}
use Rattle.lists.proofs.Tests.{clash}
use Rattle.lists.proofs.Members.{length-range, range_in, range_out, any_intro, any_none}
use Rattle.words.specs.Bits.{bit}
use Rattle.words.specs.Least.{IsLeast}
use Rattle.words.proofs.Bits.{bit_of_zero, bit_past, bit_shr}
use Rattle.lists.proofs.Counts.{count_le_length}
use Rattle.lists.proofs.RangeCounts.{count_same, count_split}
use Rattle.words.proofs.Lowest.{least_is}
use Rattle.rows.specs.Rows.{row_bit, table_bit}
use Rattle.rows.specs.Next.{IsNext}
use Rattle.rows.proofs.Written.{row_word, row_past, table_word}

-- ---- the members counted: one more word

-- no more pass a test than are looked at
pub count_few : (p : ℕ → Bool) (n : ℕ) → countb p (range n) ≤ n
count_few p n = omega (arith, count_le_length p (range n), length-range n)

pub count_word : (W : ℕ) (t : List ℕ) (u j : ℕ) → u < 64 * W → j < W
    → countb (table_bit W t u) (range (64 * (j + 1))) ≡ countb (table_bit W t u) (range (64 * j)) + countb (bit (get_or t (W * u + j) 0)) (range 64)
count_word W t u j d h =
    let e : 64 * (j + 1) ≡ 64 * j + 64 = omega arith in
    ap (λ (n : ℕ). countb (table_bit W t u) (range n)) e
    ∙ count_split (64 * j) 64 (table_bit W t u)
    ∙ ap (λ (n : ℕ). countb (table_bit W t u) (range (64 * j)) + n)
    (count_same 64 (λ k. table_bit W t u (64 * j + k)) (bit (get_or t (W * u + j) 0)) (λ k l. table_word W t u j k d h l))

-- ---- the numbers passed: none from start on, below the word that is next

-- a number of word i, by its bit
in_word_lem : (W : ℕ) (row : List ℕ) (i k : ℕ) → i < W → 64 * i ≤ k → k < 64 * i + 64 → row_bit W row k ≡ bit (get_or row i 0) (k - 64 * i)
in_word_lem W row i k n l h =
    let e : k ≡ 64 * i + (k - 64 * i) = omega arith in
    ap (row_bit W row) e ∙ row_word W row i (k - 64 * i) n (omega arith)

-- one more word that is 0
pub passed_more : (W : ℕ) (row : List ℕ) (start i : ℕ) → i < W → get_or row i 0 ≡ 0 → ((k : ℕ) → start ≤ k → k < 64 * i → row_bit W row k ≡ false)
    → (k : ℕ) → start ≤ k → k < 64 * (i + 1) → row_bit W row k ≡ false
passed_more W row start i n e h k l m = go (cases_lt k (64 * i))
  where
    go : (k < 64 * i) ⊎ (64 * i ≤ k) → row_bit W row k ≡ false
    go (inl s) = h k l s
    go (inr s) = in_word_lem W row i k n s (omega arith) ∙ ap (λ (x : ℕ). bit x (k - 64 * i)) e ∙ bit_of_zero (k - 64 * i)

-- every word passed
pub passed_all : (W : ℕ) (row : List ℕ) (start i : ℕ) → W ≤ i → ((k : ℕ) → start ≤ k → k < 64 * i → row_bit W row k ≡ false) → (k : ℕ) → start ≤ k → row_bit W row k ≡ false
passed_all W row start i n h k l = go (cases_lt k (64 * i))
  where
    go : (k < 64 * i) ⊎ (64 * i ≤ k) → row_bit W row k ≡ false
    go (inl s) = h k l s
    go (inr s) = row_past W row k (omega arith)

-- the least set bit of the next word is the next member
pub passed_next : (W : ℕ) (row : List ℕ) (start i b : ℕ) → i < W → start ≤ 64 * i → ((k : ℕ) → start ≤ k → k < 64 * i → row_bit W row k ≡ false)
    → IsLeast (get_or row i 0) b → IsNext W row start (64 * i + b)
passed_next W row start i b n s h p = record {
  after = omega arith;
  inside = omega arith;
  here = row_word W row i b n p.below ∙ p.here;
  first = λ k l m. go k l m (cases_lt k (64 * i));
}
  where
    go : (k : ℕ) → start ≤ k → k < 64 * i + b → (k < 64 * i) ⊎ (64 * i ≤ k) → row_bit W row k ≡ false
    go k l m (inl q) = h k l q
    go k l m (inr q) = in_word_lem W row i k n q (omega arith) ∙ p.first (k - 64 * i) (omega arith)

-- ---- the first word, shifted down so that start is bit 0

module _ (W : ℕ) (row : List ℕ) (start : ℕ) (n : start / 64 < W) (fits : get_or row (start / 64) 0 < 2 ^ 64) where
  shifted_bit : (k : ℕ) → start % 64 + k < 64 → row_bit W row (start + k) ≡ bit (get_or row (start / 64) 0 / 2 ^ (start % 64)) k
  shifted_bit k l =
      let e : start + k ≡ 64 * (start / 64) + (start % 64 + k) = omega arith in
      ap (row_bit W row) e ∙ row_word W row (start / 64) (start % 64 + k) n l ∙ sym (bit_shr (get_or row (start / 64) 0) (start % 64) k)

  pub shifted_zero : get_or row (start / 64) 0 / 2 ^ (start % 64) ≡ 0 → (k : ℕ) → start ≤ k → k < 64 * (start / 64 + 1) → row_bit W row k ≡ false
  shifted_zero z k l m =
      let e : k ≡ start + (k - start) = omega arith in
      ap (row_bit W row) e ∙ shifted_bit (k - start) (omega arith) ∙ ap (λ (x : ℕ). bit x (k - start)) z ∙ bit_of_zero (k - start)

  -- its least set bit is in the word still
  near : (b : ℕ) → IsLeast (get_or row (start / 64) 0 / 2 ^ (start % 64)) b → start % 64 + b < 64
  near b p = go (cases_lt (start % 64 + b) 64)
    where
      go : (start % 64 + b < 64) ⊎ (64 ≤ start % 64 + b) → start % 64 + b < 64
      go (inl l) = l
      go (inr l) =
          absurd (clash p.here (bit_shr (get_or row (start / 64) 0) (start % 64) b ∙ bit_past 64 (get_or row (start / 64) 0) (start % 64 + b) fits l))

  pub shifted_next : (b : ℕ) → IsLeast (get_or row (start / 64) 0 / 2 ^ (start % 64)) b → IsNext W row start (start + b)
  shifted_next b p =
      let s : start % 64 + b < 64 = near b p in
      record {
        after = omega arith;
        inside = omega arith;
        here = shifted_bit b s ∙ p.here;
        first = λ k l m.
            (let e : k ≡ start + (k - start) = omega arith in
            ap (row_bit W row) e ∙ shifted_bit (k - start) (omega arith) ∙ p.first (k - start) (omega arith));
      }

-- ---- whether a row has a member

any_word : (W : ℕ) (row : List ℕ) (j : ℕ) → j < W → get_or row j 0 < 2 ^ 64 → (get_or row j 0 ≡ 0 → ⊥) → anyb (row_bit W row) (range (64 * W)) ≡ true
any_word W row j h fits ne =
    let p : IsLeast (get_or row j 0) (count_trailing_zeros 64 (get_or row j 0)) = least_is (get_or row j 0) (omega arith) fits in
    let b : ℕ = count_trailing_zeros 64 (get_or row j 0) in
    any_intro (row_bit W row) (range (64 * W)) (range_in (64 * W) {v = 64 * j + b} (omega (arith, p.below))) (row_word W row j b h p.below ∙ p.here)

-- whether all words are 0, as `all` tells it
pub none_by_words : (W : ℕ) (row : List ℕ) → W ≤ length row → ((i : ℕ) → get_or row i 0 < 2 ^ 64) → (all : Bool)
    → MatchBool all (AllWithin (λ x. x ≡ 0) (take W row) 0 (length (take W row)))
    ((k : ℕ) × (k < length (take W row)) × HoldsAt (λ x. x ≡ 0 → ⊥) (take W row) k)
    → all ≡ not (anyb (row_bit W row) (range (64 * W)))
none_by_words W row h fits true z = ap not (sym (any_none (row_bit W row) (range (64 * W)) (λ v m. zero v (range_out (64 * W) m))))
  where
    zero : (v : ℕ) → v < 64 * W → row_bit W row v ≡ false
    zero v m =
        let l : v / 64 < W = omega arith in
        let e : get_or row (v / 64) 0 ≡ 0 = rw get_or-take at (z (v / 64) 0 (omega arith) (omega (arith, length-take-le W row h))) in
        in_word_lem W row (v / 64) v l (omega arith) (omega arith) ∙ ap (λ (x : ℕ). bit x (v - 64 * (v / 64))) e ∙ bit_of_zero (v - 64 * (v / 64))
none_by_words W row h fits false z =
    let l : z.0 < W = omega (arith, length-take-le W row h) in
    ap not (sym (any_word W row z.0 l (fits z.0) (rw (get_or-take W row z.0 0 l) at (z.2 0))))
