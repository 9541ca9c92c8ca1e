-- The yards of a map: taken out of the open set, and whether all are open, word by word. Assumes nothing.
use mathlib.Core.Path.{◌≡◌, refl, sym, ap, ◌∙◌, subst}
use mathlib.Core.Logic.{◌⊎◌, inl, inr}
use mathlib.Core.Bool.{Bool, true, false, not, ◌&&◌, ◌||◌}
use mathlib.Core.List.{List, []}
use Prim.Native.Nat.{ℕ, zero, suc, ◌+◌, ◌-◌, ◌*◌, ◌^◌, ◌≤◌, ◌<◌}
use native.Mathlib.Nat.{lt_irrefl, lt_of_le_of_lt}
use native.Mathlib.Numerals.{add-one}
use native.Mathlib.Omega.{arith}
use lib.Dec.{eqb}
use lib.Bits.{bit_and, and_le_l}
use lib.Count.{count_trailing_zeros}
use lib.ListN.{length, get_or, set, length-set}
use borrow.Author.Tests.{not-true, eqb-true, eq-eqb}
use Rattle.std.proofs.lemmas.Bool.{cases_Bool, cases_lt, and_parts, or_cases, or_left, or_right}
use Rattle.std.specs.List.{list_all, range_with_len}
use Rattle.lists.specs.Lists.{from, range, allb, overwrite}
use Rattle.lists.proofs.Tests.{clash, not→false, t→true, same_test}
use Rattle.lists.proofs.Members.{all_intro, all_elim, range_in, range_out}
use Rattle.words.specs.Bits.{bit}
use Rattle.words.specs.Least.{IsLeast}
use Rattle.words.proofs.Bits.{bit_of_zero, bit-word_of, word_minus}
use Rattle.words.proofs.Lowest.{least_is}
use Rattle.rows.specs.Rows.{row_bit, encode_row}
use Rattle.rows.proofs.Written.{row_word}
use Rattle.rows.proofs.Turns.{turn_none, turn_minus}
use Rattle.graph.specs.Network.{delivers}
use Rattle.map.specs.Memory.{network_of, yard_network}
use Rattle.map.specs.Bits.{sound_yards}

-- ---- the depots that deliver

-- the first j words of the open set are without their yards
pub record Delivering (W : ℕ) (yards before after : List ℕ) (j : ℕ) : Type 0 where
  pub within : j ≤ W
  pub size : length after ≡ length before
  pub is : after ≡ overwrite (encode_row j (λ v. row_bit W before v && not (row_bit W yards v))) before

pub delivering_start : (W : ℕ) (yards before : List ℕ) → Delivering W yards before before 0
delivering_start W yards before = record { within = omega arith; size = refl; is = turn_none _ before }

pub delivering_next : (W : ℕ) (yards before after : List ℕ) (j : ℕ) → Delivering W yards before after j → j < length before → j < W
    → get_or after j 0 < 2 ^ 64 → get_or yards j 0 < 2 ^ 64
    → Delivering W yards before (set after j (bit_and (get_or after j 0) ((2 ^ 64 - 1) - get_or yards j 0))) (j + 1)
delivering_next W yards before after j i h l fa fy = record {
  within = omega arith;
  size = length-set after j _ ∙ i.size;
  is = turn_minus W yards before after j i.is h l fa fy;
}

pub delivering_end : (W : ℕ) (yards before after : List ℕ) (j : ℕ) → Delivering W yards before after j → W ≤ j
    → after ≡ overwrite (encode_row W (delivers (yard_network W before yards []))) before
unfolding delivers network_of
delivering_end W yards before after j i l =
    i.is ∙ ap (λ (n : ℕ). overwrite (encode_row n (λ v. row_bit W before v && not (row_bit W yards v))) before) (omega (arith, i.within))

-- ---- a test of all numbers below one

all_from : (p : ℕ → Bool) (i n : ℕ) → list_all p (range_with_len i n) ≡ allb p (from i n)
unfolding allb from
all_from p i zero = refl
all_from p i (suc n) = ap (λ (b : Bool). p i && b) (ap (λ (k : ℕ). list_all p (range_with_len k n)) (add-one i) ∙ all_from p (suc i) n)

-- as `all` of a range answers it
pub all_range : (p : ℕ → Bool) (n : ℕ) → list_all p (range_with_len 0 n) ≡ allb p (range n)
unfolding range
all_range p n = all_from p 0 n

-- ---- the yards are open

-- a word without the bits of another: each of its bits is one of the first alone
module _ (y m : ℕ) (fy : y < 2 ^ 64) (fm : m < 2 ^ 64) where
  minus_bit : (b : ℕ) → b < 64 → bit (bit_and y ((2 ^ 64 - 1) - m)) b ≡ (bit y b && not (bit m b))
  minus_bit b l = ap (λ (w : ℕ). bit w b) (word_minus 64 y m fy fm) ∙ bit-word_of 64 (λ k. bit y k && not (bit m k)) b l

-- the yards in the first j words are open
pub record OpenYards (W : ℕ) (members yards : List ℕ) (j : ℕ) : Type 0 where
  pub within : j ≤ W
  pub passed : (v : ℕ) → v < 64 * j → row_bit W yards v ≡ true → row_bit W members v ≡ true

pub yards_start : (W : ℕ) (members yards : List ℕ) → OpenYards W members yards 0
yards_start W members yards = record { within = omega arith; passed = λ v l e. absurd (lt_irrefl v (omega arith)) }

module _ (W : ℕ) (members yards : List ℕ) (j : ℕ) where
  pub yards_next : OpenYards W members yards j → j < W → get_or yards j 0 < 2 ^ 64 → get_or members j 0 < 2 ^ 64
      → bit_and (get_or yards j 0) ((2 ^ 64 - 1) - get_or members j 0) ≡ 0 → OpenYards W members yards (j + 1)
  yards_next i l fy fm z = record { within = omega arith; passed = λ v h e. go v e (cases_lt v (64 * j)) h }
    where
      here : (b : ℕ) → b < 64 → row_bit W yards (64 * j + b) ≡ true → row_bit W members (64 * j + b) ≡ true
      here b h e = on (cases_Bool (bit (get_or members j 0) b))
        where
          on : (bit (get_or members j 0) b ≡ true) ⊎ (bit (get_or members j 0) b ≡ false) → row_bit W members (64 * j + b) ≡ true
          on (inl t) = row_word W members j b l h ∙ t
          on (inr f) =
              let q : (bit (get_or yards j 0) b && not (bit (get_or members j 0) b)) ≡ true = rw (sym (row_word W yards j b l h) ∙ e, f) refl in
              absurd (clash (minus_bit (get_or yards j 0) (get_or members j 0) fy fm b h ∙ q) (ap (λ (w : ℕ). bit w b) z ∙ bit_of_zero b))

      go : (v : ℕ) → row_bit W yards v ≡ true → (v < 64 * j) ⊎ (64 * j ≤ v) → v < 64 * (j + 1) → row_bit W members v ≡ true
      go v e (inl m) h = i.passed v m e
      go v e (inr m) h =
          let q : 64 * j + (v - 64 * j) ≡ v = omega arith in
          subst (λ (k : ℕ). row_bit W members k ≡ true) q (here (v - 64 * j) (omega arith) (subst (λ (k : ℕ). row_bit W yards k ≡ true) (sym q) e))

  pub yards_end : OpenYards W members yards j → W ≤ j → true ≡ sound_yards (64 * W) (yard_network W members yards [])
  unfolding sound_yards network_of
  yards_end i l = sym (all_intro (λ v. not (row_bit W yards v) || row_bit W members v) (range (64 * W)) (λ v n. one v (range_out (64 * W) n) (cases_Bool (row_bit W yards v))))
    where
      one : (v : ℕ) → v < 64 * W → (row_bit W yards v ≡ true) ⊎ (row_bit W yards v ≡ false) → (not (row_bit W yards v) || row_bit W members v) ≡ true
      one v n (inl t) = or_right (not (row_bit W yards v)) _ (i.passed v (omega arith) t)
      one v n (inr f) = or_left _ (row_bit W members v) (ap not f)

  pub yards_fault : j < W → get_or yards j 0 < 2 ^ 64 → get_or members j 0 < 2 ^ 64
      → (bit_and (get_or yards j 0) ((2 ^ 64 - 1) - get_or members j 0) ≡ 0 → ⊥) → false ≡ sound_yards (64 * W) (yard_network W members yards [])
  unfolding sound_yards network_of
  yards_fault l fy fm ne = sym (not→false (allb test (range (64 * W))) (λ t. at (or_cases (not (row_bit W yards v)) (row_bit W members v) (all_elim test (range (64 * W)) (t→true _ t) (range_in (64 * W) inside)))))
    where
      test : ℕ → Bool
      test u = not (row_bit W yards u) || row_bit W members u

      w : ℕ
      w = bit_and (get_or yards j 0) ((2 ^ 64 - 1) - get_or members j 0)

      p : IsLeast w (count_trailing_zeros 64 w)
      p = least_is w (omega (arith, ne)) (lt_of_le_of_lt (and_le_l (get_or yards j 0) _) fy)

      b : ℕ
      b = count_trailing_zeros 64 w

      v : ℕ
      v = 64 * j + b

      inside : v < 64 * W
      inside = omega (arith, p.below)

      both : (bit (get_or yards j 0) b ≡ true) × (not (bit (get_or members j 0) b) ≡ true)
      both = and_parts (bit (get_or yards j 0) b) (not (bit (get_or members j 0) b)) (sym (minus_bit (get_or yards j 0) (get_or members j 0) fy fm b p.below) ∙ p.here)

      at : (not (row_bit W yards v) ≡ true) ⊎ (row_bit W members v ≡ true) → ⊥
      at (inl n) = clash (row_word W yards j b l p.below ∙ both.0) (not-true (row_bit W yards v) n)
      at (inr t) = clash t (row_word W members j b l p.below ∙ not-true (bit (get_or members j 0) b) both.1)

-- whether all words of the yards are inside those of the open set, as `all` of a range answers it
module _ (W : ℕ) (members yards : List ℕ) (fy : (j : ℕ) → get_or yards j 0 < 2 ^ 64) (fm : (j : ℕ) → get_or members j 0 < 2 ^ 64) where
  abbrev inside_word : ℕ → Bool
  inside_word j = eqb (bit_and (get_or yards j 0) ((2 ^ 64 - 1) - get_or members j 0)) 0

  open_words : (j : ℕ) → j ≤ W → ((k : ℕ) → k < j → inside_word k ≡ true) → OpenYards W members yards j
  open_words zero l t = yards_start W members yards
  open_words (suc j) l t =
      subst (OpenYards W members yards) (add-one j)
      (yards_next W members yards j (open_words j (omega arith) (λ k h. t k (omega arith))) (omega arith) (fy j) (fm j) (eqb-true _ 0 (t j (omega arith))))

  pub yards_by_words : list_all inside_word (range_with_len 0 W) ≡ sound_yards (64 * W) (yard_network W members yards [])
  yards_by_words = all_range inside_word W ∙ same_test (allb inside_word (range W)) (sound_yards (64 * W) (yard_network W members yards [])) to from
    where
      to : allb inside_word (range W) ≡ true → sound_yards (64 * W) (yard_network W members yards []) ≡ true
      to t = sym (yards_end W members yards W (open_words W (omega arith) (λ k h. all_elim inside_word (range W) t (range_in W h))) (omega arith))

      from : sound_yards (64 * W) (yard_network W members yards []) ≡ true → allb inside_word (range W) ≡ true
      from s = all_intro inside_word (range W) (λ j m. at j (range_out W m) (cases_Bool (inside_word j)))
        where
          at : (j : ℕ) → j < W → (inside_word j ≡ true) ⊎ (inside_word j ≡ false) → inside_word j ≡ true
          at j l (inl t) = t
          at j l (inr f) = absurd (clash s (sym (yards_fault W members yards j l (fy j) (fm j) (λ z. clash (eq-eqb _ 0 z) f))))
