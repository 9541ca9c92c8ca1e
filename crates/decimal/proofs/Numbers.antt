-- A number put into a buffer from its last digit to its first: how many digits it has, those of a short one, a turn of `put_long`, and a field. Assumes nothing.
use mathlib.Core.Path.{◌≡◌, refl, sym, ap, ◌∙◌}
use mathlib.Core.List.{List, [], ◌∷◌, ◌++◌, append_assoc}
use mathlib.Core.Logic.{◌⊎◌, inl, inr}
use Prim.Native.Nat.{ℕ, zero, suc, ◌+◌, ◌/◌, ◌%◌, ◌^◌, ◌≤◌, ◌<◌}
use native.Mathlib.Nat.{zero-add, one-le-pow, pow-succ', div-one, div-div-eq-div-mul}
use native.Mathlib.Omega.{arith}
use lib.ListN.{length, set, length-append, length-set}
use Rattle.std.proofs.lemmas.Bool.{cases_lt}
use Rattle.lists.proofs.Appends.{append_none}
use Rattle.decimal.specs.Decimal.{numeral, decimal, two_digits, field}
use Rattle.decimal.specs.Placed.{Placed}
use Rattle.decimal.proofs.Decimals.{decimal_one, decimal_more, decimal_two, decimal_hundred, decimal_long}
use Rattle.decimal.proofs.Places.{placed_byte, placed_none, placed_before, placed_size, placed_join, placed_text, placed_end}

-- ---- how many digits

one_length : (n : ℕ) → n < 10 → length (decimal n) ≡ 1
one_length n h = ap length (decimal_one n h)

pub more_length : (n : ℕ) → 10 ≤ n → length (decimal n) ≡ length (decimal (n / 10)) + 1
more_length n h = ap length (decimal_more n h) ∙ length-append (decimal (n / 10)) (numeral (n % 10) ∷ [])

pub digits_some : (n : ℕ) → 0 < length (decimal n)
digits_some n = by_size (cases_lt n 10)
  where
    by_size : (n < 10) ⊎ (10 ≤ n) → 0 < length (decimal n)
    by_size (inl h) = omega (arith, one_length n h)
    by_size (inr h) = omega (arith, more_length n h)

pub digits_first : (n : ℕ) → n < 10 → 1 ≡ length (decimal n)
digits_first n h = sym (one_length n h)

-- the last k, and those before them
digits_behind : (k n : ℕ) → 10 ^ k ≤ n → length (decimal n) ≡ k + length (decimal (n / 10 ^ k))
digits_behind zero n h = sym (zero-add (length (decimal (n / 1))) ∙ ap (λ (m : ℕ). length (decimal m)) (div-one n))
digits_behind (suc k) n h =
    let q : n / 10 ^ suc k ≡ n / 10 / 10 ^ k = ap (λ (m : ℕ). n / m) (pow-succ' 10 k) ∙ sym (div-div-eq-div-mul n 10 (10 ^ k)) in
    let p : 1 ≤ 10 ^ k = one-le-pow k 10 (omega arith) in
    omega (arith, more_length n (omega arith), digits_behind k (n / 10) (omega arith), ap (λ (m : ℕ). length (decimal m)) q)

pub digits_three : (n : ℕ) → 10 ^ 3 ≤ n → length (decimal n) ≡ 3 + length (decimal (n / 10 ^ 3))
digits_three n h = digits_behind 3 n h

pub digits_six : (n : ℕ) → 10 ^ 6 ≤ n → length (decimal n) ≡ 6 + length (decimal (n / 10 ^ 6))
digits_six n h = digits_behind 6 n h

pub digits_ten : (n : ℕ) → 10 ^ 10 ≤ n → length (decimal n) ≡ 10 + length (decimal (n / 10 ^ 10))
digits_ten n h = digits_behind 10 n h

-- one digit, or those of a shorter number and the ones behind them: enough for up to ten digits
pub ruleset ten_digits = (digits_first, digits_three, digits_six, more_length)

-- a number of 64 bits: what stands before its last ten digits is short
pub digits_before : (n : ℕ) → n < 2 ^ 64 → length (decimal (n / 10 ^ 10)) ≤ 20
digits_before n h = decimal_long (n / 10 ^ 10) (omega arith)

pub ruleset long_numbers = (digits_ten, digits_before)

-- ---- numbers of up to three digits

pub two_placed : (at : ℕ) (old : List ℕ) (n : ℕ) → at + 1 < length old → Placed (two_digits n) at old (at + 2) (set (set old at (numeral (n / 10))) (at + 1) (numeral (n % 10)))
unfolding two_digits
two_placed at old n h =
    placed_end (placed_join (placed_byte at old (numeral (n / 10)) (omega arith)) (placed_byte (at + 1) (set old at (numeral (n / 10))) (numeral (n % 10)) (simp length-set h)) (omega arith)) (omega arith)

pub one_put : (n : ℕ) {at : ℕ} {old : List ℕ} → n < 10 → at < length old → Placed (decimal n) at old (at + 1) (set old at (numeral n))
one_put n {at} {old} h k = placed_text (placed_byte at old (numeral n) k) (sym (decimal_one n h))

pub two_put : (n : ℕ) {at end : ℕ} {old new : List ℕ} → Placed (two_digits n) at old end new → 10 ≤ n → n < 100 → Placed (decimal n) at old end new
two_put n w h k = placed_text w (sym (decimal_two n h k))

two_length : (n : ℕ) → length (two_digits n) ≡ 2
unfolding two_digits
two_length n = refl

pub short_length : (n : ℕ) → 10 ≤ n → n < 100 → length (decimal n) ≡ 2
short_length n h k = ap length (decimal_two n h k) ∙ two_length n

pub ruleset short_numbers = (digits_first, short_length, one_put, two_put)

pub hundred_length : (n : ℕ) → 100 ≤ n → length (decimal n) ≡ length (decimal (n / 100)) + 2
hundred_length n h = ap length (decimal_hundred n h) ∙ length-append (decimal (n / 100)) (two_digits (n % 100)) ∙ ap (λ (k : ℕ). length (decimal (n / 100)) + k) (two_length (n % 100))

pub three_length : (n : ℕ) → 100 ≤ n → n < 1000 → length (decimal n) ≡ 3
three_length n h k = omega (arith, hundred_length n h, one_length (n / 100) (omega arith))

pub three_put : (n : ℕ) {at : ℕ} {old new : List ℕ} → Placed (two_digits (n % 100)) (at + 1) (set old at (numeral (n / 100))) (at + 1 + 2) new → 100 ≤ n → n < 1000 → at < length old
    → Placed (decimal n) at old (at + 3) new
three_put n {at} {old} w h k l =
    placed_text (placed_end (placed_join (placed_byte at old (numeral (n / 100)) l) w (omega arith)) (omega arith))
    (sym (decimal_hundred n h ∙ ap (λ (r : List ℕ). r ++ two_digits (n % 100)) (decimal_one (n / 100) (omega arith))))

pub ruleset three_digits = (three_length, three_put, length-set)

-- ---- a longer one

-- m is what is left of n before the place i, from which the digits behind it stand in the buffer, up to end
pub record Filling (n at end : ℕ) (old line : List ℕ) (i m : ℕ) : Type 0 where
  pub text : List ℕ
  pub whole : decimal n ≡ decimal m ++ text
  pub stands : Placed text i old end line
  pub left : at + length (decimal m) ≡ i

module _ (n at : ℕ) (old : List ℕ) (room : at + length (decimal n) ≤ length old) where
  pub fill_start : {d : ℕ} → d ≡ length (decimal n) → Filling n at (at + d) old old (at + d) n
  fill_start {d} e = record {
    text = [];
    whole = sym (append_none (decimal n));
    stands = placed_none (at + d) old;
    left = omega (arith, e);
  }

  module _ {end i m : ℕ} {line : List ℕ} (f : Filling n at end old line i m) where
    -- the place is in the buffer
    pub fill_inside : i ≤ length old
    fill_inside =
        let l = ap length f.whole ∙ length-append (decimal m) f.text in
        omega (arith, l, f.left)

    pub fill_size : length line ≡ length old
    fill_size =
        let l = ap length f.whole ∙ length-append (decimal m) f.text in
        placed_size f.stands (omega (arith, l, f.left))

    pub fill_more : 100 ≤ m → {i' : ℕ} {line' : List ℕ} → Placed (two_digits (m % 100)) i' line i line' → Filling n at end old line' i' (m / 100)
    fill_more h {i'} v = record {
      text = two_digits (m % 100) ++ f.text;
      whole = f.whole ∙ ap (λ (r : List ℕ). r ++ f.text) (decimal_hundred m h) ∙ append_assoc (decimal (m / 100)) (two_digits (m % 100)) f.text;
      stands = placed_before f.stands v fill_inside;
      left = omega (arith, f.left, hundred_length m h, v.behind, two_length (m % 100));
    }

    -- the first digits
    pub fill_end : {r : ℕ} {line' : List ℕ} → Placed (decimal m) at line r line' → Placed (decimal n) at old end line'
    fill_end v =
        let q = v.behind in
        placed_text (placed_before f.stands (placed_end v (q ∙ f.left)) fill_inside) (sym f.whole)

pub ruleset filling = (hundred_length, fill_start, fill_inside, fill_size, fill_more, fill_end)

-- ---- a field

pub field-length : (text : List ℕ) → length (field text) ≡ length text + 1
unfolding field
field-length text = omega arith

-- a space, and the text behind it
pub field_placed : {text old new : List ℕ} {at end : ℕ} → Placed text (at + 1) (set old at 32) end new → at < length old → Placed (field text) at old end new
unfolding field
field_placed {old = old} {at = at} w h = placed_join (placed_byte at old 32 h) w (omega arith)

-- by the room that the field has
pub field_fits : {text old new : List ℕ} {at end : ℕ} → Placed text (at + 1) (set old at 32) end new → at + length (field text) ≤ length old
    → Placed (field text) at old end new
unfolding field
field_fits w h = field_placed w (omega arith)

pub ruleset fields = (field-length, field_fits, length-set)
