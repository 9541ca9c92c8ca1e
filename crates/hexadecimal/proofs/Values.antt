-- WHAT THE TABLE OF DIGITS SAYS of two characters. Assumes nothing.
use mathlib.Core.Path.{◌≡◌, refl, sym}
use mathlib.Core.Logic.{inl, inr}
use mathlib.Core.Bool.{Bool, true, false, cond, ◌&&◌}
use Prim.Native.Nat.{ℕ, zero, suc, ◌+◌, ◌*◌, ◌≤◌, ◌<◌}
use native.Mathlib.Omega.{arith}
use lib.Dec.{eqb}
use borrow.Author.Tests.{eqb-true}
use Rattle.std.specs.Prelude.{Some, None}
use Rattle.std.proofs.Math.Bool.{and-false}
use Rattle.std.proofs.lemmas.Bool.{cases_eq, and_parts}
use Rattle.hexadecimal.specs.Hex.{is_digit, digit_value, spelt}
use Rattle.hexadecimal.specs.Table.{value_or_none}
use Rattle.hexadecimal.proofs.DigitLaws.{value_below}

-- a value below 16 is a digit's, any other is none's
value_digit : (c : ℕ) {v : ℕ} → v ≡ value_or_none c → v < 16 → (is_digit c ≡ true) × (digit_value c ≡ v)
unfolding value_or_none
value_digit c {v} e l = go (is_digit c) refl e
  where
    go : (b : Bool) → is_digit c ≡ b → v ≡ cond b (digit_value c) 16 → (is_digit c ≡ true) × (digit_value c ≡ v)
    go true d e = (d, sym e)
    go false d e = absurd (omega arith)

value_other : (c : ℕ) {v : ℕ} → v ≡ value_or_none c → 16 ≤ v → is_digit c ≡ false
unfolding value_or_none
value_other c {v} e l = go (is_digit c) refl e
  where
    go : (b : Bool) → is_digit c ≡ b → v ≡ cond b (digit_value c) 16 → b ≡ false
    go true d e = let below = value_below c d in absurd (omega arith)
    go false d e = refl

-- two characters that are both digits, and of which one is none
pub spelt_both : (h l : ℕ) {v w : ℕ} → v ≡ value_or_none h → w ≡ value_or_none l → v < 16 → w < 16 → Some (16 * v + w) ≡ spelt h l
unfolding spelt
spelt_both h l {v} {w} p q a b =
    let x = value_digit h p a in
    let y = value_digit l q b in
    rw (x.0, y.0, x.1, y.1) refl

pub high_other : (h l : ℕ) {v : ℕ} → v ≡ value_or_none h → 16 ≤ v → None ≡ spelt h l
unfolding spelt
high_other h l p a = rw (value_other h p a) refl

pub low_other : (h l : ℕ) {w : ℕ} → w ≡ value_or_none l → 16 ≤ w → None ≡ spelt h l
unfolding spelt
low_other h l q b = rw (value_other l q b, and-false (is_digit h)) refl

pub ruleset spelling = (spelt_both, high_other, low_other)

-- ---- a table held against a definition, number by number

-- the two agree below n
unfoldable pub agree_below : (ℕ → ℕ) → (ℕ → ℕ) → ℕ → Bool
agree_below f g zero = true
agree_below f g (suc n) = eqb (f n) (g n) && agree_below f g n

pub agree_at : (f g : ℕ → ℕ) (n : ℕ) → agree_below f g n ≡ true → (c : ℕ) → c < n → f c ≡ g c
unfolding agree_below
agree_at f g zero h c l = absurd (omega arith)
agree_at f g (suc n) h c l =
    let p = and_parts (eqb (f n) (g n)) (agree_below f g n) h in
    elim (cases_eq c n) [ inl same ↦ rw same (eqb-true (f n) (g n) p.0) | inr other ↦ agree_at f g n p.1 c (omega arith) ]
