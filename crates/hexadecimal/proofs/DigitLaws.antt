-- The sixteen digits: each number below 16 has one digit, and each digit one number. Assumes nothing.
use mathlib.Core.Path.{◌≡◌, ap, ◌∙◌}
use mathlib.Core.Logic.{◌⊎◌, inl, inr}
use mathlib.Core.Bool.{true, false, ◌&&◌}
use mathlib.Core.List.{List}
use Prim.Native.Nat.{ℕ, ◌+◌, ◌-◌, ◌≤◌, ◌<◌}
use native.Mathlib.Omega.{arith}
use lib.Dec.{eqb, leb}
use lib.ListN.{length, get_or}
use borrow.Author.Tests.{leb-true, lt-ltb, le-ltb, le-leb, ne_eqb}
use Rattle.std.proofs.lemmas.Bool.{and_parts, and_from, or_cases, or_left, or_right, cases_lt}
use Rattle.lists.specs.Lists.{allb}
use Rattle.lists.proofs.Scans.{all-at}
use Rattle.hexadecimal.specs.Hex.{hex_digit, is_digit, digit_value}

-- a digit is one of 0 to 9 or of A to F
pub digit_cases : (c : ℕ) → is_digit c ≡ true → ((48 ≤ c) × (c ≤ 57)) ⊎ ((65 ≤ c) × (c ≤ 70))
unfolding is_digit
digit_cases c h = go (or_cases (leb 48 c && leb c 57) (leb 65 c && leb c 70) h)
  where
    within : (a b : ℕ) → (leb a c && leb c b) ≡ true → (a ≤ c) × (c ≤ b)
    within a b e = let p = and_parts (leb a c) (leb c b) e in (leb-true a c p.0, leb-true c b p.1)

    go : ((leb 48 c && leb c 57) ≡ true) ⊎ ((leb 65 c && leb c 70) ≡ true) → ((48 ≤ c) × (c ≤ 57)) ⊎ ((65 ≤ c) × (c ≤ 70))
    go (inl e) = inl (within 48 57 e)
    go (inr e) = inr (within 65 70 e)

-- each of some digits is one
pub digit_at : (ds : List ℕ) (i : ℕ) → allb is_digit ds ≡ true → i < length ds → is_digit (get_or ds i 0) ≡ true
digit_at ds i h l = all-at is_digit ds i 0 l h

-- a digit is at least 48
pub digit_least : (c : ℕ) → is_digit c ≡ true → 48 ≤ c
digit_least c h = go (digit_cases c h)
  where
    go : ((48 ≤ c) × (c ≤ 57)) ⊎ ((65 ≤ c) × (c ≤ 70)) → 48 ≤ c
    go (inl p) = p.0
    go (inr p) = omega arith

pub value_numeral : (c : ℕ) → c < 65 → digit_value c ≡ c - 48
unfolding digit_value
value_numeral c h = rw (lt-ltb c 65 h)

pub value_letter : (c : ℕ) → 65 ≤ c → digit_value c ≡ c - 55
unfolding digit_value
value_letter c h = rw (le-ltb c 65 h)

pub digit_numeral : (d : ℕ) → d < 10 → hex_digit d ≡ 48 + d
unfolding hex_digit
digit_numeral d h = rw (lt-ltb d 10 h)

pub digit_letter : (d : ℕ) → 10 ≤ d → hex_digit d ≡ 55 + d
unfolding hex_digit
digit_letter d h = rw (le-ltb d 10 h)

pub value_below : (c : ℕ) → is_digit c ≡ true → digit_value c < 16
value_below c h = go (digit_cases c h)
  where
    go : ((48 ≤ c) × (c ≤ 57)) ⊎ ((65 ≤ c) × (c ≤ 70)) → digit_value c < 16
    go (inl p) = let e = value_numeral c (omega arith) in omega arith
    go (inr p) = let e = value_letter c (omega arith) in omega arith

-- digit and value are each other's inverse
pub digit_value_lem : (c : ℕ) → is_digit c ≡ true → hex_digit (digit_value c) ≡ c
digit_value_lem c h = go (digit_cases c h)
  where
    go : ((48 ≤ c) × (c ≤ 57)) ⊎ ((65 ≤ c) × (c ≤ 70)) → hex_digit (digit_value c) ≡ c
    go (inl p) = ap hex_digit (value_numeral c (omega arith)) ∙ digit_numeral (c - 48) (omega arith) ∙ omega arith
    go (inr p) = ap hex_digit (value_letter c (omega arith)) ∙ digit_letter (c - 55) (omega arith) ∙ omega arith

pub value_digit : (d : ℕ) → d < 16 → digit_value (hex_digit d) ≡ d
value_digit d h = go (cases_lt d 10)
  where
    go : (d < 10) ⊎ (10 ≤ d) → digit_value (hex_digit d) ≡ d
    go (inl l) = ap digit_value (digit_numeral d l) ∙ value_numeral (48 + d) (omega arith) ∙ omega arith
    go (inr l) = ap digit_value (digit_letter d l) ∙ value_letter (55 + d) (omega arith) ∙ omega arith

pub digit_is : (d : ℕ) → d < 16 → is_digit (hex_digit d) ≡ true
unfolding is_digit
digit_is d h = go (cases_lt d 10)
  where
    go : (d < 10) ⊎ (10 ≤ d) → is_digit (hex_digit d) ≡ true
    go (inl l) =
        ap is_digit (digit_numeral d l)
        ∙ or_left _ (leb 65 (48 + d) && leb (48 + d) 70) (and_from _ _ (le-leb 48 (48 + d) (omega arith)) (le-leb (48 + d) 57 (omega arith)))
    go (inr l) =
        ap is_digit (digit_letter d l)
        ∙ or_right (leb 48 (55 + d) && leb (55 + d) 57) _ (and_from _ _ (le-leb 65 (55 + d) (omega arith)) (le-leb (55 + d) 70 (omega arith)))

-- no digit ends a line
pub digit_no_end : (c : ℕ) → is_digit c ≡ true → eqb c 10 ≡ false
digit_no_end c h = let l = digit_least c h in ne_eqb c 10 (λ e. omega arith)
