-- Numbers in decimal: one step, length, characters, and that no two numbers are written alike. Assumes nothing.
use mathlib.Core.Path.{◌≡◌, refl, sym, ap, ap₂, ◌∙◌}
use mathlib.Core.Bool.{Bool, true}
use mathlib.Core.List.{List, [], ◌∷◌, ◌++◌, append_assoc}
use Prim.Native.Nat.{ℕ, zero, suc, ◌+◌, ◌-◌, ◌*◌, ◌/◌, ◌%◌, ◌^◌, ◌≤◌, ◌<◌, zero-le}
use native.Mathlib.Omega.{arith}
use lib.Dec.{ltb}
use lib.ListN.{length, length-append}
use borrow.Author.Tests.{lt-ltb}
use Rattle.std.proofs.lemmas.Bool.{and_parts, and_from}
use Rattle.lists.specs.Lists.{allb}
use Rattle.decimal.specs.Decimal.{numeral, spell, decimal, two_digits}

-- ---- one step

spell-none : (k : ℕ) → spell k 0 ≡ []
unfolding spell
spell-none zero = refl
spell-none (suc k) = refl

spell_more : (k n : ℕ) → 0 < n → spell (suc k) n ≡ spell k (n / 10) ++ (numeral (n % 10) ∷ [])
unfolding spell
spell_more k zero h = absurd (omega arith)
spell_more k (suc m) h = refl

-- the bound on the digits does not matter
spell_enough : (k j n : ℕ) → n ≤ k → n ≤ j → spell k n ≡ spell j n
unfolding spell
spell_enough zero j zero h l = sym (spell-none j)
spell_enough zero j (suc m) h l = absurd (omega arith)
spell_enough (suc k) j zero h l = sym (spell-none j)
spell_enough (suc k) zero (suc m) h l = absurd (omega arith)
spell_enough (suc k) (suc j) (suc m) h l = ap (λ (r : List ℕ). r ++ (numeral (suc m % 10) ∷ [])) (spell_enough k j (suc m / 10) (omega arith) (omega arith))

decimal-spell : (n : ℕ) → 0 < n → decimal n ≡ spell n n
unfolding decimal
decimal-spell zero h = absurd (omega arith)
decimal-spell (suc m) h = refl

pub decimal_one : (n : ℕ) → n < 10 → decimal n ≡ numeral n ∷ []
unfolding decimal spell
decimal_one zero h = refl
decimal_one (suc m) h =
    let q : suc m / 10 ≡ 0 = omega arith in
    let d : suc m % 10 ≡ suc m = omega arith in
    ap₂ (λ (r : List ℕ) (i : ℕ). r ++ (numeral i ∷ [])) (ap (spell m) q ∙ spell-none m) d

pub decimal_more : (n : ℕ) → 10 ≤ n → decimal n ≡ decimal (n / 10) ++ (numeral (n % 10) ∷ [])
unfolding decimal spell
decimal_more zero h = absurd (omega arith)
decimal_more (suc m) h =
    ap (λ (r : List ℕ). r ++ (numeral (suc m % 10) ∷ []))
    (spell_enough m (suc m / 10) (suc m / 10) (omega arith) (omega arith) ∙ sym (decimal-spell (suc m / 10) (omega arith)))

-- two digits alone, and two behind those of a shorter number
pub decimal_two : (n : ℕ) → 10 ≤ n → n < 100 → decimal n ≡ two_digits n
unfolding two_digits
decimal_two n h k = decimal_more n h ∙ ap (λ (r : List ℕ). r ++ (numeral (n % 10) ∷ [])) (decimal_one (n / 10) (omega arith))

pub decimal_hundred : (n : ℕ) → 100 ≤ n → decimal n ≡ decimal (n / 100) ++ two_digits (n % 100)
unfolding two_digits
decimal_hundred n h =
    let q : n / 10 / 10 ≡ n / 100 = omega arith in
    let c : n / 10 % 10 ≡ n % 100 / 10 = omega arith in
    let d : n % 10 ≡ n % 100 % 10 = omega arith in
    decimal_more n (omega arith)
    ∙ ap (λ (r : List ℕ). r ++ (numeral (n % 10) ∷ [])) (decimal_more (n / 10) (omega arith))
    ∙ append_assoc (decimal (n / 10 / 10)) (numeral (n / 10 % 10) ∷ []) (numeral (n % 10) ∷ [])
    ∙ ap₂ (λ (m : ℕ) (r : List ℕ). decimal m ++ r) q (ap₂ (λ (x y : ℕ). numeral x ∷ numeral y ∷ []) c d)

-- ---- length

spell_most : (k m n : ℕ) → n < 10 ^ m → length (spell k n) ≤ m
unfolding spell
spell_most zero m n h = zero-le
spell_most (suc k) m zero h = zero-le
spell_most (suc k) zero (suc n) h = absurd (omega arith)
spell_most (suc k) (suc m) (suc n) h =
    let l : length (spell k (suc n / 10)) ≤ m = spell_most k m (suc n / 10) (omega arith) in
    omega (arith, length-append (spell k (suc n / 10)) (numeral (suc n % 10) ∷ []))

-- a number below 10 ^ (m + 1) has at most m + 1 digits; so the widths of 64, 32, 16 and 8 bits
decimal_most : (m n : ℕ) → n < 10 ^ suc m → length (decimal n) ≤ suc m
unfolding decimal
decimal_most m zero h = omega arith
decimal_most m (suc n) h = spell_most (suc n) (suc m) (suc n) h

pub decimal_long : (n : ℕ) → n < 2 ^ 64 → length (decimal n) ≤ 20
decimal_long n h = decimal_most 19 n (omega arith)

pub decimal_word : (n : ℕ) → n < 2 ^ 32 → length (decimal n) ≤ 10
decimal_word n h = decimal_most 9 n (omega arith)

pub decimal_half : (n : ℕ) → n < 2 ^ 16 → length (decimal n) ≤ 5
decimal_half n h = decimal_most 4 n (omega arith)

pub decimal_byte : (n : ℕ) → n < 2 ^ 8 → length (decimal n) ≤ 3
decimal_byte n h = decimal_most 2 n (omega arith)

-- ---- characters

-- a character that is neither a space nor a line's end
unfoldable pub is_graph : ℕ → Bool
is_graph c = ltb 32 c

all_append : (p : ℕ → Bool) (xs ys : List ℕ) → allb p xs ≡ true → allb p ys ≡ true → allb p (xs ++ ys) ≡ true
unfolding allb
all_append p [] ys h k = k
all_append p (x ∷ xs) ys h k = let q = and_parts (p x) (allb p xs) h in and_from _ _ q.0 (all_append p xs ys q.1 k)

graph_numeral : (d : ℕ) → allb is_graph (numeral d ∷ []) ≡ true
unfolding allb is_graph
graph_numeral d = rw (lt-ltb 32 (48 + d) (omega arith))

spell_graph : (k n : ℕ) → allb is_graph (spell k n) ≡ true
unfolding spell allb
spell_graph zero n = refl
spell_graph (suc k) zero = refl
spell_graph (suc k) (suc m) = all_append is_graph (spell k (suc m / 10)) (numeral (suc m % 10) ∷ []) (spell_graph k (suc m / 10)) (graph_numeral (suc m % 10))

pub decimal_graph : (n : ℕ) → allb is_graph (decimal n) ≡ true
unfolding decimal
decimal_graph zero = graph_numeral 0
decimal_graph (suc m) = spell_graph (suc m) (suc m)

-- ---- no two numbers are written alike

-- the number that digits behind those of m spell
value : ℕ → List ℕ → ℕ
value m [] = m
value m (c ∷ cs) = value (10 * m + (c - 48)) cs

value_append : (m : ℕ) (xs ys : List ℕ) → value m (xs ++ ys) ≡ value (value m xs) ys
unfolding value
value_append m [] ys = refl
value_append m (x ∷ xs) ys = value_append (10 * m + (x - 48)) xs ys

value_numeral : (m d : ℕ) → value m (numeral d ∷ []) ≡ 10 * m + d
unfolding value
value_numeral m d = omega arith

spell_value : (k n : ℕ) → n ≤ k → value 0 (spell k n) ≡ n
unfolding spell value
spell_value zero zero h = refl
spell_value zero (suc m) h = absurd (omega arith)
spell_value (suc k) zero h = refl
spell_value (suc k) (suc m) h =
    value_append 0 (spell k (suc m / 10)) (numeral (suc m % 10) ∷ [])
    ∙ ap (λ (i : ℕ). value i (numeral (suc m % 10) ∷ [])) (spell_value k (suc m / 10) (omega arith))
    ∙ value_numeral (suc m / 10) (suc m % 10)
    ∙ omega arith

decimal_value : (n : ℕ) → value 0 (decimal n) ≡ n
unfolding decimal value
decimal_value zero = refl
decimal_value (suc m) = spell_value (suc m) (suc m) (omega arith)

pub decimal_injective : (m n : ℕ) → decimal m ≡ decimal n → m ≡ n
decimal_injective m n e = sym (decimal_value m) ∙ ap (value 0) e ∙ decimal_value n
