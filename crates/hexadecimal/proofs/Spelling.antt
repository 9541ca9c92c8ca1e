-- Bytes to digits and back: lengths, elements, and that each undoes the other. Assumes nothing.
use mathlib.Core.Path.{◌≡◌, refl, sym, ap, ap₂, ◌∙◌}
use mathlib.Core.Bool.{true, ◌&&◌}
use mathlib.Core.List.{List, [], ◌∷◌}
use Prim.Native.Nat.{ℕ, zero, suc, ◌+◌, ◌*◌, ◌/◌, ◌%◌, ◌≤◌, ◌<◌}
use native.Mathlib.Omega.{arith}
use lib.Dec.{ltb}
use lib.ListN.{length, get_or, set}
use borrow.Author.Tests.{ltb-true, lt-ltb}
use Rattle.std.proofs.lemmas.Bool.{and_parts, and_from}
use Rattle.lists.specs.Lists.{allb}
use Rattle.hexadecimal.specs.Hex.{hex_digit, is_digit, digit_value, is_byte, digits_of, bytes_of}
use Rattle.lists.proofs.Copies.{Copied, copied_none, copied_more, copied_at, copied_all}
use Rattle.hexadecimal.proofs.DigitLaws.{value_below, digit_value_lem, value_digit, digit_is}

pub length_digits : (f : List ℕ) → length (digits_of f) ≡ 2 * length f
unfolding digits_of
length_digits [] = refl
length_digits (b ∷ bs) = let e = length_digits bs in omega arith

pub length_bytes : (ds : List ℕ) → length (bytes_of ds) ≡ length ds / 2
unfolding bytes_of
length_bytes [] = refl
length_bytes (h ∷ []) = refl
length_bytes (h ∷ l ∷ ds) = let e = length_bytes ds in omega arith

-- ---- the elements

pub digits_high : (f : List ℕ) (i : ℕ) → i < length f → get_or (digits_of f) (2 * i) 0 ≡ hex_digit (get_or f i 0 / 16)
unfolding digits_of
digits_high [] i h = omega arith
digits_high (b ∷ bs) zero h = refl
digits_high (b ∷ bs) (suc i) h =
    let e : 2 * suc i ≡ suc (suc (2 * i)) = omega arith in
    ap (λ (k : ℕ). get_or (digits_of (b ∷ bs)) k 0) e ∙ digits_high bs i (omega arith)

pub digits_low : (f : List ℕ) (i : ℕ) → i < length f → get_or (digits_of f) (2 * i + 1) 0 ≡ hex_digit (get_or f i 0 % 16)
unfolding digits_of
digits_low [] i h = omega arith
digits_low (b ∷ bs) zero h = refl
digits_low (b ∷ bs) (suc i) h =
    let e : 2 * suc i + 1 ≡ suc (suc (2 * i + 1)) = omega arith in
    ap (λ (k : ℕ). get_or (digits_of (b ∷ bs)) k 0) e ∙ digits_low bs i (omega arith)

pub bytes_at : (ds : List ℕ) (i : ℕ) → 2 * i + 1 < length ds
    → get_or (bytes_of ds) i 0 ≡ 16 * digit_value (get_or ds (2 * i) 0) + digit_value (get_or ds (2 * i + 1) 0)
unfolding bytes_of
bytes_at [] i h = omega arith
bytes_at (h ∷ []) i k = omega arith
bytes_at (h ∷ l ∷ ds) zero k = refl
bytes_at (h ∷ l ∷ ds) (suc i) k =
    let e : 2 * suc i ≡ suc (suc (2 * i)) = omega arith in
    let e⁺ : 2 * suc i + 1 ≡ suc (suc (2 * i + 1)) = omega arith in
    bytes_at ds i (omega arith)
    ∙ sym (ap₂ (λ (m n : ℕ). 16 * digit_value (get_or (h ∷ l ∷ ds) m 0) + digit_value (get_or (h ∷ l ∷ ds) n 0)) e e⁺)

-- ---- each undoes the other

pub byte_spelt : (ds : List ℕ) (i : ℕ) {high low : ℕ} → high ≡ digit_value (get_or ds (2 * i) 0) → low ≡ digit_value (get_or ds (2 * i + 1) 0) → 2 * i + 1 < length ds
    → 16 * high + low ≡ get_or (bytes_of ds) i 0
byte_spelt ds i p q h = rw (p, q) (sym (bytes_at ds i h))

high_below : (b : ℕ) → b < 256 → b / 16 < 16
high_below b h = omega arith

low_below : (b : ℕ) → b % 16 < 16
low_below b = omega arith

pub all_digits : (f : List ℕ) → allb is_byte f ≡ true → allb is_digit (digits_of f) ≡ true
unfolding allb is_byte digits_of
all_digits [] h = refl
all_digits (b ∷ bs) h =
    let p = and_parts (ltb b 256) (allb is_byte bs) h in
    and_from _ _ (digit_is (b / 16) (high_below b (ltb-true b 256 p.0))) (and_from _ _ (digit_is (b % 16) (low_below b)) (all_digits bs p.1))

pub bytes_digits : (f : List ℕ) → allb is_byte f ≡ true → bytes_of (digits_of f) ≡ f
unfolding allb is_byte digits_of bytes_of
bytes_digits [] h = refl
bytes_digits (b ∷ bs) h =
    let p = and_parts (ltb b 256) (allb is_byte bs) h in
    let u : digit_value (hex_digit (b / 16)) ≡ b / 16 = value_digit (b / 16) (high_below b (ltb-true b 256 p.0)) in
    let v : digit_value (hex_digit (b % 16)) ≡ b % 16 = value_digit (b % 16) (low_below b) in
    let e : 16 * digit_value (hex_digit (b / 16)) + digit_value (hex_digit (b % 16)) ≡ b = omega arith in
    ap₂ (λ (x : ℕ) (r : List ℕ). x ∷ r) e (bytes_digits bs p.1)

pub digits_bytes : (ds : List ℕ) → allb is_digit ds ≡ true → length ds % 2 ≡ 0 → digits_of (bytes_of ds) ≡ ds
unfolding allb digits_of bytes_of
digits_bytes [] h e = refl
digits_bytes (c ∷ []) h e = absurd (omega arith)
digits_bytes (c ∷ d ∷ ds) h e =
    let p = and_parts (is_digit c) (is_digit d && allb is_digit ds) h in
    let q = and_parts (is_digit d) (allb is_digit ds) p.1 in
    let u : digit_value d < 16 = value_below d q.0 in
    let high : (16 * digit_value c + digit_value d) / 16 ≡ digit_value c = omega arith in
    let low : (16 * digit_value c + digit_value d) % 16 ≡ digit_value d = omega arith in
    let rest : digits_of (bytes_of ds) ≡ ds = digits_bytes ds q.1 (omega arith) in
    rw (high, low, digit_value_lem c p.0, digit_value_lem d q.0, rest)

pub bytes_below : (ds : List ℕ) → allb is_digit ds ≡ true → allb is_byte (bytes_of ds) ≡ true
unfolding allb is_byte bytes_of
bytes_below [] h = refl
bytes_below (c ∷ []) h = refl
bytes_below (c ∷ d ∷ ds) h =
    let p = and_parts (is_digit c) (is_digit d && allb is_digit ds) h in
    let q = and_parts (is_digit d) (allb is_digit ds) p.1 in
    let u : digit_value c < 16 = value_below c p.0 in
    let v : digit_value d < 16 = value_below d q.0 in
    and_from _ _ (lt-ltb (16 * digit_value c + digit_value d) 256 (omega arith)) (bytes_below ds q.1)

-- ---- one turn of the loops that write them

pub digits_more : (f old : List ℕ) {l : List ℕ} {i high low : ℕ} → Copied (digits_of f) old l (2 * i) → high ≡ hex_digit (get_or f i 0 / 16) → low ≡ hex_digit (get_or f i 0 % 16) → i < length f → 2 * length f ≤ length old
    → Copied (digits_of f) old (set (set l (2 * i) high) (2 * i + 1) low) (2 * (i + 1))
digits_more f old {i = i} w p q h k =
    let n = length_digits f in
    let first = copied_more w (p ∙ sym (digits_high f i h)) (omega arith) (omega arith) in
    copied_at (copied_more first (q ∙ sym (digits_low f i h)) (omega arith) (omega arith)) (omega arith)

pub bytes_more : (ds old : List ℕ) {l : List ℕ} {i b : ℕ} → Copied (bytes_of ds) old l i → b ≡ get_or (bytes_of ds) i 0 → i < length ds / 2 → length ds ≤ 2 * length old
    → Copied (bytes_of ds) old (set l i b) (i + 1)
bytes_more ds old w p h k = let n = length_bytes ds in copied_more w p (omega arith) (omega arith)

pub ruleset bytes_read = (length_bytes, bytes_more, copied_none, copied_all)

pub ruleset digits_written = (length_digits, digits_more, copied_none, copied_all)
