-- A number at the front of a text: reading undoes writing, and what reads was written. Assumes nothing.
use mathlib.Core.Path.{◌≡◌, refl, sym, ap, ap₂, ◌∙◌}
use mathlib.Core.Bool.{Bool, true, false, cond, ◌&&◌, not}
use mathlib.Core.List.{List, [], ◌∷◌, ◌++◌, append_assoc}
use mathlib.Core.Logic.{◌⊎◌, inl, inr}
use Prim.Native.Nat.{ℕ, zero, suc, ◌+◌, ◌-◌, ◌*◌, ◌/◌, ◌%◌, ◌≤◌, ◌<◌}
use native.Mathlib.Omega.{arith}
use lib.Dec.{leb, ltb}
use borrow.Author.Tests.{lt-ltb, le-leb, ltb-true, leb-true}
use Rattle.std.specs.Prelude.{Some, None}
use Rattle.std.specs.Char.{is_ascii_digit}
use Rattle.std.proofs.lemmas.Bool.{and_parts, and_from, cases_lt}
use Rattle.std.proofs.lemmas.Option.{some_pair_parts}
use Rattle.decimal.specs.Decimal.{numeral, decimal}
use Rattle.decimal.specs.Strip.{goes_on, strip_more, strip_decimal, no_digit}
use Rattle.decimal.proofs.Decimals.{decimal_one, decimal_more}

-- ---- a digit

-- the numeral of a number below 10
numeral_is : (d : ℕ) → d < 10 → is_ascii_digit (numeral d) ≡ true
numeral_is d h = and_from _ _ (le-leb 48 (48 + d) (omega arith)) (le-leb (48 + d) 57 (omega arith))

numeral_range : (c : ℕ) → is_ascii_digit c ≡ true → (48 ≤ c) × (c ≤ 57)
numeral_range c h = let q = and_parts (leb 48 c) (leb c 57) h in (leb-true 48 c q.0, leb-true c 57 q.1)

goes : (limit n d : ℕ) → 0 < n → 10 * n + d ≤ limit → goes_on limit n d ≡ true
unfolding goes_on
goes limit n d h l = and_from _ _ (lt-ltb 0 n h) (le-leb (10 * n + d) limit l)

pub went_on : (limit n d : ℕ) → goes_on limit n d ≡ true → (0 < n) × (10 * n + d ≤ limit)
unfolding goes_on
went_on limit n d h = let q = and_parts (ltb 0 n) (leb (10 * n + d) limit) h in (ltb-true 0 n q.0, leb-true (10 * n + d) limit q.1)

-- ---- one step

strip_one : (limit c : ℕ) (rest : List ℕ) → is_ascii_digit c ≡ true → c - 48 ≤ limit → strip_decimal limit (c ∷ rest) ≡ strip_more limit (c - 48) rest
unfolding strip_decimal
strip_one limit c rest h l = rw (h, le-leb (c - 48) limit l)

pub more_one : (limit n c : ℕ) (rest : List ℕ) → is_ascii_digit c ≡ true → goes_on limit n (c - 48) ≡ true → strip_more limit n (c ∷ rest) ≡ strip_more limit (10 * n + (c - 48)) rest
unfolding strip_more
more_one limit n c rest h g = rw (h, g)

-- where no digit follows, the number is read
more_ends : (limit n : ℕ) (rest : List ℕ) → no_digit rest ≡ true → strip_more limit n rest ≡ Some (n, rest)
unfolding strip_more no_digit
more_ends limit n [] h = refl
more_ends limit n (c ∷ cs) h = by_digit (is_ascii_digit c) h
  where
    by_digit : (t : Bool) → not t ≡ true → cond t (cond (goes_on limit n (c - 48)) (strip_more limit (10 * n + (c - 48)) cs) None) (Some (n, c ∷ cs)) ≡ Some (n, c ∷ cs)
    by_digit true h = absurd cc
    by_digit false h = refl

-- ---- reading undoes writing

-- the digits of n are read one by one, whatever follows
strip_digits : (k limit n : ℕ) (rest : List ℕ) → n < k → n ≤ limit → strip_decimal limit (decimal n ++ rest) ≡ strip_more limit n rest
strip_digits zero limit n rest h l = absurd (omega arith)
strip_digits (suc k) limit n rest h l = by_size (λ r s. strip_digits k limit (n / 10) r (omega arith) (omega arith)) (cases_lt n 10)
  where
    by_size : ((r : List ℕ) → 10 ≤ n → strip_decimal limit (decimal (n / 10) ++ r) ≡ strip_more limit (n / 10) r) → (n < 10) ⊎ (10 ≤ n) → strip_decimal limit (decimal n ++ rest) ≡ strip_more limit n rest
    by_size shorter (inl s) =
        let d : numeral n - 48 ≡ n = omega arith in
        ap (λ (r : List ℕ). strip_decimal limit (r ++ rest)) (decimal_one n s)
        ∙ strip_one limit (numeral n) rest (numeral_is n s) (omega arith)
        ∙ ap (λ (i : ℕ). strip_more limit i rest) d
    by_size shorter (inr s) =
        let c = numeral (n % 10) in
        let v : 10 * (n / 10) + (c - 48) ≡ n = omega arith in
        ap (λ (r : List ℕ). strip_decimal limit (r ++ rest)) (decimal_more n s)
        ∙ ap (strip_decimal limit) (append_assoc (decimal (n / 10)) (c ∷ []) rest)
        ∙ shorter (c ∷ rest) s
        ∙ more_one limit (n / 10) c rest (numeral_is (n % 10) (omega arith)) (goes limit (n / 10) (c - 48) (omega arith) (omega arith))
        ∙ ap (λ (i : ℕ). strip_more limit i rest) v

-- a number within the limit is read back, in front of any text that begins with no digit
pub decimal_reads : (limit n : ℕ) (rest : List ℕ) → n ≤ limit → no_digit rest ≡ true → strip_decimal limit (decimal n ++ rest) ≡ Some (n, rest)
decimal_reads limit n rest l h = strip_digits (suc n) limit n rest (omega arith) l ∙ more_ends limit n rest h

-- ---- what reads was written

-- text is the decimal of n, which is within the limit, and then rest, which begins with no digit
pub record IsWritten (limit n : ℕ) (rest text : List ℕ) : Type 0 where
  pub within : n ≤ limit
  pub is : text ≡ decimal n ++ rest
  pub ends : no_digit rest ≡ true

-- one digit more
digit_behind : (n c : ℕ) (text : List ℕ) → 0 < n → is_ascii_digit c ≡ true → decimal n ++ (c ∷ text) ≡ decimal (10 * n + (c - 48)) ++ text
digit_behind n c text h e =
    let r = numeral_range c e in
    let m = 10 * n + (c - 48) in
    let q : m / 10 ≡ n = omega arith in
    let d : numeral (m % 10) ≡ c = omega arith in
    sym (append_assoc (decimal n) (c ∷ []) text) ∙ ap (λ (t : List ℕ). t ++ text) (ap₂ (λ (i j : ℕ). decimal i ++ (j ∷ [])) (sym q) (sym d) ∙ sym (decimal_more m (omega arith)))

more_written : (limit n : ℕ) (text : List ℕ) {m : ℕ} {rest : List ℕ} → n ≤ limit → strip_more limit n text ≡ Some (m, rest) → IsWritten limit m rest (decimal n ++ text)
unfolding strip_more no_digit
more_written limit n [] {m} {rest} l e =
    let p = some_pair_parts n m [] rest e in
    record { within = omega arith; is = ap₂ (λ (i : ℕ) (r : List ℕ). decimal i ++ r) p.0 p.1; ends = ap no_digit (sym p.1) }
more_written limit n (c ∷ cs) {m} {rest} l e = by_digit (λ l e. more_written limit (10 * n + (c - 48)) cs l e) (is_ascii_digit c) refl e
  where
    by_limit : (10 * n + (c - 48) ≤ limit → strip_more limit (10 * n + (c - 48)) cs ≡ Some (m, rest) → IsWritten limit m rest (decimal (10 * n + (c - 48)) ++ cs)) → is_ascii_digit c ≡ true
        → (t : Bool) → goes_on limit n (c - 48) ≡ t → cond t (strip_more limit (10 * n + (c - 48)) cs) None ≡ Some (m, rest) → IsWritten limit m rest (decimal n ++ (c ∷ cs))
    by_limit shorter d true g e =
        let o = went_on limit n (c - 48) g in
        let w = shorter o.1 e in
        record { within = w.within; is = digit_behind n c cs o.0 d ∙ w.is; ends = w.ends }
    by_limit shorter d false g e = absurd cc

    by_digit : (10 * n + (c - 48) ≤ limit → strip_more limit (10 * n + (c - 48)) cs ≡ Some (m, rest) → IsWritten limit m rest (decimal (10 * n + (c - 48)) ++ cs)) → (t : Bool) → is_ascii_digit c ≡ t
        → cond t (cond (goes_on limit n (c - 48)) (strip_more limit (10 * n + (c - 48)) cs) None) (Some (n, c ∷ cs)) ≡ Some (m, rest) → IsWritten limit m rest (decimal n ++ (c ∷ cs))
    by_digit shorter true d e = by_limit shorter d (goes_on limit n (c - 48)) refl e
    by_digit shorter false d e =
        let p = some_pair_parts n m (c ∷ cs) rest e in
        record { within = omega arith; is = ap₂ (λ (i : ℕ) (r : List ℕ). decimal i ++ r) p.0 p.1; ends = ap no_digit (sym p.1) ∙ ap not d }

pub decimal_written : (limit : ℕ) (text : List ℕ) {n : ℕ} {rest : List ℕ} → strip_decimal limit text ≡ Some (n, rest) → IsWritten limit n rest text
unfolding strip_decimal
decimal_written limit [] e = absurd cc
decimal_written limit (c ∷ cs) {n} {rest} e = by_digit (is_ascii_digit c && leb (c - 48) limit) refl e
  where
    by_digit : (t : Bool) → (is_ascii_digit c && leb (c - 48) limit) ≡ t → cond t (strip_more limit (c - 48) cs) None ≡ Some (n, rest) → IsWritten limit n rest (c ∷ cs)
    by_digit true d e =
        let q = and_parts (is_ascii_digit c) (leb (c - 48) limit) d in
        let r = numeral_range c q.0 in
        let s : numeral (c - 48) ≡ c = omega arith in
        let w = more_written limit (c - 48) cs (leb-true (c - 48) limit q.1) e in
        record {
          within = w.within;
          is = ap (λ (i : ℕ). i ∷ cs) (sym s) ∙ ap (λ (t : List ℕ). t ++ cs) (sym (decimal_one (c - 48) (omega arith))) ∙ w.is;
          ends = w.ends;
        }
    by_digit false d e = absurd cc
