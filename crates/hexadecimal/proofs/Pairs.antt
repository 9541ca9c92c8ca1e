-- TWO DIGITS FOR EACH BYTE, judged and spelt in one pass. Assumes nothing.
use mathlib.Core.Path.{◌≡◌, refl, sym, ap, ap₂, ◌∙◌}
use mathlib.Core.Bool.{Bool, true, false, cond, ◌&&◌}
use mathlib.Core.Logic.{◌⊎◌, inl, inr}
use mathlib.Core.List.{List, [], ◌∷◌, ◌++◌}
use Prim.Native.Nat.{ℕ, zero, suc, ◌+◌, ◌*◌, ◌≤◌, ◌<◌}
use native.Mathlib.Numerals.{add-one}
use native.Mathlib.Omega.{arith}
use lib.ListN.{length, get_or, set, take}
use lib.Seq.{take-suc, take-suc-set}
use Rattle.std.specs.Prelude.{Some, None}
use Rattle.std.proofs.lemmas.Bool.{cases_Bool, and_parts, and_from}
use Rattle.std.proofs.lemmas.Option.{cond_some, none-some}
use Rattle.lists.specs.Lists.{allb}
use Rattle.hexadecimal.specs.Hex.{is_digit, digit_value, bytes_of, spelt}
use Rattle.hexadecimal.proofs.Spelling.{length_bytes, bytes_at}

-- one digit more
pub digits_one : (ds : List ℕ) (m : ℕ) → m < length ds → allb is_digit (take m ds) ≡ true → is_digit (get_or ds m 0) ≡ true → allb is_digit (take (suc m) ds) ≡ true
unfolding allb
digits_one [] m l d e = absurd (omega arith)
digits_one (c ∷ cs) zero l d e = and_from _ _ e refl
digits_one (c ∷ cs) (suc m) l d e = let p = and_parts (is_digit c) (allb is_digit (take m cs)) d in and_from _ _ p.0 (digits_one cs m (omega arith) p.1 e)

spelt_some : (h l : ℕ) {b : ℕ} → spelt h l ≡ Some b → ((is_digit h ≡ true) × (is_digit l ≡ true)) × (16 * digit_value h + digit_value l ≡ b)
unfolding spelt
spelt_some h l e = let p = cond_some (is_digit h && is_digit l) _ _ e in (and_parts _ _ p.0, p.1)

-- two characters that spell no byte, of which the first is a digit
pub spelt_none : (h l : ℕ) → is_digit h ≡ true → spelt h l ≡ None → is_digit l ≡ false
unfolding spelt
spelt_none h l d e = go (cases_Bool (is_digit l)) e
  where
    go : (is_digit l ≡ true) ⊎ (is_digit l ≡ false) → spelt h l ≡ None → is_digit l ≡ false
    go (inl t) e = absurd (none-some _ (sym e ∙ ap₂ (λ (a b : Bool). cond (a && b) (Some (16 * digit_value h + digit_value l)) None) d t))
    go (inr f) e = f

-- the bytes of the first twos
bytes_take : (ds : List ℕ) (i : ℕ) → 2 * i ≤ length ds → bytes_of (take (2 * i) ds) ≡ take i (bytes_of ds)
unfolding bytes_of
bytes_take ds zero k = refl
bytes_take [] (suc i) k = absurd (omega arith)
bytes_take (h ∷ []) (suc i) k = absurd (omega arith)
bytes_take (h ∷ l ∷ ds) (suc i) k =
    let e : 2 * suc i ≡ suc (suc (2 * i)) = omega arith in
    ap (λ (m : ℕ). bytes_of (take m (h ∷ l ∷ ds))) e
    ∙ ap (λ (r : List ℕ). (16 * digit_value h + digit_value l) ∷ r) (bytes_take ds i (omega arith))

-- ---- one turn of the loop

pub digits_two : (ds : List ℕ) (i : ℕ) {b : ℕ} → allb is_digit (take (2 * i) ds) ≡ true → spelt (get_or ds (2 * i) 0) (get_or ds (2 * i + 1) 0) ≡ Some b → 2 * i + 1 < length ds
    → allb is_digit (take (2 * (i + 1)) ds) ≡ true
digits_two ds i d e l =
    let s = spelt_some _ _ e in
    let one = digits_one ds (2 * i) (omega arith) d s.0.0 in
    let n : suc (2 * i) ≡ 2 * i + 1 = omega arith in
    let two = digits_one ds (suc (2 * i)) (omega arith) one (ap (λ (k : ℕ). is_digit (get_or ds k 0)) n ∙ s.0.1) in
    let m : 2 * (i + 1) ≡ suc (suc (2 * i)) = omega arith in
    ap (λ (k : ℕ). allb is_digit (take k ds)) m ∙ two

pub bytes_two : (ds l : List ℕ) (i : ℕ) {b : ℕ} → take i l ≡ take i (bytes_of ds) → spelt (get_or ds (2 * i) 0) (get_or ds (2 * i + 1) 0) ≡ Some b → 2 * i + 1 < length ds → i < length l
    → take (i + 1) (set l i b) ≡ take (i + 1) (bytes_of ds)
bytes_two ds l i {b} v e h k =
    let is : b ≡ get_or (bytes_of ds) i 0 = sym (spelt_some _ _ e).1 ∙ sym (bytes_at ds i h) in
    let n = length_bytes ds in
    ap (λ (j : ℕ). take j (set l i b)) (add-one i)
    ∙ take-suc-set l i b k
    ∙ ap₂ (λ (q : List ℕ) (x : ℕ). q ++ (x ∷ [])) v is
    ∙ sym (take-suc (bytes_of ds) i 0 (omega arith))
    ∙ ap (λ (j : ℕ). take j (bytes_of ds)) (sym (add-one i))

pub bytes_taken : (ds l : List ℕ) (i : ℕ) {n : ℕ} → take i l ≡ take i (bytes_of ds) → i ≡ n → 2 * n ≤ length ds → take n l ≡ bytes_of (take (2 * n) ds)
bytes_taken ds l i {n} v e k =
    ap (λ (j : ℕ). take j l) (sym e) ∙ v ∙ ap (λ (j : ℕ). take j (bytes_of ds)) e ∙ sym (bytes_take ds n k)
