-- Words that are all 0: their union is 0, the bits of the rows among them are not set, and words are made 0. Assumes nothing.
use mathlib.Core.Path.{◌≡◌, refl, sym, ap, ap₂, ◌∙◌}
use mathlib.Core.Bool.{Bool, true, false, ◌&&◌, and_assoc, and-true}
use mathlib.Core.List.{List, [], ◌∷◌, ◌++◌}
use Prim.Native.Nat.{ℕ, ◌+◌, ◌-◌, ◌*◌, ◌/◌, ◌%◌, ◌≤◌, ◌<◌}
use native.Mathlib.Nat.{mul-le-mul_left, mul-add}
use native.Mathlib.Omega.{arith}
use lib.Dec.{eqb}
use lib.ListN.{length, get_or, take, drop, replicate, length-append}
use lib.Seq.{take-append_seam}
use lib.Bits.{bit_or, or_add_and, and_le_l, and_le_r}
use borrow.Author.Tests.{eqb-true, eq-eqb}
use borrow.Rule.Slice.PartMut.{put_mid}
use Rattle.std.proofs.lemmas.Bool.{and_parts}
use Rattle.std.proofs.lemmas.List.{take-append-drop, length-replicate, replicate-append-replicate}
use Rattle.std.proofs.lemmas.List.Edits.{get_or-between, length-between}
use Rattle.std.proofs.lemmas.Slice.{take-put_mid, drop-put_mid, drop-append-drop}
use Rattle.std.specs.List.{fold, between}
use Rattle.lists.specs.Lists.{allb}
use Rattle.lists.proofs.Tests.{same_test}
use Rattle.lists.proofs.Scans.{all-at}
use Rattle.words.specs.Bits.{bit}
use Rattle.words.proofs.Bits.{bit_of_zero}
use Rattle.rows.specs.Rows.{table_bit}
use Rattle.rows.proofs.Written.{table_in}

-- ---- the union of words is 0 where each of them is

or_zero : (a b : ℕ) → eqb (bit_or a b) 0 ≡ (eqb a 0 && eqb b 0)
or_zero a b =
    same_test (eqb (bit_or a b) 0) (eqb a 0 && eqb b 0)
    (λ e. let q = eqb-true (bit_or a b) 0 e in
    rw (eq-eqb a 0 (omega (arith, or_add_and a b, and_le_r a b)), eq-eqb b 0 (omega (arith, or_add_and a b, and_le_l a b))))
    (λ e. let p = and_parts (eqb a 0) (eqb b 0) e in
    eq-eqb (bit_or a b) 0 (omega (arith, or_add_and a b, eqb-true a 0 p.0, eqb-true b 0 p.1)))

union_with : (xs : List ℕ) (x : ℕ) → eqb (fold bit_or x xs) 0 ≡ (eqb x 0 && allb (λ y. eqb y 0) xs)
unfolding allb
union_with [] x = sym (and-true (eqb x 0))
union_with (y ∷ ys) x = union_with ys (bit_or x y) ∙ ap (λ (b : Bool). b && allb (λ y. eqb y 0) ys) (or_zero x y) ∙ and_assoc (eqb x 0) (eqb y 0) (allb (λ y. eqb y 0) ys)

pub union_zero : (part : List ℕ) → eqb (fold bit_or 0 part) 0 ≡ allb (λ x. eqb x 0) part
union_zero part = union_with part 0

-- ---- n words from row u on are all 0, k rows and maybe more: no bit of those rows is set

pub rows_zero : (W : ℕ) (t : List ℕ) (u k n : ℕ) → u + k ≤ 64 * W → W * k ≤ n → W * u + n ≤ length t → true ≡ allb (λ x. eqb x 0) (between (W * u) (W * u + n) t)
    → (p v : ℕ) → u ≤ p → p < u + k → v < 64 * W → table_bit W t p v ≡ false
rows_zero W t u k n f s r e p v l h m =
    let a : W * p ≡ W * u + W * (p - u) = ap (λ (x : ℕ). W * x) (omega arith) ∙ mul-add W u (p - u) in
    let b : W * (p - u + 1) ≤ W * k = mul-le-mul_left W (omega arith) in
    let c : W * (p - u + 1) ≡ W * (p - u) + W * 1 = mul-add W (p - u) 1 in
    let i : ℕ = W * (p - u) + v / 64 in
    let z : get_or t (W * u + i) 0 ≡ 0 =
    sym (get_or-between t (W * u) (W * u + n) i 0 (omega arith))
    ∙ eqb-true (get_or (between (W * u) (W * u + n) t) i 0) 0
    (all-at (λ x. eqb x 0) (between (W * u) (W * u + n) t) i 0 (omega (arith, length-between t (W * u) (W * u + n) r)) (sym e)) in
    table_in W t p v (omega arith) m ∙ ap (λ (x : ℕ). bit x (v % 64)) (ap (λ (i : ℕ). get_or t i 0) (omega arith) ∙ z) ∙ bit_of_zero (v % 64)

-- k rows from row u on are inside the table
pub rows_fit : (W u k n : ℕ) → u + k ≤ 64 * W → W * (64 * W) ≤ n → W * u + W * k ≤ n
rows_fit W u k n l h =
    let m : W * (u + k) ≤ W * (64 * W) = mul-le-mul_left W l in
    omega (arith, mul-add W u k)

-- ---- the loop of `clear_table`: the first k words are made 0

-- a part that is 0 already
pub zeros_are : (part : List ℕ) → true ≡ allb (λ x. eqb x 0) part → part ≡ replicate (length part) 0
unfolding allb
zeros_are [] e = refl
zeros_are (x ∷ xs) e =
    let p = and_parts (eqb x 0) (allb (λ x. eqb x 0) xs) (sym e) in
    ap₂ (λ (y : ℕ) (ys : List ℕ). y ∷ ys) (eqb-true x 0 p.0) (zeros_are xs (sym p.1))

-- a part of n words that is 0 behind them
pub zeros_more : (k n e : ℕ) (l₀ : List ℕ) {l l' part : List ℕ} {m : ℕ} → l' ≡ put_mid k n l part → part ≡ replicate m 0 → m ≡ n → l ≡ replicate k 0 ++ drop k l₀ → k + n ≡ e → e ≤ length l₀
    → l' ≡ replicate e 0 ++ drop e l₀
zeros_more k n e l₀ {l} {l'} {part} {m} p z i q j h =
    p ∙ sym (take-append-drop e (put_mid k n l part)) ∙ ap₂ (λ (a b : List ℕ). a ++ b) first rest
  where
    zeros : ℕ → List ℕ
    zeros k = replicate k 0

    inside : k ≤ length l
    inside = omega (arith, ap length q, length-append (zeros k) (drop k l₀), length-replicate {A = ℕ} k 0)

    long : length part ≡ n
    long = ap length z ∙ length-replicate m 0 ∙ i

    before : take k l ≡ zeros k
    before = ap (take k) q ∙ ap (λ (j : ℕ). take j (zeros k ++ drop k l₀)) (sym (length-replicate k 0)) ∙ take-append_seam (zeros k) (drop k l₀)

    first : take e (put_mid k n l part) ≡ zeros e
    first =
        take-put_mid k n l part e (omega (arith, long)) inside ∙ ap₂ (λ (a b : List ℕ). a ++ b) before (z ∙ ap zeros i)
        ∙ replicate-append-replicate k n 0 ∙ ap zeros j

    rest : drop e (put_mid k n l part) ≡ drop e l₀
    rest = drop-put_mid k n l part e (omega arith) inside long ∙ ap (drop e) q ∙ drop-append-drop k l₀ (zeros k) e (omega arith) (length-replicate k 0)
