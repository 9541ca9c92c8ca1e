-- How many numbers below n pass a test: the count a part at a time, and after one number is put in or taken out. Assumes nothing.
use mathlib.Core.Path.{◌≡◌, refl, sym, ap, ◌∙◌}
use mathlib.Core.Logic.{◌≢◌}
use mathlib.Core.Bool.{Bool, false, cond, not, ◌&&◌, ◌||◌, and-true, and-false}
use Prim.Native.Nat.{ℕ, zero, suc, ◌+◌, ◌<◌, suc-le-suc}
use native.Mathlib.Nat.{zero-lt-suc, le_of_suc-le-suc, not-suc-le-zero, zero-add, suc-add}
use native.Mathlib.Omega.{arith}
use lib.Dec.{eqb}
use borrow.Author.Tests.{eq-eqb, ne_eqb}
use Rattle.lists.specs.Lists.{from, range, countb}
use Rattle.lists.proofs.Members.{range_out}
use Rattle.lists.proofs.Counts.{count_ext}

-- ---- a part at a time

count_from : (p : ℕ → Bool) (i k : ℕ) → countb p (from (suc i) k) ≡ countb (λ v. p (suc v)) (from i k)
unfolding countb from
count_from p i zero = refl
count_from p i (suc k) = ap (λ (x : ℕ). cond (p (suc i)) 1 0 + x) (count_from p (suc i) k)

count_nothing : (p : ℕ → Bool) → countb p (range 0) ≡ 0
unfolding countb range from
count_nothing p = refl

pub count_first : (n : ℕ) (p : ℕ → Bool) → countb p (range (suc n)) ≡ cond (p 0) 1 0 + countb (λ k. p (suc k)) (range n)
unfolding countb range from
count_first n p = ap (λ (x : ℕ). cond (p 0) 1 0 + x) (count_from p 0 n)

pub count_same : (n : ℕ) (p q : ℕ → Bool) → ((k : ℕ) → k < n → p k ≡ q k) → countb p (range n) ≡ countb q (range n)
count_same n p q h = count_ext p q (range n) (λ k m. h k (range_out n m))

pub count_split : (m n : ℕ) (p : ℕ → Bool) → countb p (range (m + n)) ≡ countb p (range m) + countb (λ k. p (m + k)) (range n)
count_split zero n p =
    let none : countb p (range 0) ≡ 0 = count_nothing p in
    let all = ap (λ (x : ℕ). countb p (range x)) (zero-add n) in
    let same = count_same n p (λ k. p (0 + k)) (λ k l. ap p (sym (zero-add k))) in
    omega arith
count_split (suc m) n p =
    let all = ap (λ (x : ℕ). countb p (range x)) (suc-add m n) in
    let rest = count_split m n (λ k. p (suc k)) in
    let same = count_same n (λ k. p (suc (m + k))) (λ k. p (suc m + k)) (λ k l. ap p (sym (suc-add m k))) in
    omega (arith, count_first (m + n) p, count_first m p)

-- ---- one number put in or taken out

weigh : {x y : Bool} → x ≡ y → ◌≡◌ {A = ℕ} (cond x 1 0) (cond y 1 0)
weigh e = ap (λ (x : Bool). cond {A = ℕ} x 1 0) e

-- two tests that differ at j alone
count_but : (n : ℕ) (p q : ℕ → Bool) (j : ℕ) → j < n → ((k : ℕ) → k < n → k ≢ j → p k ≡ q k)
    → countb p (range n) + cond (q j) 1 0 ≡ countb q (range n) + cond (p j) 1 0
count_but zero p q j l h = absurd (not-suc-le-zero l)
count_but (suc n) p q zero l h =
    let same = count_same n (λ k. p (suc k)) (λ k. q (suc k)) (λ k m. h (suc k) (suc-le-suc m) (λ e. omega arith)) in
    omega (arith, count_first n p, count_first n q)
count_but (suc n) p q (suc j) l h =
    let first = weigh (h 0 (zero-lt-suc n) (λ e. omega arith)) in
    let rest = count_but n (λ k. p (suc k)) (λ k. q (suc k)) j (le_of_suc-le-suc l) (λ k m ne. h (suc k) (suc-le-suc m) (λ e. ne (omega arith))) in
    omega (arith, count_first n p, count_first n q)

-- put in: one more where it was out, as many where it was in
count_with : (n : ℕ) (p : ℕ → Bool) (b : ℕ) → b < n → countb (λ k. eqb k b || p k) (range n) + cond (p b) 1 0 ≡ countb p (range n) + 1
count_with n p b l =
    omega (
      arith,
      count_but n (λ k. eqb k b || p k) p b l (λ k m ne. ap (λ (x : Bool). x || p k) (ne_eqb k b ne)),
      weigh (ap (λ (x : Bool). x || p b) (eq-eqb b b refl)),
    )

pub count_with_new : (n : ℕ) (p : ℕ → Bool) (b : ℕ) → b < n → p b ≡ false → countb (λ k. eqb k b || p k) (range n) ≡ countb p (range n) + 1
count_with_new n p b l e = omega (arith, count_with n p b l, weigh e)

-- taken out: one less where it was in, as many where it was out
count_without : (n : ℕ) (p : ℕ → Bool) (b : ℕ) → b < n → countb (λ k. p k && not (eqb k b)) (range n) + cond (p b) 1 0 ≡ countb p (range n)
count_without n p b l =
    omega (
      arith,
      count_but n (λ k. p k && not (eqb k b)) p b l (λ k m ne. ap (λ (x : Bool). p k && not x) (ne_eqb k b ne) ∙ and-true (p k)),
      weigh (ap (λ (x : Bool). p b && not x) (eq-eqb b b refl) ∙ and-false (p b)),
    )
