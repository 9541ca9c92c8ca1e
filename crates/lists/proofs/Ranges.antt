-- Sums, counts and greatest values of a function over 0, 1, .., n - 1: a number or a part at a time, and one value or part changed. Assumes nothing.
use mathlib.Core.Path.{◌≡◌, refl, sym, ap, ◌∙◌}
use mathlib.Core.Logic.{◌≢◌, ◌⊎◌, inl, inr}
use mathlib.Core.Bool.{Bool}
use Prim.Native.Nat.{ℕ, zero, suc, ◌+◌, ◌-◌, ◌*◌, ◌≤◌, ◌<◌, max}
use native.Mathlib.Nat.{not-suc-le-zero, mul-suc}
use native.Mathlib.Numerals.{add-one}
use native.Mathlib.Omega.{arith}
use Rattle.std.proofs.lemmas.Bool.{cases_eq}
use Rattle.lists.specs.Lists.{from, range, countb, sum_of, max_of}
use Rattle.lists.proofs.RangeCounts.{count_same, count_split}

-- ---- one number more

module _ (f : ℕ → ℕ) where
  sum_from : (i k : ℕ) → sum_of f (from i (suc k)) ≡ sum_of f (from i k) + f (i + k)
  unfolding sum_of from
  sum_from i zero = let e : f (i + 0) ≡ f i = ap f (omega arith) in omega arith
  sum_from i (suc k) =
      let h : sum_of f (from (suc i) (suc k)) ≡ sum_of f (from (suc i) k) + f (suc i + k) = sum_from (suc i) k in
      let e : f (suc i + k) ≡ f (i + suc k) = ap f (omega arith) in
      omega arith

  pub sum_more : (n : ℕ) → sum_of f (range (n + 1)) ≡ sum_of f (range n) + f n
  unfolding range
  sum_more n = ap (λ (k : ℕ). sum_of f (from 0 k)) (add-one n) ∙ sum_from 0 n ∙ ap (λ (k : ℕ). sum_of f (from 0 n) + f k) (omega arith)

  sum_suc : (n : ℕ) → sum_of f (range (suc n)) ≡ sum_of f (range n) + f n
  sum_suc n = ap (λ (k : ℕ). sum_of f (range k)) (sym (add-one n)) ∙ sum_more n

  pub sum_nothing : sum_of f (range 0) ≡ 0
  unfolding sum_of range from
  sum_nothing = refl

  max-from : (i k : ℕ) → max_of f (from i (suc k)) ≡ max (max_of f (from i k)) (f (i + k))
  unfolding max_of from
  max-from i zero = let e : f (i + 0) ≡ f i = ap f (omega arith) in omega arith
  max-from i (suc k) =
      let h : max_of f (from (suc i) (suc k)) ≡ max (max_of f (from (suc i) k)) (f (suc i + k)) = max-from (suc i) k in
      let e : f (suc i + k) ≡ f (i + suc k) = ap f (omega arith) in
      omega arith

  pub max_more : (n : ℕ) → max_of f (range (n + 1)) ≡ max (max_of f (range n)) (f n)
  unfolding range
  max_more n = ap (λ (k : ℕ). max_of f (from 0 k)) (add-one n) ∙ max-from 0 n ∙ ap (λ (k : ℕ). max (max_of f (from 0 n)) (f k)) (omega arith)

  max-suc : (n : ℕ) → max_of f (range (suc n)) ≡ max (max_of f (range n)) (f n)
  max-suc n = ap (λ (k : ℕ). max_of f (range k)) (sym (add-one n)) ∙ max_more n

  pub max-nothing : max_of f (range 0) ≡ 0
  unfolding max_of range from
  max-nothing = refl

-- ---- values that are 0 from one number to another add nothing

module _ (f : ℕ → ℕ) where
  sum_skip_by : (m d : ℕ) → ((k : ℕ) → m ≤ k → k < m + d → f k ≡ 0) → sum_of f (range (m + d)) ≡ sum_of f (range m)
  sum_skip_by m zero h = ap (λ (n : ℕ). sum_of f (range n)) (omega arith)
  sum_skip_by m (suc d) h =
      let e : sum_of f (range (m + suc d)) ≡ sum_of f (range ((m + d) + 1)) = ap (λ (n : ℕ). sum_of f (range n)) (omega arith) in
      omega (arith, e, sum_more f (m + d), sum_skip_by m d (λ k a b. h k a (omega arith)), h (m + d) (omega arith) (omega arith))

  pub sum_skip : (m n : ℕ) → m ≤ n → ((k : ℕ) → m ≤ k → k < n → f k ≡ 0) → sum_of f (range n) ≡ sum_of f (range m)
  sum_skip m n l h =
      let e : n ≡ m + (n - m) = omega arith in
      ap (λ (n : ℕ). sum_of f (range n)) e ∙ sum_skip_by m (n - m) (λ k a b. h k a (omega arith))

  max_skip_by : (m d : ℕ) → ((k : ℕ) → m ≤ k → k < m + d → f k ≡ 0) → max_of f (range (m + d)) ≡ max_of f (range m)
  max_skip_by m zero h = ap (λ (n : ℕ). max_of f (range n)) (omega arith)
  max_skip_by m (suc d) h =
      let e : max_of f (range (m + suc d)) ≡ max_of f (range ((m + d) + 1)) = ap (λ (n : ℕ). max_of f (range n)) (omega arith) in
      omega (arith, e, max_more f (m + d), max_skip_by m d (λ k a b. h k a (omega arith)), h (m + d) (omega arith) (omega arith))

  pub max_skip : (m n : ℕ) → m ≤ n → ((k : ℕ) → m ≤ k → k < n → f k ≡ 0) → max_of f (range n) ≡ max_of f (range m)
  max_skip m n l h =
      let e : n ≡ m + (n - m) = omega arith in
      ap (λ (n : ℕ). max_of f (range n)) e ∙ max_skip_by m (n - m) (λ k a b. h k a (omega arith))

-- ---- two functions

module _ (f g : ℕ → ℕ) where
  pub sum_same : (n : ℕ) → ((k : ℕ) → k < n → f k ≡ g k) → sum_of f (range n) ≡ sum_of g (range n)
  sum_same zero h = sum_nothing f ∙ sym (sum_nothing g)
  sum_same (suc n) h =
      omega (arith, sum_suc f n, sum_suc g n, sum_same n (λ k l. h k (omega arith)), h n (omega arith))

  -- that differ at j alone
  pub sum_but : (n j : ℕ) → j < n → ((k : ℕ) → k < n → k ≢ j → f k ≡ g k) → sum_of f (range n) + g j ≡ sum_of g (range n) + f j
  sum_but zero j l h = absurd (not-suc-le-zero l)
  sum_but (suc n) j l h = go (cases_eq j n) (λ m. sum_but n j m (λ k a ne. h k (omega arith) ne))
    where
      go : (j ≡ n) ⊎ (j ≢ n) → (j < n → sum_of f (range n) + g j ≡ sum_of g (range n) + f j) → sum_of f (range (suc n)) + g j ≡ sum_of g (range (suc n)) + f j
      go (inl e) ih = omega (arith, sum_suc f n, sum_suc g n, sum_same n (λ k m. h k (omega arith) (λ q. omega arith)), ap f e, ap g e)
      go (inr e) ih = omega (arith, sum_suc f n, sum_suc g n, ih (omega arith), h n (omega arith) (λ q. e (sym q)))

  pub max_same : (n : ℕ) → ((k : ℕ) → k < n → f k ≡ g k) → max_of f (range n) ≡ max_of g (range n)
  max_same zero h = max-nothing f ∙ sym (max-nothing g)
  max_same (suc n) h =
      omega (arith, max-suc f n, max-suc g n, max_same n (λ k l. h k (omega arith)), h n (omega arith))

  -- that differ at j alone, where the first has 0
  pub max_put : (n j : ℕ) → j < n → ((k : ℕ) → k < n → k ≢ j → f k ≡ g k) → f j ≡ 0 → max_of g (range n) ≡ max (max_of f (range n)) (g j)
  max_put zero j l h z = absurd (not-suc-le-zero l)
  max_put (suc n) j l h z = go (cases_eq j n) (λ m. max_put n j m (λ k a ne. h k (omega arith) ne) z)
    where
      go : (j ≡ n) ⊎ (j ≢ n) → (j < n → max_of g (range n) ≡ max (max_of f (range n)) (g j)) → max_of g (range (suc n)) ≡ max (max_of f (range (suc n))) (g j)
      go (inl e) ih = omega (arith, max-suc f n, max-suc g n, max_same n (λ k m. h k (omega arith) (λ q. omega arith)), ap f e, ap g e)
      go (inr e) ih = omega (arith, max-suc f n, max-suc g n, ih (omega arith), h n (omega arith) (λ q. e (sym q)))

-- a sum of values of at most b each
pub sum_few : (f : ℕ → ℕ) (b n : ℕ) → ((k : ℕ) → k < n → f k ≤ b) → sum_of f (range n) ≤ b * n
sum_few f b zero h = omega (arith, sum_nothing f)
sum_few f b (suc n) h = omega (arith, sum_suc f n, sum_few f b n (λ k l. h k (omega arith)), h n (omega arith), mul-suc b n)

-- each value is at most the sum
pub sum_has : (f : ℕ → ℕ) (n j : ℕ) → j < n → f j ≤ sum_of f (range n)
sum_has f zero j l = absurd (not-suc-le-zero l)
sum_has f (suc n) j l = go (cases_eq j n) (λ m. sum_has f n j m)
  where
    go : (j ≡ n) ⊎ (j ≢ n) → (j < n → f j ≤ sum_of f (range n)) → f j ≤ sum_of f (range (suc n))
    go (inl e) ih = omega (arith, sum_suc f n, ap f e)
    go (inr e) ih = omega (arith, sum_suc f n, ih (omega arith))

-- ---- a part at a time

-- nothing at all
pub count_nothing : (p : ℕ → Bool) → countb p (range 0) ≡ 0
unfolding countb range from
count_nothing p = refl

pub max_none : (f : ℕ → ℕ) (n : ℕ) → ((k : ℕ) → k < n → f k ≡ 0) → max_of f (range n) ≡ 0
max_none f n h = max_skip f 0 n (omega arith) (λ k a b. h k b) ∙ max-nothing f

pub max-split : (f : ℕ → ℕ) (m n : ℕ) → max_of f (range (m + n)) ≡ max (max_of f (range m)) (max_of (λ k. f (m + k)) (range n))
max-split f m zero =
    let e : max_of f (range (m + 0)) ≡ max_of f (range m) = ap (λ (n : ℕ). max_of f (range n)) (omega arith) in
    omega (arith, e, max-nothing (λ k. f (m + k)))
max-split f m (suc n) =
    let e : max_of f (range (m + suc n)) ≡ max_of f (range ((m + n) + 1)) = ap (λ (n : ℕ). max_of f (range n)) (omega arith) in
    omega (arith, e, max_more f (m + n), max-split f m n, max-suc (λ k. f (m + k)) n)

-- two tests that differ in the k numbers from m on alone
pub count_block : (n m k : ℕ) (p q : ℕ → Bool) → m + k ≤ n → ((v : ℕ) → v < n → (m ≤ v → v < m + k → ⊥) → p v ≡ q v)
    → countb p (range n) + countb (λ b. q (m + b)) (range k) ≡ countb q (range n) + countb (λ b. p (m + b)) (range k)
count_block n m k p q l h =
    let d : ℕ = n - (m + k) in
    omega (
      arith,
      parts p,
      parts q,
      count_same m p q (λ v a. h v (omega arith) (λ x y. omega arith)),
      count_same d (λ i. p (m + (k + i))) (λ i. q (m + (k + i))) (λ i a. h (m + (k + i)) (omega arith) (λ x y. omega arith)),
    )
  where
    parts : (p : ℕ → Bool)
        → countb p (range n) ≡ countb p (range m) + (countb (λ b. p (m + b)) (range k) + countb (λ i. p (m + (k + i))) (range (n - (m + k))))
    parts p =
        let e : n ≡ m + (k + (n - (m + k))) = omega arith in
        ap (λ (x : ℕ). countb p (range x)) e ∙ count_split m (k + (n - (m + k))) p
        ∙ ap (λ (x : ℕ). countb p (range m) + x) (count_split k (n - (m + k)) (λ i. p (m + i)))
