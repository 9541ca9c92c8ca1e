-- Every set bit passes a test: how it is shown, used and refuted. Assumes nothing.
use mathlib.Core.Path.{◌≡◌, ap}
use mathlib.Core.Logic.{◌⊎◌, inl, inr}
use mathlib.Core.Bool.{Bool, true, false, not, ◌||◌}
use Prim.Native.Nat.{ℕ, ◌<◌}
use Rattle.std.proofs.lemmas.Bool.{cases_Bool, or_cases, or_left, or_right}
use Rattle.lists.specs.Lists.{range, allb}
use Rattle.lists.proofs.Tests.{clash, not→false, t→true}
use Rattle.lists.proofs.Members.{all_intro, all_elim, range_in, range_out}
use borrow.Author.Tests.{not-true}
use Rattle.checks.specs.Sound.{all_set}

-- ---- every set bit passes

module _ (n : ℕ) (bits test : ℕ → ℕ → Bool) where
  pub all_set_intro : ((u v : ℕ) → u < n → v < n → bits u v ≡ true → test u v ≡ true) → all_set n bits test ≡ true
  unfolding all_set
  all_set_intro h =
      all_intro (λ u. allb (λ v. not (bits u v) || test u v) (range n)) (range n)
      (λ u m. all_intro (λ v. not (bits u v) || test u v) (range n) (λ v k. one u v (range_out n m) (range_out n k) (cases_Bool (bits u v))))
    where
      one : (u v : ℕ) → u < n → v < n → (bits u v ≡ true) ⊎ (bits u v ≡ false) → (not (bits u v) || test u v) ≡ true
      one u v l m (inl e) = or_right (not (bits u v)) _ (h u v l m e)
      one u v l m (inr e) = or_left _ (test u v) (ap not e)

  pub all_set_elim : all_set n bits test ≡ true → (u v : ℕ) → u < n → v < n → bits u v ≡ true → test u v ≡ true
  unfolding all_set
  all_set_elim h u v l m e =
      go
      (or_cases (not (bits u v)) (test u v)
      (all_elim (λ v. not (bits u v) || test u v) (range n)
      (all_elim (λ u. allb (λ v. not (bits u v) || test u v) (range n)) (range n) h (range_in n l)) (range_in n m)))
    where
      go : (not (bits u v) ≡ true) ⊎ (test u v ≡ true) → test u v ≡ true
      go (inl p) = absurd (clash e (not-true (bits u v) p))
      go (inr p) = p

  -- one set bit that does not pass
  pub all_set_fault : (u v : ℕ) → u < n → v < n → bits u v ≡ true → test u v ≡ false → all_set n bits test ≡ false
  all_set_fault u v l m e f = not→false (all_set n bits test) (λ h. clash (all_set_elim (t→true (all_set n bits test) h) u v l m e) f)
