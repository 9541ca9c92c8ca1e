-- The candidate of a shrink, over any way: what bounds it at every stored pair bounds it. Assumes nothing.
use mathlib.Core.Path.{◌≡◌, refl}
use mathlib.Core.Bool.{Bool, true, false, cond}
use mathlib.Core.List.{List}
use Prim.Native.Nat.{ℕ, ◌≤◌, min, zero-le}
use native.Mathlib.Omega.{arith}
use Rattle.lists.specs.Lists.{max_of}
use Rattle.lists.proofs.Counts.{max_le_of}
use Rattle.graph.specs.Chart.{Pairs}
use Rattle.graph.specs.Opening.{shrunk_candidate}

module _ (vs : List ℕ) (way : ℕ → ℕ → ℕ) (D : ℕ) (P : Pairs) where
  pub candidate_le : (top : ℕ) → ((u v : ℕ) → P u v ≡ true → min D (way u v) ≤ top) → shrunk_candidate vs way D P ≤ top
  unfolding shrunk_candidate
  candidate_le top most =
      max_le_of (λ u. max_of (λ v. cond (P u v) (min D (way u v)) 0) vs) vs top
      (λ u mu. max_le_of (λ v. cond (P u v) (min D (way u v)) 0) vs top (λ v mv. go u v (P u v) refl))
    where
      go : (u v : ℕ) (b : Bool) → P u v ≡ b → cond b (min D (way u v)) 0 ≤ top
      go u v false h = zero-le
      go u v true h = most u v h

  -- it is at most the chain that was stored
  pub candidate_le_chain : shrunk_candidate vs way D P ≤ D
  candidate_le_chain = candidate_le D (λ u v h. omega arith)
