-- THE REFUSALS OF A CALL, in words (rules 8.1 and 8.2): one shape for every call, which adds its own conditions to a list.
-- Assumes nothing.
use Rattle.std.specs.Prelude.{◌≡◌, ◌⊎◌, ◌↔◌, List, [], ◌∷◌, ℕ, suc, ◌<◌}

-- k is the number of the first condition that holds, 0 where none does (rule 8.1)
abbrev pub FirstHolds : List (Type 0 × ℕ) → ℕ → Type 0
FirstHolds [] k = k ≡ 0
FirstHolds (c ∷ cs) k = (c.0 × (k ≡ c.1)) ⊎ ((c.0 → ⊥) × FirstHolds cs k)

-- A call refuses by its conditions: its number is that of the first that holds, and refused it leaves what it was lent (rule 8.2).
-- `left` is what the call leaves, `refused k` what it was lent, with the answer k.
pub record Refuses {A : Type 0} (conditions : List (Type 0 × ℕ)) (number : ℕ) (refused : ℕ → A) (left : A) : Type 0 where
  pub first : (k : ℕ) → (number ≡ k) ↔ FirstHolds conditions k
  pub unchanged : (k : ℕ) → number ≡ suc k → left ≡ refused (suc k)

-- 1, short. Each buffer is here the size that it should have with the length that it has.
abbrev pub IsShort : List (ℕ × ℕ) → Type 0
IsShort [] = ⊥
IsShort (b ∷ bs) = (b.1 < b.0) ⊎ IsShort bs
