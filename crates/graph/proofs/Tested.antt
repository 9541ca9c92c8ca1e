-- BY TESTS: what holds of each end of an opening or a link holds of the one that the tests choose. So a proof goes through its cases.
-- Assumes nothing.
use mathlib.Core.Path.{◌≡◌, refl}
use mathlib.Core.Bool.{Bool, true, false, cond}
use Rattle.graph.specs.Opening.{Opened}

module _ (M : Opened → Type 0) where
  pub by_test : (k : Bool) {x y : Opened} → (k ≡ true → M x) → (k ≡ false → M y) → M (cond k x y)
  by_test true f g = f refl
  by_test false f g = g refl

  pub by_tests : (b s k : Bool) {w x y z : Opened} → (b ≡ true → M w) → (b ≡ false → s ≡ true → M x) → (b ≡ false → s ≡ false → k ≡ true → M y)
      → (b ≡ false → s ≡ false → k ≡ false → M z) → M (cond b w (cond s x (cond k y z)))
  by_tests true s k f g h i = f refl
  by_tests false true k f g h i = g refl refl
  by_tests false false true f g h i = h refl refl refl
  by_tests false false false f g h i = i refl refl refl

-- the same of two choices by the same tests
module _ (M : Opened → Opened → Type 0) where
  pub both_by_test : (k : Bool) {x y x' y' : Opened} → M x x' → M y y' → M (cond k x y) (cond k x' y')
  both_by_test true f g = f
  both_by_test false f g = g

  pub both_by_tests : (b s k : Bool) {w x y z w' x' y' z' : Opened} → M w w' → M x x' → M y y' → M z z'
      → M (cond b w (cond s x (cond k y z))) (cond b w' (cond s x' (cond k y' z')))
  both_by_tests true s k f g h i = f
  both_by_tests false true k f g h i = g
  both_by_tests false false true f g h i = h
  both_by_tests false false false f g h i = i
