-- The part of a row that a last layer is: by the depth's parity, with a row's words and the row's members. Assumes nothing.
use mathlib.Core.Path.{◌≡◌, sym, ap, ◌∙◌}
use mathlib.Core.Logic.{◌⊎◌, inl, inr}
use mathlib.Core.Bool.{Bool, true, false, cond}
use mathlib.Core.List.{List}
use Prim.Native.Nat.{ℕ, ◌*◌, ◌%◌, ◌≤◌, ◌<◌, min}
use native.Mathlib.Omega.{arith}
use lib.Dec.{eqb}
use lib.ListN.{length, take, drop, length-take}
use borrow.Author.Tests.{eq-eqb, ne_eqb}
use Rattle.std.proofs.lemmas.Bool.{cases_lt}
use Rattle.std.proofs.lemmas.List.{take_min}
use Rattle.rows.specs.Rows.{row_bit}
use Rattle.rows.proofs.Written.{row_past, row_of_table, table_zero}
use Rattle.layers.specs.Layers.{last_layer}

-- it has a row's words
pub last_long : (W d : ℕ) {last : List ℕ} (even odd : List ℕ) → last ≡ last_layer W d even odd → W ≤ length even → W ≤ length odd → W ≤ length last
unfolding last_layer
last_long W d {last} even odd q a b = go (eqb (d % 2) 0) (ap length q ∙ length-take W (cond (eqb (d % 2) 0) even odd))
  where
    go : (t : Bool) → length last ≡ min W (length (cond t even odd)) → W ≤ length last
    go true n = omega (arith, n)
    go false n = omega (arith, n)

-- and the row's members
pub part_is : (W : ℕ) (row : List ℕ) (v : ℕ) → row_bit W (take W row) v ≡ row_bit W row v
part_is W row v = go (cases_lt v (64 * W))
  where
    go : (v < 64 * W) ⊎ (64 * W ≤ v) → row_bit W (take W row) v ≡ row_bit W row v
    go (inl l) =
        let z : W * 0 ≡ 0 = omega arith in
        ap (λ (i : ℕ). row_bit W (take W (drop i row)) v) (sym z) ∙ row_of_table W row 0 v (omega arith) ∙ table_zero W row v
    go (inr l) = row_past W (take W row) v l ∙ sym (row_past W row v l)

-- ---- the row handed back, by the parity

module _ (W d : ℕ) (even odd : List ℕ) where
  pub last_even : d % 2 ≡ 0 → take W even ≡ last_layer W d even odd
  unfolding last_layer
  last_even q = rw (eq-eqb (d % 2) 0 q)

  pub last_odd : (d % 2 ≡ 0 → ⊥) → take W odd ≡ last_layer W d even odd
  unfolding last_layer
  last_odd q = rw (ne_eqb (d % 2) 0 q)

-- what the check is told of a part of a row
pub ruleset parts = (take_min, last_even, last_odd)
