-- Rows without a pair, as `bare_groups` and `next_row` pass them: by groups of 8, and one by one. Assumes nothing.
use mathlib.Core.Path.{◌≡◌, sym, ◌∙◌}
use mathlib.Core.Logic.{◌⊎◌, inl, inr}
use mathlib.Core.Bool.{Bool, true, false}
use mathlib.Core.List.{List}
use Prim.Native.Nat.{ℕ, ◌+◌, ◌*◌, ◌≤◌, ◌<◌}
use native.Mathlib.Omega.{arith}
use lib.Dec.{eqb}
use lib.ListN.{length}
use Rattle.std.proofs.lemmas.Bool.{cases_lt}
use Rattle.std.specs.List.{between}
use Rattle.lists.specs.Lists.{allb}
use Rattle.rows.specs.Rows.{table_bit}
use Rattle.rows.proofs.Places.{row_fits}
use Rattle.rows.proofs.Zeros.{rows_zero, rows_fit}
use Rattle.stale_pairs.specs.Stale.{Bare}

-- k rows from p on are inside the table
pub row_inside : (W n p s : ℕ) → n ≤ 64 * W → p < n → W * (64 * W) ≤ s → W * p + W ≤ s
row_inside W n p s m l h = row_fits W p s (omega arith) h

pub group_inside : (W n p s : ℕ) → n ≤ 64 * W → p + 8 ≤ n → W * (64 * W) ≤ s → W * p + 8 * W ≤ s
group_inside W n p s m l h = omega (arith, rows_fit W p 8 s (omega arith) h)

module _ (W n : ℕ) (t : List ℕ) (u : ℕ) where
  -- k rows more, whose m words are all 0, as the code's answer r says
  bare_more : (k m : ℕ) {p : ℕ} {r : Bool} → W * k ≤ m → Bare W n t u p → n ≤ 64 * W → p + k ≤ n → W * p + m ≤ length t
      → r ≡ allb (λ x. eqb x 0) (between (W * p) (W * p + m) t) → r ≡ true
      → Bare W n t u (p + k)
  bare_more k m {p} {r} few g w l s e z = record {
    after = omega (arith, g.after);
    within = l;
    none = λ q v a b h. go q v a b h (cases_lt q p);
  }
    where
      go : (q v : ℕ) → u ≤ q → q < p + k → v < 64 * W → (q < p) ⊎ (p ≤ q) → table_bit W t q v ≡ false
      go q v a b h (inl c) = g.none q v a c h
      go q v a b h (inr c) = rows_zero W t p k m (omega arith) few s (sym z ∙ e) q v c b h

  -- one row more, and one group
  pub row_bare : {p : ℕ} {r : Bool} → Bare W n t u p → n ≤ 64 * W → p < n → W * (64 * W) ≤ length t → r ≡ allb (λ x. eqb x 0) (between (W * p) (W * p + W) t) → r ≡ true
      → Bare W n t u (p + 1)
  row_bare {p} g w l s e z = bare_more 1 W (omega arith) g w (omega arith) (row_inside W n p (length t) w l s) e z

  pub group_bare : {p : ℕ} {r : Bool} → Bare W n t u p → n ≤ 64 * W → p + 8 ≤ n → W * (64 * W) ≤ length t → r ≡ allb (λ x. eqb x 0) (between (W * p) (W * p + 8 * W) t) → r ≡ true
      → Bare W n t u (p + 8)
  group_bare {p} g w l s e z = bare_more 8 (8 * W) (omega arith) g w l (group_inside W n p (length t) w l s) e z
