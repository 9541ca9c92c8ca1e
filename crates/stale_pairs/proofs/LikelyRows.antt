-- The rows that are thought to have a pair: the next one, as `next_likely` answers it by the next member of a row, and all that have one, as `note_rows` finds
-- them. Assumes nothing.
use mathlib.Core.Path.{◌≡◌, sym, ap, ◌∙◌, subst}
use mathlib.Core.Logic.{◌≢◌, ◌⊎◌, inl, inr}
use mathlib.Core.Bool.{true, false}
use mathlib.Core.List.{List}
use Prim.Native.Nat.{ℕ, ◌+◌, ◌*◌, ◌≤◌, ◌<◌, min}
use native.Mathlib.Omega.{arith}
use Rattle.rows.specs.Next.{IsNext}
use Rattle.rows.specs.Rows.{row_bit, table_bit, put_bit, InTable}
use Rattle.rows.proofs.Written.{table_zero}
use Rattle.rows.proofs.Puts.{put_here, put_rest}
use Rattle.lists.proofs.Tests.{clash}
use Rattle.std.proofs.lemmas.Bool.{cases_eq, cases_lt}
use Rattle.stale_pairs.specs.Stale.{NextLikely, Bare, Covers}

module _ (W n : ℕ) (row : List ℕ) (u : ℕ) (l : u ≤ n) where
  pub likely_next : {i m : ℕ} → IsNext W row u i → m ≡ min i n → NextLikely W n row u m
  likely_next {i} {m} x e = record {
    after = omega (arith, x.after);
    within = omega arith;
    none = λ q a b. x.first q a (omega arith);
    here = λ b. let q : i ≡ m = omega arith in subst (λ (k : ℕ). row_bit W row k ≡ true) q x.here;
  }

  pub likely_none : ((k : ℕ) → u ≤ k → row_bit W row k ≡ false) → NextLikely W n row u n
  likely_none h = record {
    after = l;
    within = omega arith;
    none = λ q a b. h q a;
    here = λ b. absurd (let z : ⊥ = omega arith in z);
  }

-- ---- the rows that have a pair, noted as they are found

module _ (W : ℕ) (t : List ℕ) where
  pub covers_start : {n p : ℕ} (row : List ℕ) → Bare W n t 0 p → Covers W p t row
  covers_start row b = λ u v l h e. b.none u v (omega arith) l h

  pub covers_more : {n u q : ℕ} (row : List ℕ) → InTable W row 0 u → Covers W u t row → Bare W n t (u + 1) q → Covers W q t (put_bit W 0 u true row)
  covers_more {u = u} {q = q} row i c b = λ p v l h e. go p v l h e (cases_eq p u) (cases_lt p u)
    where
      read : (x : List ℕ) (p : ℕ) → row_bit W x p ≡ table_bit W x 0 p
      read x p = sym (table_zero W x p)

      go : (p v : ℕ) → p < q → v < 64 * W → row_bit W (put_bit W 0 u true row) p ≡ false → (p ≡ u) ⊎ (p ≢ u) → (p < u) ⊎ (u ≤ p) → table_bit W t p v ≡ false
      go p v l h e (inl z) o =
          absurd (clash (put_here W 0 u true row i) (sym (read (put_bit W 0 u true row) u) ∙ ap (row_bit W (put_bit W 0 u true row)) (sym z) ∙ e))
      go p v l h e (inr z) (inl o) =
          c p v o h (read row p ∙ sym (put_rest W 0 u true row i 0 p (λ x. z x.1)) ∙ sym (read (put_bit W 0 u true row) p) ∙ e)
      go p v l h e (inr z) (inr o) = b.none p v (omega arith) l h
