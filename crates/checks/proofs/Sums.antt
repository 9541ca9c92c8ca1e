-- The ones of a table, counted row by row. Assumes nothing.
use mathlib.Core.Path.{◌≡◌, refl, ap, ◌∙◌}
use mathlib.Core.List.{List}
use Prim.Native.Nat.{ℕ, ◌+◌, ◌*◌, ◌≤◌, ◌<◌}
use native.Mathlib.Omega.{arith}
use Rattle.lists.specs.Lists.{from, range, countb, sum_of}
use Rattle.lists.proofs.Ranges.{sum_more}
use Rattle.lists.proofs.Members.{length-range}
use Rattle.lists.proofs.Counts.{count_le_length}
use Rattle.rows.specs.Rows.{table_bit}
use Rattle.graph.specs.Chart.{count_pairs}

-- ---- the loop

-- the ones of the first u rows are counted; a row of at most 512 words has at most 32,768
pub record RowsCounted (W : ℕ) (t : List ℕ) (sum u : ℕ) : Type 0 where
  pub within : u ≤ 64 * W
  pub is : sum ≡ sum_of (λ p. countb (table_bit W t p) (range (64 * W))) (range u)
  pub few : sum ≤ 32768 * u

pub counted_start : (W : ℕ) (t : List ℕ) → RowsCounted W t 0 0
unfolding range from sum_of
counted_start W t = record { within = omega arith; is = refl; few = omega arith }

pub counted_next : {W : ℕ} {t : List ℕ} {sum u r : ℕ} → RowsCounted W t sum u → W < 513 → u < 64 * W → r ≡ countb (table_bit W t u) (range (64 * W))
    → RowsCounted W t (sum + r) (u + 1)
counted_next {W} {t} {sum} {u} {r} i m d e =
    let more = sum_more (λ p. countb (table_bit W t p) (range (64 * W))) u in
    let few = count_le_length (table_bit W t u) (range (64 * W)) in
    record { within = omega arith; is = omega (arith, i.is); few = omega (arith, i.few, length-range (64 * W)) }

pub counted_whole : {W : ℕ} {t : List ℕ} {sum u : ℕ} → RowsCounted W t sum u → 64 * W ≤ u → sum ≡ count_pairs (range (64 * W)) (table_bit W t)
unfolding count_pairs
counted_whole {W} {t} {sum} {u} i z =
    let e : u ≡ 64 * W = omega (arith, i.within) in
    i.is ∙ ap (λ (n : ℕ). sum_of (λ p. countb (table_bit W t p) (range (64 * W))) (range n)) e
