-- `stale_pairs::dense::drop_dense_rows` meets its contract. The loop's invariant (StaleTable.antt)
-- is the contract itself, for the rows done. The measure is the rows left.
use mathlib.Core.Bool.{true}
use Prim.Native.Nat.{ℕ, ◌-◌}
use Rattle.stale_pairs.specs.Stale.{Sifts}
use Rattle.stale_pairs.proofs.StaleTable.{RowsDropping}
use Rattle.stale_pairs.proofs.dense.drop_dense_rows.Given as goal

abbrev pub invariant-loop-u : goal.invariant-loop-u
invariant-loop-u g l =
    (way : ℕ → ℕ → ℕ) (D : ℕ)
    → Sifts l.words D (goal.F-post g l.sifter) way
    → RowsDropping l.words way D l.initial.pairs (λ p. true) l.rows l.pairs l.gone l.count l.way l.u

abbrev pub decreases-loop-u : goal.decreases-loop-u
decreases-loop-u g l = l.rows - l.u
