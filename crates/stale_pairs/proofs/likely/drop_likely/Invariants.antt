-- `stale_pairs::likely::drop_likely` meets its contract. The loop's invariant (StaleTable.antt) is the contract itself, for the rows passed; and the
-- next row is thought to have a pair. The measure is the rows
-- left.
use mathlib.Core.Path.{◌≡◌}
use mathlib.Core.Bool.{true}
use Prim.Native.Nat.{ℕ, ◌-◌, ◌<◌}
use Rattle.rows.specs.Rows.{row_bit}
use Rattle.stale_pairs.specs.Stale.{Sifts}
use Rattle.stale_pairs.proofs.StaleTable.{RowsDropping}
use Rattle.stale_pairs.proofs.likely.drop_likely.Given as goal

abbrev pub invariant-loop-u : goal.invariant-loop-u
invariant-loop-u g l =
    ((way : ℕ → ℕ → ℕ) (D : ℕ)
    → Sifts l.words D (goal.F-post g l.sifter) way
    → RowsDropping l.words way D l.initial.pairs (row_bit l.words l.likely) l.rows l.pairs l.gone l.count l.way l.u)
    × (l.u < l.rows → row_bit l.words l.likely l.u ≡ true)

abbrev pub decreases-loop-u : goal.decreases-loop-u
decreases-loop-u g l = l.rows - l.u
