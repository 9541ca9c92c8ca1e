-- `stale_pairs::passing::drop_row` meets its contract. The loop's invariant (StaleRow.antt): the
-- row's pairs in the words passed are dropped or counted, and their greatest way is known.
use Prim.Native.Nat.{ℕ, ◌*◌}
use Rattle.stale_pairs.specs.Stale.{Sifts}
use Rattle.stale_pairs.proofs.StaleRow.{RowDropping}
use Rattle.stale_pairs.proofs.passing.drop_row.Given as goal

abbrev pub invariant-loop-j : goal.invariant-loop-j
invariant-loop-j g l =
    (way : ℕ → ℕ → ℕ) (D : ℕ)
    → Sifts l.words D (goal.F-post g l.sifter) way
    → RowDropping l.words way D l.u l.initial.pairs l.pairs l.gone l.count l.way (64 * l.j)
