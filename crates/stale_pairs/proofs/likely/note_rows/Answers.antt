-- `stale_pairs::likely::note_rows` meets its contract. The loop's invariant (LikelyRows.antt): of the rows passed those with a pair are noted.
use mathlib.Core.Path.{sym, subst}
use mathlib.Core.List.{List}
use Prim.Native.Nat.{ℕ}
use Rattle.stale_pairs.specs.Stale.{Covers}
use Rattle.stale_pairs.proofs.LikelyRows.{covers_more}
use borrow.Author.Rules.{rules}
use Rattle.stale_pairs.proofs.likely.note_rows.Goals as goal

pub loop-u-preserved : goal.loop-u-preserved
loop-u-preserved c =
    let next = c.next_row-u-in-loop-u.ensures in
    let a = c.args in (
      next.within,
      subst (λ (row : List ℕ). Covers a.words c.next_row-u-in-loop-u.result a.pairs.now row) (sym c.row_set.ensures)
          (covers_more a.words a.pairs.now c.loop-u.likely (search rules) c.loop-u.invariant.1 next),
    )
