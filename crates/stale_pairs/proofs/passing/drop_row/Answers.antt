-- `stale_pairs::passing::drop_row` meets its contract. The loop's invariant (StaleRow.antt): the
-- row's pairs in the words passed are dropped or counted, and their greatest way is known.
use native.Mathlib.Omega.{arith}
use Rattle.stale_pairs.proofs.StaleRow.{row_start, row_word, row_skip, row_end, gone_fits, count_fits}
use Rattle.stale_pairs.proofs.RowsDone.{both_done}
use Rattle.stale_pairs.proofs.passing.drop_row.Goals as goal
use Rattle.stale_pairs.proofs.passing.drop_row.Goals.{then-old-ne0, else-old-ne0}

pub loop-j-init : goal.loop-j-init
loop-j-init g c = λ way D h. row_start _ _ _ _ _ c.requires.room.1 (λ i l. (c.slice_known-1.given i).fits)

pub overflow_add-gone : goal.overflow_add-gone
overflow_add-gone g c =
    let told = c.requires.sifter in
    search (gone_fits, c.loop-j.invariant told.1 told.2 told.3, told.3 _ _ _ _ (omega arith) (omega arith) (omega arith) c.sifter-left.ensures)

pub overflow_add-count : goal.overflow_add-count
overflow_add-count g c =
    let told = c.requires.sifter in
    search (count_fits, c.loop-j.invariant told.1 told.2 told.3, told.3 _ _ _ _ (omega arith) (omega arith) (omega arith) c.sifter-left.ensures)

pub loop-j-preserved : goal.loop-j-preserved
loop-j-preserved g c =
    λ way D h. elim c.if-old-ne0.branch [
      | then-old-ne0 w ↦
          let sifted = h _ _ _ _ (omega arith) (omega arith) (omega arith) w.sifter-left.ensures in
          rw (w.pairs-is, w.gone-is, w.count-is, w.way'-is) (search (row_word, c.loop-j.invariant way D h, sifted))
      | else-old-ne0 w ↦ rw (w.pairs-is, w.gone-is, w.count-is, w.way'-is) (search (row_skip, c.loop-j.invariant way D h))
    ]

pub returns : goal.returns
returns g c =
    λ way D h.
    both_done _ _ _ _ _ c.requires.room.1 (row_end _ _ _ _ _ c.requires.room.2 (c.loop-j.invariant way D h) (omega arith))
