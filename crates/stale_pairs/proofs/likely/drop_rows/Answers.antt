-- `stale_pairs::likely::drop_rows` meets its contract: the rows that are thought to have a pair are
-- done, and then no pair is left that was not met, or all rows that have one are done
-- (StaleTable.antt).
use Prim.Native.Nat.{◌+◌, ◌-◌, ◌≤◌}
use native.Mathlib.Omega.{arith}
use Rattle.rows.specs.Rows.{row_bit}
use Rattle.stale_pairs.specs.Stale.{pairs_below}
use Rattle.stale_pairs.proofs.StaleTable.{likely_first, likely_few, left_few, likely_all, again_all}
use Rattle.stale_pairs.proofs.RowsDone.{both_done}
use Rattle.stale_pairs.proofs.likely.drop_rows.Goals as goal
use Rattle.stale_pairs.proofs.likely.drop_rows.Goals.{After-drop_likely-first}

pub drop_likely-first-requires-clause-room : goal.drop_likely-first-requires-clause-room
drop_likely-first-requires-clause-room g c =
    let a = c.args in
    let pre = c.requires.room in
    (pre.0, pre.1, pre.2, pre.3, likely_first a.words a.rows (row_bit a.words a.likely.now) a.pairs.now pre.4)

-- no more are met than there can be
met : (g : _) (c : After-drop_likely-first g) → c.drop_likely-first.result.gone + c.drop_likely-first.result.count ≤ c.args.total
met g c =
    let a = c.args in
    let told = c.requires.sifter in
    likely_few _ _ _ _ (row_bit a.words a.likely.now) _ c.requires.room.4 (c.drop_likely-first.ensures told.1 told.2 told.3).0

pub returns-then-first-ne0-2 : goal.returns-then-first-ne0-2
returns-then-first-ne0-2 g c =
    λ way D h. let a = c.args in
    both_done _ _ _ _ _ c.requires.room.1
    (likely_all _ _ _ _ (row_bit a.words a.likely.now) _ c.requires.room.4 (c.drop_likely-first.ensures way D h).0 c.if-first-total.true)

pub returns-else-first-ne0 : goal.returns-else-first-ne0
returns-else-first-ne0 g c =
    λ way D h. let a = c.args in
    both_done _ _ _ _ _ c.requires.room.1
    (likely_all _ _ _ _ (row_bit a.words a.likely.now) _ c.requires.room.4 (c.drop_likely-first.ensures way D h).0 c.if-first-total.true)

pub overflow_add-first : goal.overflow_add-first
overflow_add-first g c = omega (arith, met g (goal.at.overflow_add-first g c).After-drop_likely-first)

pub overflow_sub-total : goal.overflow_sub-total
overflow_sub-total g c = omega (arith, met g (goal.at.overflow_sub-total g c).After-drop_likely-first)

-- those that stand yet are the rest
stand : (g : _) (c : After-drop_likely-first g)
    → pairs_below c.args.words c.args.rows c.drop_likely-first.new.pairs ≤ c.args.total - c.drop_likely-first.result.gone
stand g c =
    let a = c.args in
    let told = c.requires.sifter in
    left_few _ _ _ _ (row_bit a.words a.likely.now) _ c.requires.room.4 (c.drop_likely-first.ensures told.1 told.2 told.3).0

pub drop_likely-rest-requires-clause-room : goal.drop_likely-rest-requires-clause-room
drop_likely-rest-requires-clause-room g c =
    let a = c.args in
    let pre = c.requires.room in (
      pre.0,
      omega (arith, pre.1, c.drop_likely-first.auto.pairs),
      pre.2,
      omega (arith, pre.3, c.note_rows.auto.likely),
      likely_first a.words a.rows (row_bit a.words c.note_rows.new.likely) c.drop_likely-first.new.pairs
          (stand g (goal.at.drop_likely-rest-requires-clause-room g c).After-drop_likely-first),
    )

pub overflow_add-result : goal.overflow_add-result
overflow_add-result g c =
    let a = c.args in
    let told = c.requires.sifter in
    let first = (goal.at.overflow_add-result g c).After-drop_likely-first in
    omega (
      arith,
      met g first,
      likely_few _ _ _ _ (row_bit a.words c.note_rows.new.likely) _ (stand g first) (c.drop_likely-rest.ensures told.1 told.2 told.3).0,
    )

pub returns : goal.returns
returns g c =
    λ way D h. let a = c.args in
    both_done _ _ _ _ _ c.requires.room.1
    (again_all _ _ _ _ (row_bit a.words a.likely.now) _ c.requires.room.4 (c.drop_likely-first.ensures way D h).0
    (row_bit a.words c.note_rows.new.likely) (λ u v l m e. c.note_rows.ensures u v l m e) (c.drop_likely-rest.ensures way D h).0 c.max.ensures)
