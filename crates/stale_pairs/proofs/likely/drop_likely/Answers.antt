-- `stale_pairs::likely::drop_likely` meets its contract. The loop's invariant (StaleTable.antt) is
-- the contract itself, for the rows passed. The measure is the rows left.
use Prim.Native.Nat.{◌+◌, ◌^◌, ◌<◌}
use native.Mathlib.Omega.{arith}
use Rattle.stale_pairs.proofs.StaleTable.{rows_start, rows_few, rows_met, rows_left_out, rows_more, rows_end, one_done}
use Rattle.stale_pairs.proofs.RowsDone.{both_done}
use Rattle.stale_pairs.proofs.likely.drop_likely.Goals as goal
use Rattle.stale_pairs.proofs.likely.drop_likely.Goals.{After-drop_row-row}

pub loop-u-init : goal.loop-u-init
loop-u-init g c =
    let next = c.next_likely-u.ensures in (
      λ way D h. rows_left_out _ _ _ _ (rows_start _ _ _ _ c.requires.room.1 (λ i l. (c.type_inv.pairs i).fits)) next.after next.within next.none,
      next.here,
    )

-- the sums fit: at most 32,768 rows are done, and each had at most 32,768 pairs
few : (g : _) (c : After-drop_row-row g) → let row = c.drop_row-row.result in c.loop-u.gone + row.gone + (c.loop-u.count + row.count) < 2 ^ 32
few g c =
    let told = c.requires.sifter in
    let one = one_done _ _ _ _ _ _ (c.loop-u.invariant.1 c.loop-u-test.true) (c.drop_row-row.ensures told.1 told.2 told.3).0 in
    omega (arith, rows_few _ _ _ _ (c.loop-u.invariant.0 told.1 told.2 told.3) one c.requires.room.0)

pub overflow_add-gone : goal.overflow_add-gone
overflow_add-gone g c = omega (arith, few g (goal.at.overflow_add-gone g c).After-drop_row-row)

pub overflow_add-count : goal.overflow_add-count
overflow_add-count g c = omega (arith, few g (goal.at.overflow_add-count g c).After-drop_row-row)

pub overflow_add-gone-in-loop-u : goal.overflow_add-gone-in-loop-u
overflow_add-gone-in-loop-u g c = omega (arith, few g (goal.at.overflow_add-gone-in-loop-u g c).After-drop_row-row)

pub loop-u-preserved-then-gone-count : goal.loop-u-preserved-then-gone-count
loop-u-preserved-then-gone-count g c = (
  λ way D h.
      let pre = c.requires.room in
      let one = one_done _ _ _ _ _ _ (c.loop-u.invariant.1 c.loop-u-test.true) (c.drop_row-row.ensures way D h).0 in
      rows_met _ _ _ _
      (rows_more _ _ _ _ (c.loop-u.invariant.0 way D h) one c.loop-u-test.true c.max-way.ensures c.drop_row-row.auto.pairs)
      pre.2 pre.4 c.if-gone-count.true,
  λ l. absurd (let z : ⊥ = omega arith in z),
)

pub loop-u-preserved : goal.loop-u-preserved
loop-u-preserved g c = (
  λ way D h.
      let one = one_done _ _ _ _ _ _ (c.loop-u.invariant.1 c.loop-u-test.true) (c.drop_row-row.ensures way D h).0 in
      let more = rows_more _ _ _ _ (c.loop-u.invariant.0 way D h) one c.loop-u-test.true c.max-way.ensures c.drop_row-row.auto.pairs in
      let next = c.next_likely-u-else-gone-count.ensures in
      rows_left_out _ _ _ _ more next.after next.within next.none,
  c.next_likely-u-else-gone-count.ensures.here,
)

pub returns : goal.returns
returns g c =
    λ way D h.
    both_done _ _ _ _ _ c.requires.room.1 (rows_end _ _ _ _ (c.loop-u.invariant.0 way D h) (omega arith))
