-- `stale_pairs::dense::drop_dense_rows` meets its contract. The loop's invariant (StaleTable.antt)
-- is the contract itself, for the rows done. The measure is the rows left.
use mathlib.Core.Path.{refl}
use mathlib.Core.Bool.{true}
use Prim.Native.Nat.{◌+◌, ◌^◌, ◌≤◌, ◌<◌}
use native.Mathlib.Omega.{arith}
use Rattle.stale_pairs.specs.Stale.{among, pairs_in}
use Rattle.stale_pairs.proofs.StaleTable.{likely_first, rows_start, rows_few, rows_met, rows_bare, rows_more, one_done, dense_end}
use Rattle.stale_pairs.proofs.RowsDone.{both_done}
use Rattle.stale_pairs.proofs.dense.drop_dense_rows.Goals as goal
use Rattle.stale_pairs.proofs.dense.drop_dense_rows.Goals.{After-drop_row-part}

pub loop-u-init : goal.loop-u-init
loop-u-init g c = λ way D h. rows_bare _ _ _ _ (rows_start _ _ _ _ c.requires.room.1 (λ i l. (c.slice_known-1.given i).fits)) c.next_row-u.ensures

-- the sums fit: at most 32,768 rows are done, and each had at most 32,768 pairs
few : (g : _) (c : After-drop_row-part g) → let part = c.drop_row-part.result in c.loop-u.gone + part.gone + (c.loop-u.count + part.count) < 2 ^ 32
few g c =
    let told = c.requires.sifter in
    let one = one_done _ _ _ _ (λ p. true) _ refl (c.drop_row-part.ensures told.1 told.2 told.3).0 in
    omega (arith, rows_few _ _ _ _ (c.loop-u.invariant told.1 told.2 told.3) one c.requires.room.0)

pub overflow_add-gone : goal.overflow_add-gone
overflow_add-gone g c = omega (arith, few g (goal.at.overflow_add-gone g c).After-drop_row-part)

pub overflow_add-count : goal.overflow_add-count
overflow_add-count g c = omega (arith, few g (goal.at.overflow_add-count g c).After-drop_row-part)

pub overflow_add-gone-in-loop-u : goal.overflow_add-gone-in-loop-u
overflow_add-gone-in-loop-u g c = omega (arith, few g (goal.at.overflow_add-gone-in-loop-u g c).After-drop_row-part)

pub loop-u-preserved-then-gone-count : goal.loop-u-preserved-then-gone-count
loop-u-preserved-then-gone-count g c =
    λ way D h.
    let one = one_done _ _ _ _ (λ p. true) _ refl (c.drop_row-part.ensures way D h).0 in
    rows_bare _ _ _ _
    (rows_more _ _ _ _ (c.loop-u.invariant way D h) one c.loop-u-test.true c.max-way.ensures c.drop_row-part.auto.pairs)
    c.next_row-u-then-gone-count.ensures

pub loop-u-preserved : goal.loop-u-preserved
loop-u-preserved g c =
    λ way D h.
    let a = c.args in
    let one = one_done _ _ _ _ (λ p. true) _ refl (c.drop_row-part.ensures way D h).0 in
    let all : pairs_in a.words (among a.rows (λ p. true)) a.pairs.now ≤ a.total = likely_first a.words a.rows (λ p. true) a.pairs.now c.requires.room.3 in
    rows_met _ _ _ _
    (rows_more _ _ _ _ (c.loop-u.invariant way D h) one c.loop-u-test.true c.max-way.ensures c.drop_row-part.auto.pairs)
    (omega arith) (omega (arith, all, c.if-gone-count.false)) refl

pub returns : goal.returns
returns g c =
    λ way D h.
    both_done _ _ _ _ _ c.requires.room.1 (dense_end _ _ _ _ (c.loop-u.invariant way D h) (omega arith))
