-- `batch_opening::open_lines` meets its contract. The invariant is `IsUnderWay` (Progress.antt): the turns that are left come to what all do, and
-- nothing refuses the map.
use native.Mathlib.Omega.{arith}
use Rattle.map.specs.Memory.{base}
use Rattle.map.proofs.Theorems.{base_shape}
use Rattle.batch.proofs.Entries.{entries_codes}
use Rattle.batch_opening.proofs.Progress.{under-done, under_none, under_more}
use borrow.Author.Rules.{rules}
use Rattle.batch_opening.proofs.open_lines.Goals as goal

pub returns-in_default-clause-left : goal.returns-in_default-clause-left
returns-in_default-clause-left c =
    under_none base base_shape _ c.loop-turn.progress c.loop-turn.invariant.0 _ _ c.next_fit.ensures.0 c.in_default.is

pub loop-turn-preserved : goal.loop-turn-preserved
loop-turn-preserved c =
    let v = c.loop-turn.invariant in (
      under_more base base_shape _ c.loop-turn.progress v.0 _ _ c.next_fit.ensures.0 c.in-Some.is (omega arith)
          (omega (arith, c.args.openings.counted, c.args.openings.few)) (entries_codes _) c.take_line-progress.result c.take_line-progress.ensures.left
          c.take_line-progress.ensures.taken,
      search rules,
      omega (arith, v.2, c.next_fit.auto),
    )

pub returns-clause-left : goal.returns-clause-left
returns-clause-left c =
    under-done base base_shape _ c.loop-turn.progress c.loop-turn.invariant.0 (omega arith)
