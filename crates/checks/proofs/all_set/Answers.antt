-- `checks::all_set` meets its contract: rows, words and set bits that are done have passed, so the walk ends with the whole table passed, or at a bit
-- that refutes the test. The measure is what is left of the word.
use mathlib.Core.Path.{◌∙◌}
use native.Mathlib.Omega.{arith}
use Rattle.checks.proofs.Scans.{bits_next, words_start, words_next, scan_whole, scan_fault}
use Rattle.checks.proofs.all_set.Goals as goal
use Rattle.checks.proofs.all_set.Goals.{else-rows-test, then-rows-test+then-loop-w-test+then-loop-x-test+then-not-passes}

pub loop-w-init : goal.loop-w-init
loop-w-init g c = λ test h. words_start (c.rows.invariant test h).fine c.rows-test.true

pub loop-x-preserved : goal.loop-x-preserved
loop-x-preserved g c =
    λ test h. bits_next (c.loop-x.invariant test h) c.least-b.ensures c.clear_least-x.ensures
    (h _ _ _ c.rows-test.true (omega arith) c.passes.ensures) c.if-not-passes.false

pub loop-w-preserved : goal.loop-w-preserved
loop-w-preserved g c =
    λ test h. words_next (c.loop-w.invariant test h) (c.loop-x.invariant test h) (omega arith) c.rows-test.true c.loop-w-test.true

pub returns : goal.returns
returns g c =
    λ test h. elim c.rows-test.branch [
      | else-rows-test w ↦ w.fine-is ∙ scan_whole (c.rows.invariant test h) w.rows-test.false
      | then-rows-test+then-loop-w-test+then-loop-x-test+then-not-passes w ↦ w.fine-is
          ∙ scan_fault _ _ (w.loop-x.invariant test h) w.least-b.ensures (h _ _ _ w.rows-test.true (omega arith) w.passes.ensures) w.if-not-passes.true
          w.rows-test.true w.loop-w-test.true
    ]
