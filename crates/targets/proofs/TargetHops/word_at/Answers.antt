-- `targets::TargetHops::word_at` meets its contract. The loop's invariant (Partners.antt): of the members that were looked at, those at e are left. The
-- measure is what is left of the word.
use mathlib.Core.Path.{◌∙◌}
use native.Mathlib.Omega.{arith}
use Rattle.targets.proofs.Partners.{kept_stays, kept_leaves, kept_all}
use Rattle.targets.proofs.TargetHops.word_at.Goals as goal
use Rattle.targets.proofs.TargetHops.word_at.Goals.{then-self-w, else-self-w}

pub loop-x-preserved : goal.loop-x-preserved
loop-x-preserved c =
    let g = c.loop-x.invariant in
    elim c.if-self-w.branch [
      | then-self-w w ↦ kept_leaves _ _ _ _ g c.least-b.ensures c.clear_least-x.ensures w.if-self-w.true (w.here-is ∙ w.without_bit-here.ensures)
      | else-self-w w ↦ kept_stays _ _ _ _ g c.least-b.ensures c.clear_least-x.ensures w.if-self-w.false w.here-is
    ]

pub returns : goal.returns
returns c =
    kept_all _ _ _ c.args.e c.loop-x.invariant (omega arith)
