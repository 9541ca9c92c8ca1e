-- `targets::TargetHops::greatest_of_all` meets its contract. The loop's invariant (Rows.antt): the greatest hop of the targets in the first w words.
use native.Mathlib.Omega.{arith}
use Rattle.targets.proofs.Rows.{greatest_all}
use Rattle.targets.proofs.TargetHops.greatest_of_all.Goals as goal

pub returns : goal.returns
returns c =
    greatest_all _ _ _ c.loop-w.invariant (omega arith)
