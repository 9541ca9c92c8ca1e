-- `frontier::pass_on` meets its contract. The loop's invariant (Passes.antt): the first j words stand in the other row.
use native.Mathlib.Omega.{arith}
use Rattle.frontier.proofs.Passes.{pass_next}
use Rattle.frontier.proofs.pass_on.Goals as goal

pub loop-j-preserved : goal.loop-j-preserved
loop-j-preserved c =
    let l = c.loop-j in
    pass_next _ _ _ _ _ l.invariant (omega arith) (omega arith) (c.type_inv.next l.j).fits
