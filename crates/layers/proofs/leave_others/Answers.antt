-- `layers::leave_others` meets its contract. The loop's invariant (Leaving.antt): the first j words are left.
use native.Mathlib.Omega.{arith}
use Rattle.layers.proofs.Leaving.{leave_next}
use Rattle.layers.proofs.leave_others.Goals as goal

pub loop-j-preserved : goal.loop-j-preserved
loop-j-preserved c =
    let l = c.loop-j in
    leave_next _ _ _ _ _ _ l.invariant (omega arith) (omega arith) (c.type_inv.members l.j).fits (c.type_inv.first l.j).fits
