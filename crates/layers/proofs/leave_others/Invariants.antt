-- `layers::leave_others` meets its contract. The loop's invariant (Leaving.antt): the first j words are left.
use Rattle.layers.proofs.Leaving.{Leaving}
use Rattle.layers.proofs.leave_others.Given as goal

abbrev pub invariant-loop-j : goal.invariant-loop-j
invariant-loop-j l = Leaving l.words l.members l.first l.initial.left l.left l.j
