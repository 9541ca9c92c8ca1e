-- `frontier::Visit::mark_layer` meets its contract. The loop's invariant (Marks.antt): the members in the first w words have the hop.
use Rattle.frontier.proofs.Marks.{LayerMarked}
use Rattle.frontier.proofs.Visit.mark_layer.Given as goal

abbrev pub invariant-loop-w : goal.invariant-loop-w
invariant-loop-w l = LayerMarked l.layer l.initial.self l.self l.w
