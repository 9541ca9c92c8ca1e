-- `frontier::Visit::mark_layer` meets its contract. The loop's invariant (Marks.antt): the members in the first w words have the hop.
use Rattle.frontier.proofs.Marks.{layer_next, layer_end}
use Rattle.frontier.proofs.Visit.mark_layer.Goals as goal

pub loop-w-preserved : goal.loop-w-preserved
loop-w-preserved c = search layer_next

pub returns-clause-marked : goal.returns-clause-marked
returns-clause-marked c = search layer_end
