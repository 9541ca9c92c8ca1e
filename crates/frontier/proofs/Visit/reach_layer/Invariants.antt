-- `frontier::Visit::reach_layer` meets its contract. The loop's invariant (Visits.antt): the members in the first w words are visited.
use Rattle.frontier.proofs.Visits.{WordsVisited}
use Rattle.frontier.proofs.Visit.reach_layer.Given as goal

abbrev pub invariant-loop-w : goal.invariant-loop-w
invariant-loop-w l = WordsVisited l.j l.layer l.initial.self l.self l.got l.w
