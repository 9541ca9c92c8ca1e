-- `frontier::Visit::reach_next` meets its contract. The loop's invariant (Visits.antt): the words before j are next's, and the hops are in place.
use Rattle.frontier.proofs.Visits.{NextVisited}
use Rattle.frontier.proofs.Visit.reach_next.Given as goal

abbrev pub invariant-loop-j : goal.invariant-loop-j
invariant-loop-j l = NextVisited l.layer l.initial.self l.initial.next l.self l.next l.j
