-- `frontier::Visit::reach_word` meets its contract. The loop's invariant (Visits.antt): the members that have left the word are visited. The measure is
-- what is left of the word.
use Rattle.frontier.proofs.Visits.{BitsVisited}
use Rattle.frontier.proofs.Visit.reach_word.Given as goal

abbrev pub invariant-loop-x : goal.invariant-loop-x
invariant-loop-x l = BitsVisited l.j l.w l.word l.initial.self l.initial.got l.self l.got l.x

abbrev pub decreases-loop-x : goal.decreases-loop-x
decreases-loop-x l = l.x
