-- `frontier::Visit::mark_word` meets its contract. The loop's invariant (Marks.antt): the members that have left the word have the hop. The measure is
-- what is left of the word.
use Rattle.frontier.proofs.Marks.{BitsMarked}
use Rattle.frontier.proofs.Visit.mark_word.Given as goal

abbrev pub invariant-loop-x : goal.invariant-loop-x
invariant-loop-x l = BitsMarked l.w l.word l.initial.self l.self l.x

abbrev pub decreases-loop-x : goal.decreases-loop-x
decreases-loop-x l = l.x
