-- `frontier::Visit::reach_word` meets its contract. The loop's invariant (Visits.antt): the members that have left the word are visited. The measure is
-- what is left of the word.
use Rattle.frontier.proofs.Visits.{bits_next, bits_end}
use Rattle.frontier.proofs.Visit.reach_word.Goals as goal

pub loop-x-preserved-then-y-ne0 : goal.loop-x-preserved-then-y-ne0
loop-x-preserved-then-y-ne0 c = search bits_next

pub loop-x-preserved : goal.loop-x-preserved
loop-x-preserved c = search bits_next

pub returns : goal.returns
returns c = search bits_end
