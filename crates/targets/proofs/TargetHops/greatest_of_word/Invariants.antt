-- `targets::TargetHops::greatest_of_word` meets its contract. The loop's invariant (Words.antt): the greatest hop so far, with those of what is left
-- of the word, is that of the word. The measure is what is left of the word.
use lib.ListN.{get_or}
use Rattle.targets.proofs.Words.{BitsCompared}
use Rattle.targets.proofs.TargetHops.greatest_of_word.Given as goal

abbrev pub invariant-loop-x : goal.invariant-loop-x
invariant-loop-x l = BitsCompared l.self.hops.now l.w (get_or l.self.targets.now l.w 0) l.most l.x

abbrev pub decreases-loop-x : goal.decreases-loop-x
decreases-loop-x l = l.x
