-- `targets::sum_of_word` meets its contract. A full word is summed whole. The loop's invariant (Words.antt): the sum so far, with the hops of what is
-- left of the word, is that of the word. The measure is what is left of the word.
use Rattle.targets.proofs.Words.{BitsSummed}
use Rattle.targets.proofs.sum_of_word.Given as goal

abbrev pub invariant-loop-x : goal.invariant-loop-x
invariant-loop-x l = BitsSummed l.hops l.w l.word l.sum l.x

abbrev pub decreases-loop-x : goal.decreases-loop-x
decreases-loop-x l = l.x
