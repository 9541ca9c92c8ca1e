-- `targets::sum_of_word` meets its contract. A full word is summed whole. The loop's invariant (Words.antt): the sum so far, with the hops of what is
-- left of the word, is that of the word. The measure is what is left of the word.
use Rattle.targets.proofs.Words.{full_sum, word_few, summing_next, summing_all}
use Rattle.targets.proofs.sum_of_word.Goals as goal

pub returns-then-word-eq-FULL-clause-few : goal.returns-then-word-eq-FULL-clause-few
returns-then-word-eq-FULL-clause-few c =
    word_few _ _ _ (full_sum _ _ c.if-word-eq-FULL.true c.sum_of_all.ensures) (λ v. (c.type_inv.hops v).fits)

pub loop-x-preserved : goal.loop-x-preserved
loop-x-preserved c = search summing_next

pub returns-clause-is : goal.returns-clause-is
returns-clause-is c =
    summing_all _ _ _ c.loop-x.invariant c.loop-x-test.false
