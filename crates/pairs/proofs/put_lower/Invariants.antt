-- `pairs::put_lower` meets its contract. The loop's invariant (WordPairs.antt): the pairs of the members that are not left are in the table, and
-- counted. The measure is the word that is left, which falls.
use Rattle.pairs.proofs.WordPairs.{Lowering}
use Rattle.pairs.proofs.put_lower.Given as goal

abbrev pub invariant-loop-left : goal.invariant-loop-left
invariant-loop-left l = Lowering l.words l.j l.x l.high l.initial.pairs l.pairs l.sum l.left

abbrev pub decreases-loop-left : goal.decreases-loop-left
decreases-loop-left l = l.left
