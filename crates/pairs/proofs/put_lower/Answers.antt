-- `pairs::put_lower` meets its contract. The loop's invariant (WordPairs.antt): the pairs of the members that are not left are in the table, and
-- counted. The measure is the word that is left, which falls.
use native.Mathlib.Omega.{arith}
use borrow.Author.Rules.{rules}
use Rattle.pairs.proofs.Tallies.{holds_whole, holds_counted}
use Rattle.pairs.proofs.WordPairs.{lower_start, lower_more, lower_end}
use Rattle.pairs.proofs.put_lower.Goals as goal

pub loop-left-init : goal.loop-left-init
loop-left-init c = lower_start _ _ _ _ _ (holds_whole c.requires.0 (λ i l. search rules))

pub put_pair-sum-requires : goal.put_pair-sum-requires
put_pair-sum-requires c = search (holds_counted, rules)

pub loop-left-preserved : goal.loop-left-preserved
loop-left-preserved c = search lower_more

pub returns : goal.returns
returns c = lower_end _ _ _ _ _ c.loop-left.invariant (omega arith)
