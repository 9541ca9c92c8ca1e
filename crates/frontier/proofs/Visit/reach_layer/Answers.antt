-- `frontier::Visit::reach_layer` meets its contract. The loop's invariant (Visits.antt): the members in the first w words are visited.
use borrow.Author.Rules.{rules}
use Rattle.frontier.proofs.Visits.{words_fit, words_next, words_end}
use Rattle.frontier.proofs.Visit.reach_layer.Goals as goal

pub reach_word-got-requires : goal.reach_word-got-requires
reach_word-got-requires c = search (words_fit, rules)

pub loop-w-preserved : goal.loop-w-preserved
loop-w-preserved c = search words_next

pub returns : goal.returns
returns c = search words_end
