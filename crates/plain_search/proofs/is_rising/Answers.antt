-- `plain_search::is_rising` meets its contract: `is_sorted_by` over the codes (Rising.antt).
use Rattle.std.proofs.lemmas.List.Sorted.{answers_always}
use borrow.Author.Rules.{rules}
use lib.Dec.{ltb}
use Rattle.plain_search.proofs.Rising.{rising_is}
use Rattle.plain_search.proofs.is_rising.Goals as goal

pub returns : goal.returns
returns c = rising_is _ _ (c.is_sorted_by.ensures.cases ltb (answers_always _ _ _ (λ f a r g h. search rules)))
