-- `rows::clear` meets its contract: the first words are filled with 0, which encodes the empty set.
use borrow.Author.Rules.{rules}
use Rattle.rows.proofs.Filled.{filled_zero}
use Rattle.rows.proofs.clear.Goals as goal

pub returns : goal.returns
returns c = search (filled_zero, rules)
