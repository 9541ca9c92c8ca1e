-- `c_updates::updates::zorpedi_link` meets its contract: the call that it wraps, its tables lent in a room.
use borrow.Author.Rules.{rules}
use Rattle.c_values.proofs.Lent.{same_lent}
use Rattle.c_updates.proofs.UpdateOuts.{update_lent}
use Rattle.c_updates.proofs.updates.zorpedi_link.Goals as goal

pub returns : goal.returns
returns c = update_lent c.change.ensures.left (search (rules, same_lent))
