-- `pairs::settle` meets its contract: where the eccentricity is above the candidate the old pairs go first, where it is the candidate r's own come to them.
use Rattle.pairs.proofs.Tallies.{holds_counted}
use Rattle.pairs.proofs.Settling.{clear_holds, settle_above, settle_equal}
use Rattle.pairs.proofs.settle.Goals as goal

pub add_pairs-requires : goal.add_pairs-requires
add_pairs-requires c = search (holds_counted, clear_holds)

pub returns-then-before-e : goal.returns-then-before-e
returns-then-before-e c = search (clear_holds, settle_above)

pub returns-then-e-ne0 : goal.returns-then-e-ne0
returns-then-e-ne0 c = search settle_equal
