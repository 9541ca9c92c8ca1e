-- `nearby::first_listed` meets its contract: the chain goes through the list's codes and stops at the first that is open.
use Rattle.std.proofs.Common.{rules, tests}
use Rattle.std.proofs.lemmas.Iterator.{YieldsList-from_slice, YieldsList-from_map}
use Rattle.std.proofs.lemmas.Iterator.Consumers.{YieldsList-at}
use Rattle.std.proofs.lemmas.Iterator.Search.{find_from_yields_List}
use Rattle.rows.specs.Rows.{row_bit}
use Rattle.nearby.proofs.Choosing.{first_found}
use Rattle.nearby.proofs.first_listed.Goals as goal

pub returns : goal.returns
returns c =
    first_found _ _ _
    (find_from_yields_List (row_bit 4 c.args.members.now) _ _ c.find.result c.find.ensures.ran
    (YieldsList-from_map _ (λ v. v) (YieldsList-at c.map.ensures.source (YieldsList-from_slice c.args.listed.now cc)) c.map.ensures.closure
    (λ x r q k. search (rules, tests)))
    (λ x b q k. search (rules, tests)))
