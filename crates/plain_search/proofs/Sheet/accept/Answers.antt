-- `Sheet::accept` has no neighbour left.
use Rattle.std.proofs.Common.{sym, ◌∙◌, ap, arith}
use Rattle.std.proofs.lemmas.List.{drop_all}
use Rattle.plain_search.specs.Sheets.{linked}
use Rattle.plain_search.proofs.Linked.{linked_none}
use Rattle.plain_search.proofs.Sheet.accept.Goals as goal

pub returns-clause-links : goal.returns-clause-links
returns-clause-links c =
    sym (linked_none c.loop-v.self.links c.args.code)
    ∙ sym (ap (linked c.loop-v.self.links c.args.code) (drop_all c.loop-v.v-index c.args.neighbours.now (omega arith)))
    ∙ c.loop-v.invariant.2
