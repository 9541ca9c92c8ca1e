-- `stale_pairs::likely::drop_few` meets its contract: member by member, it is `drop_rows` over all rows, by the way that the hops tell.
use borrow.Author.Rules.{rules}
use Rattle.stale_pairs.specs.Stale.{way_by}
use Rattle.stale_pairs.proofs.StaleTable.{all_rows}
use Rattle.stale_pairs.proofs.likely.drop_few.Goals as goal

pub drop_rows-requires-clause-sifter : goal.drop_rows-requires-clause-sifter
drop_rows-requires-clause-sifter c =
    (λ x u j f l h. search rules, way_by c.args.hops.now, c.args.stored.chain, λ x u j r f l h m. search rules)

pub returns-clause-left : goal.returns-clause-left
returns-clause-left c =
    all_rows _ _ _ _
    (c.drop_rows.ensures (way_by c.args.hops.now) c.args.stored.chain (λ x u j r f l h m. search rules)).0

pub returns-clause-done : goal.returns-clause-done
returns-clause-done c =
    (c.drop_rows.ensures (way_by c.args.hops.now) c.args.stored.chain (λ x u j r f l h m. search rules)).1
