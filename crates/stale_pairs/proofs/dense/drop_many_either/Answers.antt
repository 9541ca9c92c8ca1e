-- `stale_pairs::dense::drop_many_either` meets its contract: it is `drop_dense_rows` over all rows,
-- by the way that the balls tell.
use borrow.Author.Rules.{rules}
use Rattle.std.proofs.lemmas.List.{length-replicate}
use Rattle.stale_pairs.specs.Stale.{way_by_either}
use Rattle.stale_pairs.proofs.StaleTable.{all_rows}
use Rattle.stale_pairs.proofs.Balls.{none_set}
use Rattle.stale_pairs.proofs.dense.drop_many_either.Goals as goal

pub put_balls-requires : goal.put_balls-requires
put_balls-requires g c = search (none_set, length-replicate, rules)

pub put_balls-requires-2 : goal.put_balls-requires-2
put_balls-requires-2 g c = search (none_set, length-replicate, rules)

pub drop_dense_rows-requires-clause-sifter : goal.drop_dense_rows-requires-clause-sifter
drop_dense_rows-requires-clause-sifter g c =
    (λ x u j f l h. search rules, way_by_either c.args.near.now c.args.far.now, c.args.stored.chain, λ x u j r f l h m. search rules)

pub returns-clause-left : goal.returns-clause-left
returns-clause-left g c =
    all_rows _ _ _ _
    (c.drop_dense_rows.ensures (way_by_either c.args.near.now c.args.far.now) c.args.stored.chain (λ x u j r f l h m. search rules)).0

pub returns-clause-done : goal.returns-clause-done
returns-clause-done g c =
    (c.drop_dense_rows.ensures (way_by_either c.args.near.now c.args.far.now) c.args.stored.chain (λ x u j r f l h m. search rules)).1
