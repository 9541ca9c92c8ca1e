-- `summary::search_target` meets its contract: the hop table holds the distances over the link table, and the eccentricity to the targets says which count
-- grows.
use Rattle.summary.proofs.Totalling.{tables_left, tally_is, count_is}
use Rattle.summary.proofs.search_target.Goals as goal

pub returns-clause-left : goal.returns-clause-left
returns-clause-left c =
    let found = c.search_to-found.ensures in (
      tally_is 4 _ _ _ _ found.left found.ecc c.sum_later-later.ensures,
      tables_left 4 _ _ _ _ found.left found.ecc,
      count_is 4 _ _ _ _ found.left found.ecc _,
    )
