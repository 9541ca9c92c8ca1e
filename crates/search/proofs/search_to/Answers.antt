-- `search::search_to` meets its contract: the hop table holds the distances over the link table, and the last layer is in the row of the depth's parity.
use Rattle.search.proofs.Reaches.{ecc_is}
use Rattle.search.proofs.search_to.Goals as goal

pub returns-clause-ecc : goal.returns-clause-ecc
returns-clause-ecc c =
    ecc_is 4 _ _ _ _ c.search_sound-depth.ensures.left c.greatest-ecc.ensures
