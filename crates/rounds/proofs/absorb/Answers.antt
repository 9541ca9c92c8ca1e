-- `rounds::absorb` meets its contract: the pairs stay counted; the rest goes by the law that stands on the function.
use Rattle.pairs.proofs.Settling.{settle_counted}
use Rattle.rounds.proofs.absorb.Goals as goal

pub returns-clause-counted : goal.returns-clause-counted
returns-clause-counted c =
    settle_counted _ _ _ _ _ _ _ _ _ c.requires.0 c.settle-count.ensures
