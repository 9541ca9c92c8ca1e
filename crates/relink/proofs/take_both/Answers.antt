-- `relink::take_both` meets its contract: the search from high is taken in with the raised candidate as limit.
use Rattle.map.specs.Memory.{base}
use Rattle.rounds.proofs.Turns.{absorbing_is}
use Rattle.relink.proofs.Taking.{both_taken_lem}
use Rattle.relink.proofs.take_both.Goals as goal

pub returns-clause-taken : goal.returns-clause-taken
returns-clause-taken c =
    both_taken_lem base _ _ _ _ _ _ _ _ _ _ _ c.take_low-first.ensures.taken
    (absorbing_is _ _ _ _ _ _ _ _ c.absorb.ensures.taken c.raised-limit.ensures)
