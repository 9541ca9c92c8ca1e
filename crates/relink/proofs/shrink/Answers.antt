-- `relink::shrink` meets its contract: its two calls are the network's rounds after the ones from both ends.
use native.Mathlib.Omega.{arith}
use Rattle.map.specs.Memory.{base}
use Rattle.map.proofs.Theorems.{base_shape}
use Rattle.layers.proofs.Ends.{yards_hold_ends}
use Rattle.ranks.proofs.Ranks.{thinned_ranks}
use Rattle.rounds.proofs.Turns.{same_marks}
use Rattle.relink.proofs.Taking.{shrink_is}
use borrow.Author.Rules.{rules}
use Rattle.relink.proofs.shrink.Goals as goal

pub run_rounds-requires : goal.run_rounds-requires
run_rounds-requires c =
    let ends = yards_hold_ends 4 _ _ c.args.plan.are.member_row _ c.requires.2.higher.net.sound in (
      search (ends, rules),
      search rules,
      search rules,
      search (thinned_ranks, rules),
      omega arith,
      search rules,
    )

pub returns-clause-left : goal.returns-clause-left
returns-clause-left c =
    shrink_is base base_shape _ _ _ c.args.plan.are _ _ _ _ _ _ _ _ c.requires.2 (omega (arith, c.ranges.way.fits)) _ _ _
    c.take_both-before.ensures.taken _ c.take_both-before.ensures.searches _ _ _ _ _ _ c.run_rounds.ensures.left
    (same_marks _ _ _ _ _ _ _ (search rules) (search rules) (search rules))
