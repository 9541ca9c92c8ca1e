-- `insertion::shrink` meets its contract: its three calls are the network's rounds after the one from the new depot.
use native.Mathlib.Omega.{arith}
use Rattle.map.specs.Memory.{base}
use Rattle.map.proofs.Theorems.{base_shape}
use Rattle.layers.proofs.Ends.{yards_hold_ends}
use Rattle.ranks.proofs.Ranks.{thinned_ranks}
use Rattle.rounds.proofs.Turns.{begun_counted, same_marks, absorbing_is}
use Rattle.insertion.proofs.Shrinking.{shrink_is}
use borrow.Author.Rules.{rules}
use Rattle.insertion.proofs.shrink.Goals as goal

pub absorb-first-requires : goal.absorb-first-requires
absorb-first-requires c =
    let pre = c.requires in (
      begun_counted _ _ _ _ _ _ (omega arith) (omega arith) pre.0.pairs c.begin.ensures.begun,
      search rules,
      search rules,
      search rules,
      search rules,
      omega arith,
    )

pub run_rounds-requires : goal.run_rounds-requires
run_rounds-requires c =
    let ends = yards_hold_ends 4 _ _ c.args.plan.are.member_row _ c.requires.2.net.sound in (
      search (ends, rules),
      search rules,
      search rules,
      search (thinned_ranks, rules),
      omega arith,
      search rules,
    )

pub returns-clause-left : goal.returns-clause-left
returns-clause-left c =
    shrink_is base base_shape _ _ _ c.args.plan.are _ _ _ _ _ c.requires.2 (omega (arith, c.ranges.way.fits)) _ _ _ _
    c.begin.ensures.begun _ _ _ (absorbing_is _ _ _ _ _ _ _ _ c.absorb-first.ensures.taken c.raised-limit.ensures) _
    c.absorb-first.ensures.searches _ _ _ _ _ _ c.run_rounds.ensures.left
    (same_marks _ _ _ _ _ _ _ (search rules) (search rules) (search rules))
