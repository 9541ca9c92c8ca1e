-- `reckon::reckon_map` meets its contract: the rounds from their start leave what the network's reckoning leaves.
use native.Mathlib.Omega.{arith}
use Rattle.map.specs.Memory.{base}
use Rattle.rounds.proofs.Turns.{begun_counted, same_marks}
use Rattle.reckon.proofs.Reckons.{reckoned_is}
use borrow.Author.Rules.{rules}
use Rattle.map.proofs.Theorems.{base_shape}
use Rattle.layers.proofs.Ends.{yards_hold_ends}
use Rattle.reckon.proofs.reckon_map.Goals as goal

pub run_rounds-requires : goal.run_rounds-requires
run_rounds-requires c =
    let pre = c.requires in
    let ends = yards_hold_ends 4 _ _ c.args.plan.are.member_row _ pre.1.sound in (
      search (ends, rules),
      begun_counted _ _ _ _ _ _ (omega arith) (omega arith) pre.0.pairs c.begin.ensures.begun,
      search rules,
      search rules,
      omega arith,
      search rules,
    )

pub returns-clause-left : goal.returns-clause-left
returns-clause-left c =
    reckoned_is base base_shape _ _ _ c.args.plan.are c.requires.1 _ _ _ _ _ _ c.begin.ensures.begun c.run_rounds.ensures.left
    (same_marks _ _ _ _ _ _ _ (search rules) (search rules) (search rules))
