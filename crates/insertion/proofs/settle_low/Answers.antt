-- `insertion::settle_low` meets its contract: each end is one of the network's opening, by the tests before it.
use Rattle.map.specs.Memory.{base}
use Rattle.stale_pairs.proofs.Theorems.{drop_counted}
use Rattle.insertion.proofs.Cases.{equal_is, kept_is, shrank_is}
use borrow.Author.Rules.{rules}
use Rattle.insertion.proofs.settle_low.Goals as goal

pub join-sum-requires : goal.join-sum-requires
join-sum-requires c = (
  search (drop_counted, rules),
  search rules,
  search rules,
  search rules,
  search rules,
)

pub returns-then-span-chain-clause-left : goal.returns-then-span-chain-clause-left
returns-then-span-chain-clause-left c =
    let pre = c.requires in
    equal_is base _ _ _ _ _ _ _ pre.3 pre.2.ends pre.5 _ _ _ c.drop_stale-left.ensures.left c.if-span-chain.true _ _ _
    c.join-sum.ensures

pub returns-then-left-ne0-clause-left : goal.returns-then-left-ne0-clause-left
returns-then-left-ne0-clause-left c =
    let pre = c.requires in
    kept_is base _ _ _ _ _ _ _ pre.3 pre.2.ends pre.5 _ _ _ c.drop_stale-left.ensures.left c.if-span-chain.false
    c.if-left-ne0.true _ c.mark_once.ensures

pub returns-clause-left : goal.returns-clause-left
returns-clause-left c =
    let pre = c.requires in
    shrank_is base _ _ _ _ _ _ _ pre.3 pre.2.ends pre.5 _ _ _ c.drop_stale-left.ensures.left c.if-span-chain.false c.if-left-ne0.false
    _ c.shrink-got.ensures.left
