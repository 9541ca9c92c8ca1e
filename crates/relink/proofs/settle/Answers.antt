-- `relink::settle` meets its contract: each end is one of the network's linking, by the test before it.
use Rattle.map.specs.Memory.{base}
use Rattle.relink.proofs.Cases.{kept_is, shrank_is}
use Rattle.relink.proofs.settle.Goals as goal

pub returns-then-is_kept-clause-left : goal.returns-then-is_kept-clause-left
returns-then-is_kept-clause-left c =
    let pre = c.requires in
    kept_is base _ _ _ _ _ _ _ _ _ _ pre.3 pre.1.ends _ _ _ c.drop_stale_either-left.ensures.left _ c.is_kept.ensures
    c.if-is_kept.true _ c.mark_twice.ensures

pub returns-clause-left : goal.returns-clause-left
returns-clause-left c =
    let pre = c.requires in
    shrank_is base _ _ _ _ _ _ _ _ _ _ pre.3 pre.1.ends _ _ _ c.drop_stale_either-left.ensures.left _ c.is_kept.ensures
    c.if-is_kept.false _ c.shrink-got.ensures.left
