-- `frontier::Visit::step_four` meets its contract: the four words stand for next, and are passed on where there are any (Straight.antt).
use mathlib.Core.Path.{sym, ◌∙◌}
use native.Mathlib.Omega.{arith}
use Rattle.frontier.proofs.Stepping.{row_long}
use Rattle.frontier.proofs.Straight.{straight_last, straight_none, straight_even, straight_odd, straight_left}
use Rattle.frontier.proofs.Visit.step_four.Goals as goal

pub mark_layer-requires : goal.mark_layer-requires
mark_layer-requires c =
    let r = c.requires in
    omega (arith, row_long _ _ _ 4 _ c.row_of.ensures r.1 r.2)

pub returns-then-is_empty-clause-turned : goal.returns-then-is_empty-clause-turned
returns-then-is_empty-clause-turned c =
    straight_last c.args.self.now c.mark_layer.new.self c.requires.0 _ _ _ _ c.row_of.ensures (sym c.is_empty.ensures ∙ c.if-is_empty.true)
    c.mark_layer.ensures.marked

pub reach_layer-got-requires : goal.reach_layer-got-requires
reach_layer-got-requires c =
    let r = c.requires in
    (omega (arith, row_long _ _ _ 4 _ c.row_of-2.ensures r.1 r.2), omega arith)

pub returns-then-next-eq0-clause-turned : goal.returns-then-next-eq0-clause-turned
returns-then-next-eq0-clause-turned c =
    straight_none _ _ c.requires.0 _ _ _ _ c.row_of-2.ensures _ _ _ c.reach_layer-got.ensures c.take_four-next.ensures c.if-next-eq0.true

pub returns-then-k-eq0-clause-turned : goal.returns-then-k-eq0-clause-turned
returns-then-k-eq0-clause-turned c =
    straight_even _ _ c.requires.0 _ _ _ _ c.row_of-2.ensures _ _ _ c.reach_layer-got.ensures c.take_four-next.ensures _ c.if-k-eq0.true c.put_four.ensures
    c.if-next-eq0.false

pub returns-then-k-eq0-clause-left : goal.returns-then-k-eq0-clause-left
returns-then-k-eq0-clause-left c = λ e.
    straight_left _ _ c.requires.0 _ _ _ _ c.row_of-2.ensures _ _ _ c.reach_layer-got.ensures c.take_four-next.ensures

pub returns-clause-turned : goal.returns-clause-turned
returns-clause-turned c =
    straight_odd _ _ c.requires.0 _ _ _ _ c.row_of-2.ensures _ _ _ c.reach_layer-got.ensures c.take_four-next.ensures _ c.if-k-eq0.false c.put_four-2.ensures
    c.if-next-eq0.false

pub returns-clause-left : goal.returns-clause-left
returns-clause-left c = λ e.
    straight_left _ _ c.requires.0 _ _ _ _ c.row_of-2.ensures _ _ _ c.reach_layer-got.ensures c.take_four-next.ensures
