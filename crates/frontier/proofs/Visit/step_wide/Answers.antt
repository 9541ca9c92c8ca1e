-- `frontier::Visit::step_wide` meets its contract: next holds the fresh codes (Stepping.antt), and is passed on where there are any.
use mathlib.Core.Path.{sym, ◌∙◌}
use Rattle.frontier.proofs.Stepping.{step_none, step_more, step_left, step_last}
use Rattle.frontier.proofs.Visit.step_wide.Goals as goal

pub returns-then-is_empty-clause-stepped : goal.returns-then-is_empty-clause-stepped
returns-then-is_empty-clause-stepped c =
    step_last _ _ _ _ _ _ _ _ (sym c.is_empty.ensures ∙ c.if-is_empty.true) c.mark_layer.ensures.marked

pub returns-then-not-take_left-clause-stepped : goal.returns-then-not-take_left-clause-stepped
returns-then-not-take_left-clause-stepped c =
    step_none _ _ _ _ _ _ _ _ _ _ _ _ c.reach_next.ensures.visited c.take_left.ensures _ c.if-not-take_left.true-raw

pub returns-clause-stepped : goal.returns-clause-stepped
returns-clause-stepped c =
    step_more _ _ _ _ _ _ _ _ _ _ _ _ c.reach_next.ensures.visited c.take_left.ensures _ _ c.if-not-take_left.false-raw c.pass_on.ensures

pub returns-clause-left : goal.returns-clause-left
returns-clause-left c = λ e. step_left _ _ _ _ _ _ _ _ _ _ _ _ c.reach_next.ensures.visited c.take_left.ensures
