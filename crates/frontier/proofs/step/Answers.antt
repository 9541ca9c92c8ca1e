-- `frontier::step` meets its contract: k's parity tells which row holds the layer (Stepping.antt).
use borrow.Author.Rules.{rules}
use Rattle.frontier.specs.Steps.{step_of, row_of, turn_of}
use Rattle.frontier.proofs.Stepping.{turn_even, turn_odd, left_even, left_odd}
use Rattle.frontier.proofs.step.Goals as goal

pub returns-then-k-eq0-clause-turned : goal.returns-then-k-eq0-clause-turned
unfolding turn_of step_of row_of
returns-then-k-eq0-clause-turned c = search (turn_even, rules)

pub returns-then-k-eq0-clause-left : goal.returns-then-k-eq0-clause-left
returns-then-k-eq0-clause-left c = left_even _ _ _ _ _ _ _ _ c.if-k-eq0.true c.step_wide.ensures.left

pub returns-clause-turned : goal.returns-clause-turned
unfolding turn_of step_of row_of
returns-clause-turned c = search (turn_odd, rules)

pub returns-clause-left : goal.returns-clause-left
returns-clause-left c = left_odd _ _ _ _ _ _ _ _ c.if-k-eq0.false c.step_wide-2.ensures.left
