-- `rounds::spread` meets its contract: where the bounds are settled, what the reference left is what a pass would leave.
use mathlib.Core.Path.{subst}
use Rattle.rounds.specs.Slices.{IsSettled}
use Rattle.rounds.proofs.Level.{level_left, level_stays}
use borrow.Author.Rules.{rules}
use Rattle.rounds.proofs.spread.Goals as goal

pub returns-then-stays-clause-marked : goal.returns-then-stays-clause-marked
returns-then-stays-clause-marked c =
    level_stays _ _ _ _ _ _ _ _ _ _ c.requires.2 c.leave.ensures.left _ _ _
    (subst (IsSettled _ _) c.least_kept-c.ensures (c.stays.ensures c.if-stays.true)) c.requires.3 (search rules) (search rules)

pub returns-then-stays-clause-level : goal.returns-then-stays-clause-level
returns-then-stays-clause-level c = level_left _ _ _ _ _ _ _ _ _ _ c.requires.2 c.leave.ensures.left _ c.requires.3
