-- `rounds::round` meets its contract: a search over the table, what it says of r, and both taken in.
use mathlib.Core.Path.{refl, sym, subst}
use borrow.Author.Rules.{rules}
use Rattle.targets.specs.Reach.{reached}
use Rattle.pairs.specs.Pairs.{tally}
use Rattle.rounds.specs.Workspace.{absorbed}
use Rattle.rounds.specs.Slices.{AreLevel}
use Rattle.rounds.proofs.Turns.{handed_back, same_tables, same_marks, taking_is, absorbing_is, round_is_absorbed}
use Rattle.rounds.proofs.round.Goals as goal

pub returns-clause-left : goal.returns-clause-left
returns-clause-left c =
    handed_back _ _ _ _ _ _ _ _
    (round_is_absorbed _ _ _ _ _ _ _ _ _ _ _ _ _ _ _ c.search_table-depth.ensures.left _ c.reach_by-span.ensures
    (same_tables _ _ _ _ _ _ (search rules) (search rules) (search rules)) (search rules)
    (absorbing_is _ _ _ _ _ _ _ _
    (taking_is _ _ _ _ (reached c.reach_by-span.result.ecc c.reach_by-span.result.own _) _ (absorbed (tally _ _) _ _) _ _ _
    c.settle-count.ensures c.raised-limit.ensures c.spread-level.ensures.marked)
    c.raised-limit.ensures) refl)
    (same_tables _ _ _ _ _ _ (search rules) (search rules) (search rules))
    (same_marks _ _ _ _ _ _ _ (search rules) (search rules) (search rules))

pub returns-clause-level : goal.returns-clause-level
returns-clause-level c =
    subst (AreLevel _ _) (sym (same_marks _ _ _ _ _ _ _ (search rules) (search rules) (search rules))) c.spread-level.ensures.level
