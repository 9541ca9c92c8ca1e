-- `insertion::refigure` meets its contract: the search is the network's; an eccentricity above the chain is the case grew, any other is `settle_low`.
use native.Mathlib.Omega.{arith}
use Rattle.rounds.proofs.Turns.{same_tables}
use Rattle.insertion.proofs.Cases.{search_stands, figured_first, grew_is}
use Rattle.map.specs.Memory.{base}
use Rattle.map.proofs.Theorems.{base_shape}
use Rattle.layers.proofs.Ends.{yards_hold_ends}
use borrow.Author.Rules.{rules}
use Rattle.insertion.proofs.refigure.Goals as goal

pub search_sound-depth-requires : goal.search_sound-depth-requires
search_sound-depth-requires c =
    let pre = c.requires.1 in
    (search rules, yards_hold_ends 4 _ _ pre.are.member_row _ pre.net.sound, c.requires.2)

pub returns-then-stored-span-clause-left : goal.returns-then-stored-span-clause-left
returns-then-stored-span-clause-left c =
    let pre = c.requires.1 in
    let found = c.search_sound-depth.ensures.left in
    figured_first base base_shape _ _ _ pre.are _ _ _ _ _ pre.net pre.present found _ _ _ _ _
    (grew_is base _ _ _ _ _ _ _
    (search_stands base base_shape _ _ _ pre.are _ _ _ _ _ pre.net pre.present found _ c.reach_by-span.ensures
    (same_tables _ _ _ _ _ _ (search rules) (search rules) (search rules)))
    c.if-stored-span.true _ _ _ _ c.join-own.ensures)
    (same_tables _ _ _ _ _ _ (search rules) (search rules) (search rules))

pub settle_low-requires : goal.settle_low-requires
settle_low-requires c =
    let pre = c.requires.1 in (
      search rules,
      search rules,
      record { ends = pre.ends },
      search_stands base base_shape _ _ _ pre.are _ _ _ _ _ pre.net pre.present c.search_sound-depth.ensures.left _ c.reach_by-span.ensures
          (same_tables _ _ _ _ _ _ (search rules) (search rules) (search rules)),
      c.requires.2,
      omega (arith, c.if-stored-span.false),
      omega (arith, pre.counted),
    )

pub returns-clause-left : goal.returns-clause-left
returns-clause-left c =
    let pre = c.requires.1 in
    figured_first base base_shape _ _ _ pre.are _ _ _ _ _ pre.net pre.present c.search_sound-depth.ensures.left _ _ _ _ _
    c.settle_low.ensures.left (same_tables _ _ _ _ _ _ (search rules) (search rules) (search rules))
