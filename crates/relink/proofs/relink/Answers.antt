-- `relink::relink` meets its contract: the two searches are the network's, and `settle` goes on from them.
use Rattle.map.specs.Memory.{base}
use Rattle.map.proofs.Theorems.{base_shape}
use Rattle.layers.proofs.Ends.{yards_hold_ends}
use Rattle.rounds.proofs.Turns.{same_tables}
use Rattle.relink.proofs.Cases.{both_stand, relinked_first}
use borrow.Author.Rules.{rules}
use Rattle.relink.proofs.relink.Goals as goal

pub search_sound-d-requires : goal.search_sound-d-requires
search_sound-d-requires c =
    let pre = c.requires.1 in
    (search rules, yards_hold_ends 4 _ _ pre.are.member_row _ pre.net.sound, c.requires.2)

pub search_sound-b-requires : goal.search_sound-b-requires
search_sound-b-requires c =
    let pre = c.requires.1 in
    (search rules, yards_hold_ends 4 _ _ pre.are.member_row _ pre.net.sound, c.requires.3)

pub settle-requires : goal.settle-requires
settle-requires c =
    let pre = c.requires in (
      search rules,
      record { ends = pre.1.ends },
      search rules,
      both_stand base base_shape _ _ _ pre.1.are _ _ _ _ _ _ _ _ _ _ pre.1.net pre.1.lower pre.1.higher pre.1.apart
          c.search_sound-d.ensures.left c.search_sound-b.ensures.left _ _ _
          c.reach_by-e.ensures c.reach_by-f.ensures (same_tables _ _ _ _ _ _ (search rules) (search rules) (search rules)) (search rules)
          (same_tables _ _ _ _ _ _ (search rules) (search rules) (search rules)),
      pre.4,
    )

pub returns-clause-left : goal.returns-clause-left
returns-clause-left c =
    let pre = c.requires in
    relinked_first base base_shape _ _ _ pre.1.are _ _ _ _ _ _ pre.1.net _ _ _ _ _ pre.1.higher
    c.search_sound-b.ensures.left c.settle.ensures.left (same_tables _ _ _ _ _ _ (search rules) (search rules) (search rules))
