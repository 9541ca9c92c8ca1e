-- `linking::link_map` meets its contract: with the link in place the memory holds the new network, and the figures that the step leaves are its link's.
use native.Mathlib.Omega.{arith}
use Rattle.map.specs.Memory.{base}
use Rattle.map.proofs.Theorems.{base_shape}
use Rattle.map.proofs.Longs.{are_long_lem}
use Rattle.update.proofs.Grants.{granted_long}
use Rattle.linking.proofs.Joined.{relinkable, stored_few, joined_is}
use borrow.Author.Rules.{rules}
use Rattle.linking.proofs.link_map.Goals as goal

pub link_codes-requires : goal.link_codes-requires
link_codes-requires c = (
  search rules,
  search rules,
  (are_long_lem base _ (granted_long base base_shape _ _ _ _ _ c.requires)).links,
)

pub invariant_of-plan : goal.invariant_of-plan
invariant_of-plan c =
    let kept =
    relinkable base base_shape _ _ _ _ _ _ _ _ _ _ c.requires _ c.link_codes.ensures _ (omega arith)
    (omega arith) c.keep_targets.ensures.kept in
    record { are = kept.are }

pub relink_codes-got-requires : goal.relink_codes-got-requires
relink_codes-got-requires c =
    let lent = are_long_lem base _ (granted_long base base_shape _ _ _ _ _ c.requires) in (
      search rules,
      relinkable base base_shape _ _ _ _ _ _ _ _ _ _ c.requires _ c.link_codes.ensures _ (omega arith)
          (omega arith) c.keep_targets.ensures.kept,
      stored_few base base_shape _ _ _ _ _ _ _ _ _ _ c.requires,
    )

pub returns-clause-left : goal.returns-clause-left
returns-clause-left c =
    joined_is base base_shape _ _ _ _ _ _ _ _ _ _ c.requires _ c.link_codes.ensures _ (omega arith)
    (omega arith) c.keep_targets.ensures.kept
    c.keep_targets.ensures.members c.keep_targets.ensures.yards _ _ c.relink_codes-got.ensures.left
