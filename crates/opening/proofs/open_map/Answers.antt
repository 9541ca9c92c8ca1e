-- `opening::open_map` meets its contract: with the code in the open set and its links in place the memory holds the new network, and the figures
-- that the step leaves are its opening's.
use native.Mathlib.Omega.{arith}
use Rattle.map.specs.Memory.{base}
use Rattle.map.proofs.Theorems.{base_shape}
use Rattle.map.proofs.Longs.{are_long_lem}
use Rattle.update.proofs.Grants.{granted_long}
use Rattle.opening.proofs.Placed.{figurable, opened_is}
use borrow.Author.Rules.{rules}
use Rattle.opening.proofs.open_map.Goals as goal

pub link_depot-requires : goal.link_depot-requires
link_depot-requires c =
    (search rules, search rules, (are_long_lem base _ (granted_long base base_shape _ _ _ _ _ c.requires)).links)

pub invariant_of-plan : goal.invariant_of-plan
invariant_of-plan c =
    let kept =
    figurable base base_shape _ _ _ _ _ _ _ _ _ _ _ c.requires c.ranges.code.fits
    (λ k l. (c.shared_slice_known-1.given k).fits) _ _ _ c.put_code.ensures
    c.put_yard.ensures c.link_depot.ensures _ (omega arith)
    (omega arith) c.keep_delivering.ensures in
    record { are = kept.are }

pub refigure-got-requires : goal.refigure-got-requires
refigure-got-requires c =
    let long = are_long_lem base _ (granted_long base base_shape _ _ _ _ _ c.requires) in (
      search rules,
      figurable base base_shape _ _ _ _ _ _ _ _ _ _ _ c.requires c.ranges.code.fits
          (λ k l. (c.type_inv.neighbours k).fits) _ _ _ c.put_code.ensures
          c.put_yard.ensures c.link_depot.ensures _ (omega arith)
          (omega arith) c.keep_delivering.ensures,
      search rules,
    )

pub returns-clause-left : goal.returns-clause-left
returns-clause-left c =
    opened_is base base_shape _ _ _ _ _ _ _ _ _ _ _ c.requires c.ranges.code.fits
    (λ k l. (c.type_inv.neighbours k).fits) _ _ _ c.put_code.ensures
    c.put_yard.ensures c.link_depot.ensures _ (omega arith)
    (omega arith) c.keep_delivering.ensures _ _ c.refigure-got.ensures.left
