-- `nearby::nearest_listed` meets its contract. The loop's invariant: what is found so far with the rest of the list gives what the whole list gives.
use mathlib.Core.Path.{sym, ◌∙◌}
use lib.ListN.{get_or}
use Rattle.nearby.proofs.Choosing.{choosing_took, choosing_passed, nearer_below}
use Rattle.nearby.proofs.nearest_listed.Goals as goal
use Rattle.nearby.proofs.nearest_listed.Goals.{then-is_open, else-is_open}

pub loop-v-preserved : goal.loop-v-preserved
loop-v-preserved c =
    let w = c.loop-v.invariant in
    let small = (c.type_inv.listed c.loop-v.v-index).fits in
    elim c.if-is_open.branch [
      | then-is_open x ↦
          let is = x.found-is ∙ x.nearer-found.ensures in (
            choosing_took _ _ _ _ w.0 c.loop-v-test.true (sym c.is_open.ensures ∙ x.if-is_open.true) is,
            rw is (nearer_below (λ u. get_or c.args.scratch.now.hops.now u 0) _ _ 256 w.1 small),
          )
      | else-is_open x ↦ (
        choosing_passed _ _ _ _ w.0 c.loop-v-test.true (sym c.is_open.ensures ∙ x.if-is_open.false) x.found-is,
        rw x.found-is w.1,
      )
    ]
