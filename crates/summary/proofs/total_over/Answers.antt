-- `summary::total_over` meets its contract. The loop's invariant: what is done, with the targets that are left, gives what all give.
use mathlib.Core.Path.{ap, ◌∙◌}
use mathlib.Core.List.{List, []}
use Prim.Native.Nat.{ℕ}
use native.Mathlib.Omega.{arith}
use lib.ListN.{get_or}
use borrow.Author.Rules.{rules}
use Rattle.lists.proofs.Fills.{fill_at}
use Rattle.map.specs.Depots.{depots_left}
use Rattle.map.proofs.Depots.{depot_more, depot_in, depot_below}
use Rattle.map.proofs.Theorems.{network_most}
use Rattle.summary.specs.Steps.{tally_of}
use Rattle.summary.specs.declared.Tally.{Tally}
use Rattle.summary.proofs.Totalling.{totalling_none, totalling_all, totalling_sum, totalling_pairs}
use Rattle.summary.proofs.Totalling.{totalling_room, totalling_more, total_all, ecc_small, sum_small, pairs_small}
use Rattle.summary.proofs.total_over.Goals as goal

pub loop-u-init : goal.loop-u-init
loop-u-init c =
    let start = ap depots_left c.into_iter-u-iterator.ensures.into_iter_gives ∙ c.open_depots-u-items.ensures in (
      totalling_none _ 4 _ _ _ _ start (network_most 4 c.args.targets.now [])
          (λ e h. ap (λ (l : List ℕ). get_or l e 0) c.fill.ensures ∙ fill_at (λ v. 0) c.args.counts.now 256 e 0 h),
      start,
      search rules,
      search rules,
    )

pub returns-clause-left : goal.returns-clause-left
returns-clause-left c =
    total_all 4 _ _ _ _ c.fill.ensures (totalling_all _ 4 _ _ _ _ c.loop-u.invariant.0 c.in-None.ensures.steps.0)

-- the next target's eccentricity has a place in the counts
pub search_target-t-requires : goal.search_target-t-requires
search_target-t-requires c =
    let w = c.loop-u.invariant in
    let place = ecc_small 4 _ _ c.requires.2 _ (depot_in c.loop-u.yielded _ w.1 c.in-Some.ensures.steps) in (
      search rules,
      c.requires.3,
      omega (arith, w.3, c.fill.auto, c.requires.1, place),
      omega (arith, place),
      totalling_room _ 4 _ _ _ _ w.0 c.in-Some.ensures.steps _ place,
      depot_below 4 c.args.targets.now [] (depot_in c.loop-u.yielded _ w.1 c.in-Some.ensures.steps),
    )

pub overflow_add-sum : goal.overflow_add-sum
overflow_add-sum c =
    let e = ap (λ (t : Tally). t.sum) c.search_target-t.ensures.left.0 in
    omega (arith, e, totalling_sum _ 4 _ _ _ _ c.loop-u.invariant.0 c.in-Some.ensures.steps, sum_small 4 _ _ c.requires.2)

pub overflow_add-pairs : goal.overflow_add-pairs
overflow_add-pairs c =
    let e = ap (λ (t : Tally). t.pairs) c.search_target-t.ensures.left.0 in
    omega (arith, e, totalling_pairs _ 4 _ _ _ _ c.loop-u.invariant.0 c.in-Some.ensures.steps, pairs_small 4 _ _ c.requires.2)

pub loop-u-preserved : goal.loop-u-preserved
unfolding tally_of
loop-u-preserved c =
    let w = c.loop-u.invariant in
    let left = c.search_target-t.ensures.left in
    let kept = c.search_target-t.auto in
    let place = ecc_small 4 _ _ c.requires.2 _ (depot_in c.loop-u.yielded _ w.1 c.in-Some.ensures.steps) in (
      totalling_more _ 4 _ _ _ _ w.0 c.in-Some.ensures.steps (omega (arith, w.3, c.fill.auto, c.requires.1, place)) left.0 left.1 left.2,
      depot_more c.loop-u.yielded _ w.1 c.in-Some.ensures.steps,
      search rules,
      omega (arith, w.3, kept),
    )
