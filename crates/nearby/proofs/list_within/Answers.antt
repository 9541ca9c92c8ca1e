-- `nearby::list_within` meets its contract. The loop's invariant: of the depots that came those that pass are written.
use mathlib.Core.Path.{ap, ◌∙◌}
use mathlib.Core.List.{[]}
use native.Mathlib.Omega.{arith}
use Rattle.map.specs.Depots.{depots_left}
use Rattle.map.proofs.Depots.{depot_more, depot_in, depot_below}
use Rattle.map.proofs.Theorems.{network_most}
use Rattle.nearby.proofs.Writing.{writing_none, writing_few, writing_room, writing_more}
use Rattle.nearby.proofs.list_within.Goals as goal

pub loop-v-init : goal.loop-v-init
loop-v-init c = (ap depots_left c.into_iter-v-iterator.ensures.into_iter_gives ∙ c.open_depots-v-items.ensures, writing_none _ _)

-- its hop stands in the table
pub bounds-scratch-v : goal.bounds-scratch-v
bounds-scratch-v c =
    omega (arith, c.requires.0, depot_below 4 c.args.members.now [] (depot_in c.loop-v.yielded _ c.loop-v.invariant.0 c.in-Some.ensures.steps))

pub offset_bounds-scratch-v : goal.offset_bounds-scratch-v
offset_bounds-scratch-v c =
    omega (arith, depot_below 4 c.args.members.now [] (depot_in c.loop-v.yielded _ c.loop-v.invariant.0 c.in-Some.ensures.steps))

pub put_near-count-requires : goal.put_near-count-requires
put_near-count-requires c =
    let w = c.loop-v.invariant in
    let next = c.in-Some.ensures.steps in
    let room = writing_room _ _ _ w.1 _ _ (depot_more c.loop-v.yielded _ w.0 next) in (
      λ l. omega (arith, room, network_most 4 c.args.members.now [], c.requires.1, c.loop-v.auto.codes),
      depot_below 4 c.args.members.now [] (depot_in c.loop-v.yielded _ w.0 next),
    )

pub loop-v-preserved : goal.loop-v-preserved
loop-v-preserved c =
    let w = c.loop-v.invariant in
    let more = depot_more c.loop-v.yielded _ w.0 c.in-Some.ensures.steps in
    let room = writing_room _ _ _ w.1 _ _ more in
    (more, writing_more _ _ _ w.1 _ (omega (arith, room, network_most 4 c.args.members.now [], c.requires.1)) c.put_near-count.ensures)

pub overflow_cast-result : goal.overflow_cast-result
overflow_cast-result c =
    omega (arith, writing_few _ _ _ c.loop-v.invariant.1 _ c.loop-v.invariant.0, network_most 4 c.args.members.now [])
