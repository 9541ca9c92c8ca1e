-- `nearby::list_within` meets its contract. The loop's invariant: of the depots that came those that pass are written.
use mathlib.Core.Path.{◌≡◌}
use mathlib.Core.List.{[], ◌++◌}
use lib.Dec.{leb}
use lib.ListN.{get_or}
use Rattle.lists.specs.Lists.{filterb}
use Rattle.graph.specs.Distance.{vertices}
use Rattle.map.specs.Memory.{network_of}
use Rattle.map.specs.Depots.{depots_left}
use Rattle.nearby.specs.Steps.{codes_listed, list_over}
use Rattle.nearby.proofs.list_within.Given as goal

abbrev pub invariant-loop-v : goal.invariant-loop-v
invariant-loop-v l =
    (l.yielded ++ depots_left l.v-iterator ≡ vertices (network_of 4 l.members []))
    × (codes_listed l.count l.codes ≡ list_over (filterb (λ v. leb (get_or l.scratch.hops.now v 0) l.k) l.yielded) l.initial.codes)
