-- `summary::total_over` meets its contract. The loop's invariant: what is done, with the targets that are left, gives what all give.
use mathlib.Core.Path.{◌≡◌}
use mathlib.Core.List.{[], ◌++◌}
use lib.ListN.{length}
use Rattle.graph.specs.Distance.{vertices, dist}
use Rattle.map.specs.Memory.{network_of, table_network}
use Rattle.map.specs.Depots.{depots_left}
use Rattle.map.specs.Slices.{tables_in, IsSameScratch}
use Rattle.summary.specs.Steps.{tally_of}
use Rattle.summary.proofs.Totalling.{IsTotalling}
use Rattle.summary.proofs.total_over.Given as goal

abbrev pub invariant-loop-u : goal.invariant-loop-u
invariant-loop-u l =
    let N = table_network 4 l.links in
    let G = network_of 4 l.targets [] in
    IsTotalling (λ u. tally_of (dist N u) u (vertices G)) 4 N G (tables_in l.initial.scratch) l.initial.counts l.sum
    l.pairs (tables_in l.scratch) l.counts (depots_left l.u-iterator)
    × (l.yielded ++ depots_left l.u-iterator ≡ vertices G)
    × IsSameScratch l.initial.scratch l.scratch
    × (length l.counts ≡ length l.initial.counts)
