-- `layers::search_table` meets its contract. The loop's invariant is `AtLayer` (Searching.antt): layer k is not empty, and hops, rows and codes left are
-- those of k layers. Each layer adds a code, so k stays below the number of codes, which gives the measure.
use Prim.Native.Nat.{◌-◌, ◌*◌}
use Rattle.map.specs.Room.{tables}
use Rattle.layers.proofs.Searching.{AtLayer}
use Rattle.layers.proofs.search_table.Given as goal

abbrev pub invariant-loop-hops : goal.invariant-loop-hops
invariant-loop-hops l =
    AtLayer l.words l.links l.start l.members (tables l.initial.hops l.initial.even l.initial.odd) l.initial.left
    l.k l.hops l.even l.odd l.left

abbrev pub decreases-loop-hops : goal.decreases-loop-hops
decreases-loop-hops l = 64 * l.words - l.k
