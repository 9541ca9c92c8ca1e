-- `admission::link_depot` meets its contract. The loop's invariant: the table is the old one with the links to the neighbours so far.
use mathlib.Core.Path.{◌≡◌}
use lib.ListN.{take}
use Rattle.admission.proofs.Linking.{with_links}
use Rattle.admission.proofs.link_depot.Given as goal

abbrev pub invariant-loop-neighbour : goal.invariant-loop-neighbour
invariant-loop-neighbour l = l.links ≡ with_links l.words l.code (take l.neighbour-index l.neighbours) l.initial.links
