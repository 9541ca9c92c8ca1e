-- `nearby::nearest_listed` meets its contract. The loop's invariant: what is found so far with the rest of the list gives what the whole list gives.
use Prim.Native.Nat.{◌<◌}
use lib.ListN.{get_or}
use Rattle.rows.specs.Rows.{row_bit}
use Rattle.nearby.proofs.Choosing.{IsChoosing}
use Rattle.nearby.proofs.nearest_listed.Given as goal

abbrev pub invariant-loop-code : goal.invariant-loop-code
invariant-loop-code l = IsChoosing (λ u. get_or l.hops u 0) (row_bit 4 l.members) l.listed l.first l.found l.code-index × (l.found < 256)
