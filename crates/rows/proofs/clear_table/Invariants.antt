-- `rows::clear_table` meets its contract: after g turns the first g groups are 0.
use mathlib.Core.Path.{◌≡◌}
use mathlib.Core.List.{◌++◌}
use Prim.Native.Nat.{◌*◌}
use lib.ListN.{drop, replicate}
use Rattle.rows.proofs.clear_table.Given as goal

abbrev pub invariant-loop-g : goal.invariant-loop-g
invariant-loop-g l = l.t ≡ replicate (64 * l.g) 0 ++ drop (64 * l.g) l.initial.t
