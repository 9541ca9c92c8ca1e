-- `rows::degree` meets its contract: after j words the sum is the count of the members below 64 * j.
use mathlib.Core.Path.{◌≡◌}
use Prim.Native.Nat.{◌*◌}
use Rattle.lists.specs.Lists.{range, countb}
use Rattle.rows.specs.Rows.{table_bit}
use Rattle.rows.proofs.degree.Given as goal

abbrev pub invariant-loop-x : goal.invariant-loop-x
invariant-loop-x l = l.sum ≡ countb (table_bit l.words l.t l.u) (range (64 * l.x-index))
