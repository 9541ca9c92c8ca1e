-- `opening::put_yard` meets its contract: a yard's bit is put, and any other row is what its bits encode.
use native.Mathlib.Omega.{arith}
use Rattle.rows.proofs.Wholes.{row_whole}
use Rattle.opening.proofs.Placed.{code_put}
use Rattle.opening.proofs.put_yard.Goals as goal

pub returns-then-yard : goal.returns-then-yard
returns-then-yard c = rw c.if-yard.true (grind (arith, code_put))

pub returns-else-yard : goal.returns-else-yard
returns-else-yard c = rw c.if-yard.false (row_whole _ _ c.requires (λ i l. grind arith))
