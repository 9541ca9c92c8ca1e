-- `decimal::put_two` meets its contract: the two digits, one behind the other.
use native.Mathlib.Omega.{arith}
use Rattle.decimal.proofs.Numbers.{two_placed}
use Rattle.decimal.proofs.put_two.Goals as goal

pub returns : goal.returns
returns c = two_placed _ _ _ (omega arith)
