-- `decimal::put_number` meets its contract: three digits are one, and two behind it.
use native.Mathlib.Omega.{arith}
use Rattle.decimal.proofs.Numbers.{three_length, three_put}
use Rattle.decimal.proofs.put_number.Goals as goal

pub returns-then-n-lt1000 : goal.returns-then-n-lt1000
returns-then-n-lt1000 c = three_put _ c.put_two.ensures (omega arith) (omega arith) (omega (arith, three_length c.args.n (omega arith) (omega arith)))
