-- `decimal::put_short` meets its contract: where it is not one digit it is two.
use Rattle.decimal.proofs.Numbers.{two_put}
use Rattle.decimal.proofs.put_short.Goals as goal

pub returns : goal.returns
returns c = search two_put
