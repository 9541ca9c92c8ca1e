-- `decimal::put_long` meets its contract: from the last digit to the first, two a turn, each pair before those that stand. The measure is what is left of the
-- number.
use Rattle.decimal.proofs.Numbers.{fill_end}
use Rattle.decimal.proofs.put_long.Goals as goal

pub returns : goal.returns
returns c = search fill_end
