-- `decimal::put_field` meets its contract: the space, and the number behind it.
use Rattle.decimal.proofs.Numbers.{field_fits}
use Rattle.decimal.proofs.put_field.Goals as goal

pub returns : goal.returns
returns c = search field_fits
