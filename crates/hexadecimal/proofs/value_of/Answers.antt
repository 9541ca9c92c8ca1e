-- `hexadecimal::value_of` meets its contract: the table is held against its definition at each of the 256 bytes, by computing.
use mathlib.Core.Path.{refl}
use native.Mathlib.Omega.{arith}
use lib.ListN.{get_or}
use Rattle.hexadecimal.specs.declared.TheConstants.{VALUES}
use Rattle.hexadecimal.specs.Table.{value_or_none}
use Rattle.hexadecimal.specs.Hex.{is_digit, digit_value}
use Rattle.hexadecimal.proofs.Values.{agree_below, agree_at}
use Rattle.hexadecimal.proofs.value_of.Goals as goal

pub returns : goal.returns
unfolding agree_below value_or_none is_digit digit_value
returns c = agree_at (λ k. get_or VALUES k 0) value_or_none 256 refl c.args.c (omega arith)
