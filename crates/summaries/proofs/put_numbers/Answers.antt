-- `summaries::put_numbers` meets its contract: the four numbers and the line's end, each behind the one before it. 84 bytes hold them.
use native.Mathlib.Omega.{arith}
use Rattle.summaries.proofs.Lines.{widths, numbers_placed}
use Rattle.summaries.proofs.put_numbers.Goals as goal

pub returns : goal.returns
returns c =
    numbers_placed _ c.put_number-a.ensures c.put_field-b.ensures c.put_field-c.ensures c.put_field-d.ensures (omega arith) (grind (arith, widths))
