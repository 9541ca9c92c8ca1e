-- `summaries::put_refusal` meets its contract: the letter, the number behind it, and the line's end.
use native.Mathlib.Omega.{arith}
use Rattle.summaries.proofs.Lines.{widths, refusal_placed}
use Rattle.summaries.proofs.put_refusal.Goals as goal

pub returns : goal.returns
returns c = refusal_placed _ _ _ c.put_number-end.ensures (omega arith) (grind (arith, widths))
