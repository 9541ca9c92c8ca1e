-- `sentences::put_part` meets its contract: the number stands behind the text.
use native.Mathlib.Omega.{arith}
use Rattle.decimal.proofs.Places.{placed_join}
use Rattle.sentences.proofs.put_part.Goals as goal

pub returns : goal.returns
returns c = placed_join c.put_text-next.ensures c.put_number.ensures (omega arith)
