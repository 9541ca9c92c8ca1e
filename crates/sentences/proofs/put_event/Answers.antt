-- `sentences::put_event` meets its contract: each kind has its start, and a code takes five digits at most.
use mathlib.Core.Path.{sym, ap}
use native.Mathlib.Omega.{arith}
use Rattle.decimal.proofs.Places.{placed_join, placed_text}
use Rattle.sentences.specs.Sentence.{start_of}
use Rattle.sentences.proofs.put_event.Goals as goal

pub returns-in-Link-clause-placed : goal.returns-in-Link-clause-placed
unfolding start_of
returns-in-Link-clause-placed c = placed_text (placed_join c.put_part-next.ensures c.put_part-in-Link.ensures (omega arith)) (sym (ap start_of c.in-Link.is))
