-- `sentences::put_sentence` meets its contract: start, middle and figures, one behind another.
use native.Mathlib.Omega.{arith}
use Rattle.decimal.proofs.Places.{placed_join}
use Rattle.sentences.specs.Sentence.{sentence_of}
use Rattle.sentences.proofs.put_sentence.Goals as goal

pub returns-clause-placed : goal.returns-clause-placed
unfolding sentence_of
returns-clause-placed c = placed_join (placed_join c.put_event-a.ensures.placed c.put_outcome-b.ensures.placed (omega arith))
    c.put_figures.ensures (omega arith)
