-- `sentences::read_outcome` meets its contract: the first middle that stands there, the others being looked for in the same order.
use Rattle.sentences.specs.Reading.{read_outcome}
use Rattle.sentences.proofs.read_outcome.Goals as goal

pub returns : goal.returns
unfolding read_outcome
returns c = rw (← c.in_default.ensures, ← c.in_default-skip.ensures, ← c.in_default-skip-2.ensures, ← c.in_ok-n.ensures)
