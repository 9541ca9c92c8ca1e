-- `sentences::read_event` meets its contract: the first start that stands there, the others being looked for in the same order.
use Rattle.sentences.specs.Reading.{read_event}
use Rattle.sentences.proofs.read_event.Goals as goal

pub returns-in-Some-read_half : goal.returns-in-Some-read_half
unfolding read_event
returns-in-Some-read_half c = rw (← c.in_default.ensures, ← c.in-Some-read_half.ensures)

pub returns-in-Some-read_half-2 : goal.returns-in-Some-read_half-2
unfolding read_event
returns-in-Some-read_half-2 c = rw (← c.in_default.ensures, ← c.in_default-read_half.ensures, ← c.in-Some-read_half-2.ensures)
