-- `narration::Sentences` tells a line that spells a frame by the sentence of its event.
use mathlib.Core.Path.{ap}
use Rattle.std.specs.Prelude.{option_copied}
use Rattle.narration.proofs.Putting.{told_frame}
use Rattle.narration.proofs.SentencesTells.put.Goals as goal

pub returns-in-Some : goal.returns-in-Some
returns-in-Some c =
    told_frame _ _ _ (ap option_copied c.in-Some.is) c.event_in.ensures c.said_on.ensures c.put_sentence.ensures c.requires.room
