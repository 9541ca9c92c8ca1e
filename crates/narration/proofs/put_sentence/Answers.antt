-- `narration::put_sentence` meets its contract: the part that is lent takes the sentence, and the line's end stands behind it.
use native.Mathlib.Omega.{arith}
use Rattle.narration.proofs.Putting.{line_put}
use Rattle.narration.proofs.put_sentence.Goals as goal

pub returns : goal.returns
returns c = line_put _ _ c.args.at _ (omega arith) c.requires c.put_said.ensures.over c.put_said.auto.lent c.put_said.ensures.long
