-- `sentences::write_sentence` meets its contract: the sentence stands at the start of the line.
use native.Mathlib.Omega.{arith}
use Rattle.sentences.proofs.Calls.{call_done}
use Rattle.sentences.proofs.write_sentence.Goals as goal

pub returns : goal.returns
returns c = call_done c.args.said c.put_sentence.ensures.placed (omega arith)
