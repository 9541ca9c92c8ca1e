-- `c_updates::updates::change` meets its contract: short, or the call that it wraps, handed over.
use Rattle.c_updates.proofs.UpdateOuts.{update_done}
use Rattle.c_updates.proofs.updates.change.Goals as goal

pub returns-clause-left : goal.returns-clause-left
returns-clause-left c =
    update_done _ _ _ _ _ c.if-words-lt-RECORD_WORDS.false c.record_of-rec.ensures _ c.step-got.ensures.left c.hand_over.ensures
