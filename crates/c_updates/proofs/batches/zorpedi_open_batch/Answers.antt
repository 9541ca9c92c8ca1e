-- `c_updates::batches::zorpedi_open_batch` meets its contract: short, done or refused, as the call that it wraps.
use borrow.Author.Rules.{rules}
use Rattle.c_values.proofs.Lent.{same_lent}
use Rattle.c_updates.specs.BatchOuts.{batch_from}
use Rattle.c_updates.proofs.BatchOuts.{batch_called, batch_lent}
use Rattle.c_updates.proofs.batches.zorpedi_open_batch.Goals as goal

pub returns-in-Ok : goal.returns-in-Ok
unfolding batch_from
returns-in-Ok c =
    rw c.put_record.ensures (batch_lent
    (batch_called _ _ _ _ _ _ c.if-words-lt-RECORD_WORDS.false c.record_of-rec.ensures c.in-Ok.ensures.left)
    (search (rules, same_lent)))

pub returns-in-Err : goal.returns-in-Err
unfolding batch_from
returns-in-Err c =
    rw c.number-in-Err.ensures (batch_lent
    (batch_called _ _ _ _ _ _ c.if-words-lt-RECORD_WORDS.false c.record_of-rec.ensures c.in-Err.ensures.left)
    (search (rules, same_lent)))
