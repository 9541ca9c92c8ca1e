-- `c_streams::streams::zorpedi_finish` meets its contract: refused, or the end of crate stream's stream on the record in the words.
use borrow.Author.Rules.{rules}
use Rattle.outcome.proofs.Numbering.{refuses}
use Rattle.c_values.proofs.Lent.{same_lent}
use Rattle.c_values.proofs.Refusals.{step_room}
use Rattle.c_streams.proofs.Steps.{finish_refused, step_ready, finish_done, fed_lent}
use Rattle.c_streams.proofs.streams.zorpedi_finish.Goals as goal

pub record_of-rec-requires : goal.record_of-rec-requires
record_of-rec-requires c = step_room _ _ _ _ _ _ _ c.in_default.ensures

pub finish-fed-requires : goal.finish-fed-requires
finish-fed-requires c = step_ready _ _ _ _ _ _ _ _ _ _ _ _ c.in_default.ensures c.record_of-rec.ensures

pub put_record-requires : goal.put_record-requires
put_record-requires c = step_room _ _ _ _ _ _ _ c.in_default.ensures

pub returns : goal.returns
returns c =
    fed_lent
    (finish_done _ _ _ _ _ _ _ _ _ _ _ _ _ _ c.in_default.ensures c.record_of-rec.ensures c.finish-fed.result
    _ _ _ _ _ c.put_record.ensures c.finish-fed.ensures.left)
    (search (rules, same_lent))

pub returns-in-Err : goal.returns-in-Err
returns-in-Err c = rw c.number.ensures (finish_refused _ _ _ _ _ _ _ _ _ _ _ _ _ _ c.in-Err.ensures (refuses _))
