-- `c_streams::streams::zorpedi_feed` meets its contract: refused, or the step of crate stream on the record in the words.
use borrow.Author.Rules.{rules}
use Rattle.outcome.proofs.Numbering.{refuses}
use Rattle.c_values.proofs.Lent.{same_lent}
use Rattle.c_values.proofs.Refusals.{step_room}
use Rattle.c_streams.proofs.Steps.{feed_refused, step_ready, feed_done, fed_lent}
use Rattle.c_streams.proofs.streams.zorpedi_feed.Goals as goal

pub record_of-rec-requires : goal.record_of-rec-requires
record_of-rec-requires c = step_room _ _ _ _ _ _ _ c.in_default.ensures

pub feed-fed-requires : goal.feed-fed-requires
feed-fed-requires c = step_ready _ _ _ _ _ _ _ _ _ _ _ _ c.in_default.ensures c.record_of-rec.ensures

pub put_record-requires : goal.put_record-requires
put_record-requires c = step_room _ _ _ _ _ _ _ c.in_default.ensures

pub returns : goal.returns
returns c =
    fed_lent
    (feed_done _ _ _ _ _ _ _ _ _ _ _ _ _ _ c.in_default.ensures c.record_of-rec.ensures c.feed-fed.result
    _ _ _ _ _ c.put_record.ensures _ c.feed-fed.ensures.left)
    (search (rules, same_lent))

pub returns-in-Err : goal.returns-in-Err
returns-in-Err c = rw c.number.ensures (feed_refused _ _ _ _ _ _ _ _ _ _ _ _ _ _ _ c.in-Err.ensures (refuses _))
