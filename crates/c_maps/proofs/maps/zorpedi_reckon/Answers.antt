-- `c_maps::maps::zorpedi_reckon` meets its contract: short, done or refused, as the call that it wraps.
use borrow.Author.Rules.{rules}
use Rattle.c_values.proofs.Lent.{same_lent}
use Rattle.c_values.specs.Outs.{handed}
use Rattle.c_maps.proofs.Answers.{reckon_called}
use Rattle.c_maps.proofs.maps.zorpedi_reckon.Goals as goal

pub returns-in-Ok : goal.returns-in-Ok
unfolding handed
returns-in-Ok c =
    rw c.put_record.ensures (reckon_called _ _ _ _ c.if-words-lt-RECORD_WORDS.false
    c.record_of-rec.ensures c.in-Ok.ensures.left (search (rules, same_lent)))

pub returns-in-Err : goal.returns-in-Err
unfolding handed
returns-in-Err c =
    rw c.number-in-Err.ensures (reckon_called _ _ _ _ c.if-words-lt-RECORD_WORDS.false
    c.record_of-rec.ensures c.in-Err.ensures.left (search (rules, same_lent)))
