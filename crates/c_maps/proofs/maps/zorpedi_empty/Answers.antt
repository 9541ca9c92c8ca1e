-- `c_maps::maps::zorpedi_empty` meets its contract: short, done or refused, as the call that it wraps.
use Rattle.c_values.specs.Outs.{handed}
use Rattle.c_maps.proofs.Answers.{empty_called}
use Rattle.c_maps.proofs.maps.zorpedi_empty.Goals as goal

pub returns-in-Ok : goal.returns-in-Ok
unfolding handed
returns-in-Ok c = rw c.put_record.ensures (empty_called _ _ _ c.if-words-lt-RECORD_WORDS.false c.in-Ok.ensures)

pub returns-in-Err : goal.returns-in-Err
unfolding handed
returns-in-Err c =
    rw c.number-in-Err.ensures (empty_called _ _ _ c.if-words-lt-RECORD_WORDS.false c.in-Err.ensures)
