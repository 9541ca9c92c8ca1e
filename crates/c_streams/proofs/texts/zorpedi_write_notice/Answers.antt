-- `c_streams::texts::zorpedi_write_notice` meets its contract.
use Rattle.c_streams.specs.Lines.{length_from}
use Rattle.c_streams.proofs.Lines.{write_out_lem}
use Rattle.c_streams.proofs.texts.zorpedi_write_notice.Goals as goal

pub returns-in-Ok : goal.returns-in-Ok
unfolding length_from
returns-in-Ok c = write_out_lem _ _ _ c.in-Ok.ensures

pub returns-in-Err : goal.returns-in-Err
unfolding length_from
returns-in-Err c = rw c.number.ensures (write_out_lem _ _ _ c.in-Err.ensures)
