-- `c_streams::texts::zorpedi_read_notice` meets its contract.
use Rattle.c_streams.specs.Lines.{frame_from}
use Rattle.c_streams.proofs.Lines.{read_out_lem}
use Rattle.c_streams.proofs.texts.zorpedi_read_notice.Goals as goal

pub returns-in-Ok : goal.returns-in-Ok
unfolding frame_from
returns-in-Ok c = read_out_lem _ _ _ c.in-Ok.ensures

pub returns-in-Err : goal.returns-in-Err
unfolding frame_from
returns-in-Err c = rw c.number.ensures (read_out_lem _ _ _ c.in-Err.ensures)
