-- `c_streams::texts::zorpedi_report` meets its contract: the line of the answer's outcome; a refused call keeps the lent number.
use Rattle.c_streams.specs.Lines.{length_from}
use Rattle.c_streams.proofs.Lines.{report_out_lem}
use Rattle.c_streams.proofs.texts.zorpedi_report.Goals as goal

pub returns-in-Ok : goal.returns-in-Ok
unfolding length_from
returns-in-Ok c = report_out_lem _ _ _ _ _ _ c.outcome_of-outcome.ensures _ _ c.in-Ok.ensures

pub returns-in-Err : goal.returns-in-Err
unfolding length_from
returns-in-Err c = rw c.number.ensures (report_out_lem _ _ _ _ _ _ c.outcome_of-outcome.ensures _ _ c.in-Err.ensures)
