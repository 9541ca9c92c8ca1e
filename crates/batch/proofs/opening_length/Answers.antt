-- `batch::opening_length` meets its contract, by the reader's two answers.
use mathlib.Core.Path.{sym, ap, ◌∙◌}
use native.Mathlib.Omega.{arith}
use Rattle.notice.proofs.Readings.{frame_read, garbled_read}
use Rattle.batch.specs.Steps.{opening_length}
use Rattle.batch.proofs.Lines.{length-by}
use Rattle.batch.proofs.opening_length.Goals as goal

pub returns-in_default : goal.returns-in_default
unfolding opening_length
returns-in_default c =
    sym (ap opening_length (garbled_read _ _ (omega arith) c.in_default.is c.read_notice.ensures).0)

pub returns : goal.returns
returns c =
    c.then_some.ensures ∙ length-by _ (frame_read _ _ (omega arith) c.in-Ok.is c.read_notice.ensures) c.opens_depot.ensures
