-- `notice::promises::lines` meets its contract.
use Rattle.notice.proofs.Refusals.{line_is}
use Rattle.notice.proofs.promises.lines.Goals as goal

pub returns : goal.returns
returns c = line_is
