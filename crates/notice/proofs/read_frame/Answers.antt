-- `notice::read_frame` meets its contract. Two characters stand behind the digits only where the buffer takes the byte that they would spell.
use mathlib.Core.Path.{ap}
use native.Mathlib.Omega.{arith}
use lib.ListN.{length, length-take}
use Rattle.notice.specs.Lines.{line_limit}
use Rattle.notice.specs.Calls.{line_found}
use Rattle.notice.proofs.Passes.{pass_stray}
use Rattle.notice.proofs.read_frame.Goals as goal

pub returns-then-head-behind-ne10-clause-line : goal.returns-then-head-behind-ne10-clause-line
unfolding line_found
returns-then-head-behind-ne10-clause-line c =
    let most = ap length c.first_part-head.ensures in
    pass_stray _ _ c.first_part-head.ensures c.read_pairs-n.ensures.fits.0 c.read_pairs-n.ensures.digits c.if-behind-head.false c.if-head-behind-ne10.true
    (λ l. c.read_pairs-n.ensures.end l (omega (arith, l, most, length-take line_limit c.args.input.now, c.read_pairs-n.auto, c.requires)))
