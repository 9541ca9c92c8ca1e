-- `line_buffer::take_part` meets its contract: what is held of a line stands in the buffer.
use mathlib.Core.Path.{ap}
use native.Mathlib.Omega.{arith}
use lib.ListN.{drop, length-take}
use Rattle.line_buffer.specs.Lines.{holding, PartLeft}
use Rattle.line_buffer.proofs.Holding.{part_most}
use Rattle.line_buffer.proofs.take_part.Goals as goal

pub slice_bounds-read_frame-end-3 : goal.slice_bounds-read_frame-end-3
slice_bounds-read_frame-end-3 c =
    let most = part_most c.args.from (holding c.args.line.now c.args.held) (drop c.args.from c.args.piece.now) (omega arith) in
    let left = ap (λ (p : PartLeft). p.buffer.held) c.hold_part-part.ensures in
    omega (arith, most, left, length-take c.hold_part-part.result.held c.hold_part-part.new.line)
