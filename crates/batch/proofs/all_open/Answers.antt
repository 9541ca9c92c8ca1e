-- `batch::all_open` meets its contract. The invariant: all lines open something exactly if those left do. The measure is what is left of the
-- length; a line that reads is not empty.
use mathlib.Core.Path.{sym, ◌∙◌}
use Prim.Native.Nat.{◌+◌, ◌<◌}
use native.Mathlib.Omega.{arith}
use Rattle.batch.proofs.Lines.{AreRead, read_more}
use Rattle.batch.proofs.all_open.Goals as goal
use Rattle.batch.proofs.all_open.Goals.{In-Some}

-- the line that was read, and those left
more : (c : In-Some) → (0 < c.in-Some.used) × AreRead c.args.lines.now (c.loop-at.at + c.in-Some.used)
more c =
    read_more c.loop-at.invariant (sym c.in-Some.is ∙ c.opening_length.ensures)

pub overflow_add-at : goal.overflow_add-at
overflow_add-at c =
    let next = more c in
    omega (arith, next.1.within, c.well_formed)

pub loop-at-smaller : goal.loop-at-smaller
loop-at-smaller c =
    let next = more c in
    omega (arith, next.0, next.1.within)

pub loop-at-preserved : goal.loop-at-preserved
loop-at-preserved c = (more c).1
