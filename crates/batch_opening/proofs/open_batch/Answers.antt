-- `batch_opening::open_batch` meets its contract: refused, or all turns done and those left over written.
use Rattle.map.specs.Memory.{base}
use Rattle.map.specs.Room.{sizes_of}
use Rattle.batch_opening.proofs.Calls.{opened_lines}
use Rattle.batch_opening.proofs.open_batch.Goals as goal

pub returns-clause-left : goal.returns-clause-left
unfolding sizes_of
returns-clause-left c =
    let openings = c.in_ok-openings.openings in
    opened_lines base _ _ _ _ _ c.in_ok-openings.ensures.same openings.counted openings.opening c.open_lines-got.result
    c.open_lines-got.ensures.left c.in_ok-openings.ensures.refused c.put_left-over.ensures
