-- `line_buffer::hold_part` meets its contract. The invariant: from here the part ends where it ends from the start, and each byte before is held.
use mathlib.Core.Path.{◌≡◌}
use Prim.Native.Nat.{max, ◌+◌, ◌-◌, ◌≤◌}
use lib.ListN.{drop}
use Rattle.line_buffer.specs.Lines.{holding, part_from}
use Rattle.line_buffer.proofs.hold_part.Given as goal

abbrev pub invariant-loop-at : goal.invariant-loop-at
invariant-loop-at l =
    (part_from l.at (holding l.line l.count) (drop l.at l.piece) ≡ part_from l.from (holding l.initial.line l.held) (drop l.from l.piece))
    × (l.count ≡ l.held + (l.at - l.from))
    × (l.from ≤ l.at)
    × (l.at ≤ max l.from l.end)
