-- `line_buffer::skip_part` meets its contract. The invariant: from here the part ends where it ends from the start, whatever the buffer has.
use mathlib.Core.Path.{◌≡◌}
use mathlib.Core.List.{List}
use Prim.Native.Nat.{ℕ, max, ◌≤◌}
use lib.ListN.{length, drop}
use Rattle.line_buffer.specs.Lines.{holding, part_from}
use Rattle.line_buffer.proofs.skip_part.Given as goal

abbrev pub invariant-loop-at : goal.invariant-loop-at
invariant-loop-at l =
    ((line : List ℕ) → part_from l.at (holding line l.held) (drop l.at l.piece) ≡ part_from l.from (holding line l.held) (drop l.from l.piece))
    × (l.from ≤ l.at)
    × (l.at ≤ max l.from (length l.piece))
