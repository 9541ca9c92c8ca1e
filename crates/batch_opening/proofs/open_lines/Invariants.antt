-- `batch_opening::open_lines` meets its contract. The invariant is `IsUnderWay` (Progress.antt): the turns that are left come to what all do, and
-- nothing refuses the map.
use mathlib.Core.Path.{◌≡◌}
use Prim.Native.Nat.{◌-◌}
use lib.ListN.{length}
use Rattle.map.specs.Memory.{base}
use Rattle.map.specs.Slices.{lent_in, IsSameRoom}
use Rattle.notice.specs.Calls.{frame_limit}
use Rattle.batch_opening.specs.Steps.{batch_standing}
use Rattle.batch_opening.proofs.Progress.{IsUnderWay}
use Rattle.batch_opening.proofs.open_lines.Given as goal

abbrev pub invariant-loop-turn : goal.invariant-loop-turn
invariant-loop-turn l =
    IsUnderWay base (batch_standing l.initial.progress l.initial.links (lent_in l.initial.room) l.openings.lines.now) l.openings.count
    (batch_standing l.progress l.links (lent_in l.room) l.openings.lines.now) (l.openings.count - l._turn)
    × IsSameRoom l.initial.room l.room
    × (length l.frame ≡ frame_limit)
