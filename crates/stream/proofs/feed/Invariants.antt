-- `stream::feed` meets its contract. The loop's invariant is `AtTurn` (Feeds.antt): from here the bytes end where they end from the start, and
-- nothing refuses the map. The measure is what is left of the piece.
use mathlib.Core.Path.{◌≡◌}
use Prim.Native.Nat.{◌-◌, ◌≤◌}
use lib.ListN.{length}
use Rattle.map.specs.Slices.{lent_in, IsSameRoom}
use Rattle.stream.specs.Feeding.{feeding}
use Rattle.stream.proofs.Feeds.{AtTurn}
use Rattle.stream.proofs.feed.Given as goal

abbrev pub invariant-loop-now : goal.invariant-loop-now
invariant-loop-now g l =
    AtTurn g.T.Tells.manner l.piece (feeding l.initial.now l.initial.links (lent_in l.initial.room) l.initial.line l.initial.out)
    (feeding l.now l.links (lent_in l.room) l.line l.out)
    × (IsSameRoom l.initial.room l.room
    × (length l.links ≡ length l.initial.links)
    × (length l.line ≡ length l.initial.line)
    × (length l.out ≡ length l.initial.out))
    × (l.now.used ≤ length l.piece)
    × (l.now.written ≤ length l.out)

abbrev pub decreases-loop-now : goal.decreases-loop-now
decreases-loop-now g l =
    length l.piece - l.now.used
