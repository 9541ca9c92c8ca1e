-- `feeding::answer`: what is used of the piece is told and written, and the rest is to be fed. The measure is the rest.
use Rattle.std.proofs.Common.{◌≡◌, length}
use Rattle.map.specs.Slices.{lent_in, IsSameRoom}
use Rattle.stream.specs.Feeding.{IsReady}
use Rattle.feeding.specs.Reading.{standing}
use Rattle.feeding.proofs.Turns.{IsOn}
use Rattle.feeding.proofs.answer.Given as goal

abbrev pub invariant-loop-rest : goal.invariant-loop-rest
invariant-loop-rest g l =
    IsReady l.progress l.links (lent_in l.room) l.line
    × IsSameRoom l.initial.room l.room
    × (length l.out ≡ length l.initial.out)
    × IsOn g.T.Tells.manner (standing l.initial.progress l.initial.links (lent_in l.initial.room) l.initial.line)
    (standing l.progress l.links (lent_in l.room) l.line) (g.W.Write.contents l.initial.to) (g.W.Write.contents l.to) l.rest l.piece

abbrev pub decreases-loop-rest : goal.decreases-loop-rest
decreases-loop-rest g l = length l.rest
