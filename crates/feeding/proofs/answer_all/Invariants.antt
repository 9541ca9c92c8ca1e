-- `feeding::answer_all`: what was read is answered, and each turn has read a byte at least.
use Rattle.std.proofs.Common.{◌≡◌, ℕ, List, length, ◌≤◌}
use Rattle.std.specs.Io.KnownBytes.{Consumes}
use Rattle.map.specs.Slices.{lent_in, IsSameRoom}
use Rattle.stream.specs.Feeding.{IsReady}
use Rattle.feeding.specs.Reading.{standing, IsAnswered}
use Rattle.feeding.proofs.answer_all.Given as goal

abbrev pub invariant-loop-turn : goal.invariant-loop-turn
invariant-loop-turn g l =
    IsReady l.progress l.links (lent_in l.room) l.line
    × IsSameRoom l.initial.room l.room
    × (length l.out ≡ length l.initial.out)
    × (length l.input ≡ length l.initial.input)
    × ((read : List ℕ) × Consumes (g.R.Read.remaining l.initial.from) (g.R.Read.remaining l.from) read
    × IsAnswered g.T.Tells.manner (standing l.initial.progress l.initial.links (lent_in l.initial.room) l.initial.line)
    (standing l.progress l.links (lent_in l.room) l.line) (g.W.Write.contents l.initial.to) (g.W.Write.contents l.to) read
    × (l.turn ≤ length read))
