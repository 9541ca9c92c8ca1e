-- `batch::Openings::first_fit` meets its contract. The invariant: the first that fits is the first of those from the line reached on. The measure is what is
-- left of the length; a line that reads is not empty.
use mathlib.Core.Path.{◌≡◌}
use mathlib.Core.List.{[]}
use Prim.Native.Nat.{◌-◌}
use lib.ListN.{length}
use Rattle.map.specs.Memory.{network_of}
use Rattle.batch.proofs.Scans.{IsScanned}
use Rattle.batch.proofs.Openings.first_fit.Given as goal

abbrev pub invariant-loop-at : goal.invariant-loop-at
invariant-loop-at l =
    IsScanned (network_of l.words l.members []) l.taken l.self.lines.now l.number l.at × (length l.frame ≡ length l.initial.frame)

abbrev pub decreases-loop-at : goal.decreases-loop-at
decreases-loop-at l = length l.self.lines.now - l.at
