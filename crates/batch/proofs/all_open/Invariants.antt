-- `batch::all_open` meets its contract. The invariant: all lines open something exactly if those left do. The measure is what is left of the
-- length; a line that reads is not empty.
use Prim.Native.Nat.{◌-◌}
use lib.ListN.{length}
use Rattle.batch.proofs.Lines.{AreRead}
use Rattle.batch.proofs.all_open.Given as goal

abbrev pub invariant-loop-at : goal.invariant-loop-at
invariant-loop-at l = AreRead l.lines l.at

abbrev pub decreases-loop-at : goal.decreases-loop-at
decreases-loop-at l = length l.lines - l.at
