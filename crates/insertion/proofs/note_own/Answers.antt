-- `insertion::note_own` meets its contract: after j turns the first j words have the partners below a.
use native.Mathlib.Omega.{arith}
use Rattle.insertion.proofs.Noted.{noting_start, noting_next}
use Rattle.insertion.proofs.note_own.Goals as goal

pub loop-j-init : goal.loop-j-init
loop-j-init c = noting_start 4 _ _ _

pub loop-j-preserved : goal.loop-j-preserved
loop-j-preserved c =
    noting_next 4 _ _ _ _ _ _ c.loop-j.invariant (omega arith) (omega arith) (omega arith) c.lower_part.ensures
