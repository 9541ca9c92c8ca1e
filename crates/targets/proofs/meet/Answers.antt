-- `targets::meet` meets its contract. The loop's invariant (Meets.antt): a bit is set that both rows have in one of the first w words.
use native.Mathlib.Omega.{arith}
use Rattle.targets.proofs.Meets.{meeting_none, meeting_more, meeting_all}
use Rattle.targets.proofs.meet.Goals as goal

pub loop-w-preserved : goal.loop-w-preserved
loop-w-preserved c =
    meeting_more _ _ _ c.loop-w.invariant (omega arith) (c.shared_slice_known-1.given c.loop-w.w).fits

pub returns : goal.returns
returns c =
    meeting_all _ _ _ c.loop-w.invariant (omega arith)

pub loop-w-init : goal.loop-w-init
loop-w-init c = search meeting_none
