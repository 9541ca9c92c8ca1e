-- `targets::meet` meets its contract. The loop's invariant (Meets.antt): a bit is set that both rows have in one of the first w words.
use Rattle.targets.proofs.Meets.{IsMeeting}
use Rattle.targets.proofs.meet.Given as goal

abbrev pub invariant-loop-w : goal.invariant-loop-w
invariant-loop-w l = IsMeeting l.words l.a l.b l.both l.w
