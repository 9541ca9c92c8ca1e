-- `targets::TargetHops::word_at` meets its contract. The loop's invariant (Partners.antt): of the members that were looked at, those at e are left. The
-- measure is what is left of the word.
use lib.ListN.{get_or}
use Rattle.targets.proofs.Partners.{BitsKept}
use Rattle.targets.proofs.TargetHops.word_at.Given as goal

abbrev pub invariant-loop-x : goal.invariant-loop-x
invariant-loop-x l = BitsKept l.self.hops.now l.w (get_or l.self.targets.now l.w 0) l.e l.here l.x

abbrev pub decreases-loop-x : goal.decreases-loop-x
decreases-loop-x l = l.x
