-- `targets::TargetHops::greatest_of_all` meets its contract. The loop's invariant (Rows.antt): the greatest hop of the targets in the first w words.
use Rattle.targets.proofs.Rows.{WordsCompared}
use Rattle.targets.proofs.TargetHops.greatest_of_all.Given as goal

abbrev pub invariant-loop-w : goal.invariant-loop-w
invariant-loop-w l = WordsCompared l.self.words l.self.targets.now l.self.hops.now l.most l.w
