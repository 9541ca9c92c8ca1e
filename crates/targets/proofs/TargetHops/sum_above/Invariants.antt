-- `targets::TargetHops::sum_above` meets its contract. The loop's invariant (Rows.antt): the targets above u in the first w words.
use Rattle.targets.proofs.Rows.{WordsSummed}
use Rattle.targets.proofs.TargetHops.sum_above.Given as goal

abbrev pub invariant-loop-w : goal.invariant-loop-w
invariant-loop-w l = WordsSummed l.self.words l.self.targets.now l.self.hops.now l.u l.sum l.pairs l.w
