-- `frontier::pass_on` meets its contract. The loop's invariant (Passes.antt): the first j words stand in the other row.
use Rattle.frontier.proofs.Passes.{Passing}
use Rattle.frontier.proofs.pass_on.Given as goal

abbrev pub invariant-loop-j : goal.invariant-loop-j
invariant-loop-j l = Passing l.words l.next l.initial.other l.other l.j
