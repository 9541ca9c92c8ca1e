-- `frontier::take_left` meets its contract. The loop's invariant (Passes.antt): the first j words are taken, and their or tells whether a code is.
use Rattle.frontier.proofs.Passes.{Taking}
use Rattle.frontier.proofs.take_left.Given as goal

abbrev pub invariant-loop-j : goal.invariant-loop-j
invariant-loop-j l = Taking l.words l.initial.next l.initial.left l.next l.left l.all l.j
