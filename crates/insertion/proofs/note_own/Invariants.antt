-- `insertion::note_own` meets its contract: after j turns the first j words have the partners below a.
use Rattle.insertion.proofs.Noted.{Noting}
use Rattle.insertion.proofs.note_own.Given as goal

abbrev pub invariant-loop-j : goal.invariant-loop-j
invariant-loop-j l = Noting 4 l.a l.partners l.initial.likely l.likely l.j
