-- `frontier::Visit::mark_word` meets its contract. The loop's invariant (Marks.antt): the members that have left the word have the hop.
use mathlib.Core.Path.{refl, sym}
use lib.ListN.{length-set}
use Rattle.frontier.proofs.Marks.{marks_next, marks_end}
use Rattle.frontier.proofs.Visit.mark_word.Goals as goal

pub loop-x-preserved : goal.loop-x-preserved
loop-x-preserved c =
    marks_next _ _ _ _ _ _ c.least.ensures c.drop_least-x.ensures c.requires c.loop-x.invariant
    (record { links = refl; words = refl; k = refl; name = refl; long = sym (length-set _ _ _) }) refl

pub returns-clause-marked : goal.returns-clause-marked
returns-clause-marked c = search marks_end
