-- `feeding::answer_last` writes what the end of the input adds.
use Rattle.feeding.proofs.Whole.{last_is, last_by}
use Rattle.feeding.proofs.answer_last.Goals as goal

pub returns : goal.returns
returns g c = last_by _ _ _ _ _ _ (last_is _ _ _ _ _ _ c.finish-fed.ensures.left) c.write_all.ensures.ok c.write_all.ensures.part
