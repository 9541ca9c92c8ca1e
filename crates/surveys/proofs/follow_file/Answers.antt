-- `surveys::follow_file`: what was read of the file, by how its reading ended.
use Rattle.surveys.proofs.Follow.{unopened, whole_follows, failed_follows, endless_follows}
use Rattle.surveys.proofs.follow_file.Goals as goal

pub returns-in_default-clause-follows : goal.returns-in_default-clause-follows
returns-in_default-clause-follows g c = unopened _ _

pub returns-in-Whole-clause-follows : goal.returns-in-Whole-clause-follows
returns-in-Whole-clause-follows g c =
    whole_follows _ _ _ _ _ _ _ c.in-Some.ensures c.in-Whole.is c.answer_all-ended.ensures.reads

pub returns-in-Failed-clause-follows : goal.returns-in-Failed-clause-follows
returns-in-Failed-clause-follows g c =
    failed_follows _ _ _ _ _ _ _ c.in-Some.ensures c.in-Failed.why c.in-Failed.is c.answer_all-ended.ensures.reads

pub returns-clause-follows : goal.returns-clause-follows
returns-clause-follows g c =
    endless_follows _ _ _ _ _ _ _ c.in-Some.ensures c.in-Endless.is c.answer_all-ended.ensures.reads
