-- `surveys::survey_file` begins the file's stream on zeros of the named sizes; its line is that of what was read of the file, and the totals are those of one
-- file more.
use Rattle.std.proofs.Common.{arith, subst, ◌∙◌}
use Rattle.std.specs.Io.KnownBytes.{Appends}
use Rattle.feeding.specs.Reading.{AppendsPart}
use Rattle.stream.proofs.Theorems.{begun_stands}
use Rattle.summaries.proofs.Theorems.{put_of_files}
use Rattle.summaries.proofs.Summed.{put_is}
use Rattle.surveys.proofs.Lines.{first_read, line_is}
use Rattle.surveys.proofs.survey_file.Goals as goal

pub report_file-reported-requires-clause-begun : goal.report_file-reported-requires-clause-begun
report_file-reported-requires-clause-begun g c =
    begun_stands _ _ c.begin-begun.ensures
    (omega arith) (omega arith) (omega arith) (omega arith) (omega arith) (omega arith) (omega arith) (omega arith)

pub put_file-put-requires : goal.put_file-put-requires
put_file-put-requires g c =
    (omega (arith, c.requires.0, c.report_file-reported.auto.out), c.requires.2, c.report_file-reported.ensures.of_file, c.requires.3)

pub returns-in-Ok-clause-surveys : goal.returns-in-Ok-clause-surveys
returns-in-Ok-clause-surveys g c =
    let r = c.report_file-reported.ensures in
    let put = put_is _ _ _ r.is c.put_file-put.ensures in
    (r.read, r.is_read, subst (Appends _ _) (put.0 ∙ line_is _) c.in-Ok.ensures.ok, put.1)

pub returns-in-Err-clause-surveys : goal.returns-in-Err-clause-surveys
returns-in-Err-clause-surveys g c =
    let r = c.report_file-reported.ensures in
    let put = put_is _ _ _ r.is c.put_file-put.ensures in
    (r.read, first_read _ _ _ r.is_read, subst (AppendsPart _ _) (put.0 ∙ line_is _) c.write_all.ensures.part)

pub returns-in-Ok-clause-of_files : goal.returns-in-Ok-clause-of_files
returns-in-Ok-clause-of_files g c = put_of_files _ _ _ _ c.put_file-put.ensures c.requires.2 c.report_file-reported.ensures.of_file
