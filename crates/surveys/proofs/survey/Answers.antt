-- `surveys::survey`: a file's line more, or the last line, or a write failed.
use Rattle.std.proofs.Common.{[], ◌∷◌, ◌++◌, arith, refl, subst}
use mathlib.Core.Bool.{false}
use lib.ListN.{length-append}
use Rattle.std.specs.Io.KnownBytes.{Appends}
use Rattle.feeding.specs.Reading.{AppendsPart}
use Rattle.summaries.proofs.Summed.{total_is}
use Rattle.surveys.proofs.Lines.{none_read, none_totalled, none_of_files, none_written, firsts_read, read_more, totals_then}
use Rattle.surveys.proofs.Lines.{written_more, written_part_more, written_last, written_part_last}
use Rattle.surveys.proofs.survey.Goals as goal

pub loop-i-init : goal.loop-i-init
loop-i-init g c = (refl, refl, none_of_files, refl, ([], refl, none_read _, none_totalled, none_written _))

pub loop-i-preserved : goal.loop-i-preserved
loop-i-preserved g c =
    let so = c.loop-i.invariant in
    let is = c.in-Ok.ensures.surveys in (
      omega (arith, so.0, c.survey_file.auto.out),
      omega (arith, so.1, c.survey_file.auto.input),
      c.in-Ok.ensures.of_files.0,
      omega (arith, so.3, c.in-Ok.ensures.of_files.1),
      (
        so.4.0 ++ is.0 ∷ [],
        simp length-append (omega (arith, so.4.1)),
        read_more _ _ _ so.4.0 is.0 _ so.4.1 so.4.2 is.1,
        totals_then _ _ so.4.0 is.0 so.4.3 is.3,
        written_more _ _ _ so.4.0 so.4.4 is.0 is.2,
      ),
    )

pub returns-in-Err : goal.returns-in-Err
returns-in-Err g c =
    let so = c.loop-i.invariant in
    let is = c.in-Err.ensures.surveys in (
      so.4.0 ++ is.0 ∷ [],
      simp length-append (omega (arith, so.4.1, c.loop-i-test.true)),
      read_more _ false false so.4.0 is.0 _ so.4.1 (firsts_read _ _ _ so.4.0 so.4.2) is.1,
      written_part_more _ _ _ so.4.0 so.4.4 is.0 (omega (arith, so.4.1, c.loop-i-test.true, c.requires)) is.2,
    )

pub returns-in-Ok-write_all : goal.returns-in-Ok-write_all
returns-in-Ok-write_all g c =
    let so = c.loop-i.invariant in (
      so.4.0,
      omega (arith, so.4.1, c.loop-i-test.false, c.loop-i.auto.i-end),
      so.4.2,
      written_last _ _ _ so.4.0 so.4.4 _ (omega (arith, so.4.1, c.loop-i.auto.i-end, c.requires)) so.4.3
          (subst (Appends _ _) (total_is _ _ c.put_total-end.ensures) c.in-Ok-write_all.ensures.ok),
    )

pub returns-in-Err-write_all : goal.returns-in-Err-write_all
returns-in-Err-write_all g c =
    let so = c.loop-i.invariant in (
      so.4.0,
      omega (arith, so.4.1, c.loop-i.auto.i-end),
      firsts_read _ _ _ so.4.0 so.4.2,
      written_part_last _ _ _ so.4.0 so.4.4 _ (omega (arith, so.4.1, c.loop-i.auto.i-end, c.requires)) so.4.3
          (subst (AppendsPart _ _) (total_is _ _ c.put_total-end.ensures) c.write_all.ensures.part),
    )
