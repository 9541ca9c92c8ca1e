-- `feeding::answer_all`: a piece more is read and answered, or the reading ends.
use Rattle.std.proofs.Common.{[], ◌++◌, rules}
use Rattle.std.proofs.KnownBytes.{Consumes-nil, Consumes-trans, Consumes-kept}
use Rattle.feeding.proofs.Whole.{answered_none, answered_then, over_then, cut_then, consumed_none, answers_on, answers_over, counted_on}
use Rattle.feeding.proofs.answer_all.Goals as goal

pub loop-turn-init : goal.loop-turn-init
loop-turn-init g c = (search rules, search rules, search rules, search rules, ([], Consumes-nil _, answered_none _ _ _, search rules))

pub loop-turn-preserved : goal.loop-turn-preserved
loop-turn-preserved g c =
    let so = c.loop-turn.invariant.4 in (
      search rules,
      search rules,
      search rules,
      search rules,
      (
        so.0 ++ _,
        Consumes-trans _ _ _ so.0 _ so.1 c.in-Ok.ensures.bytes.0,
        answered_then _ _ _ _ _ _ _ so.0 _ so.2 (answers_on _ _ _ _ _ _ c.in-Ok-true.field-0-test c.in-Ok-true.ensures.answers),
        counted_on so.0 _ _ _ so.3 (search rules) (search rules),
      ),
    )

pub returns-in-Err-clause-reads : goal.returns-in-Err-clause-reads
returns-in-Err-clause-reads g c =
    let so = c.loop-turn.invariant.4 in
    (so.0, Consumes-kept _ _ _ so.0 so.1 c.in-Err.ensures.bytes, so.2)

pub returns-then-n-eq0-clause-reads : goal.returns-then-n-eq0-clause-reads
returns-then-n-eq0-clause-reads g c =
    let so = c.loop-turn.invariant.4 in (
      so.0,
      consumed_none _ _ _ so.0 _ _ c.if-n-eq0.true so.1 c.in-Ok.ensures.bytes.0,
      so.2,
      c.in-Ok.ensures.bytes.1 c.if-n-eq0.true (search rules),
    )

pub returns-in-Ok-false-clause-reads : goal.returns-in-Ok-false-clause-reads
returns-in-Ok-false-clause-reads g c =
    let so = c.loop-turn.invariant.4 in (
      so.0 ++ _,
      Consumes-trans _ _ _ so.0 _ so.1 c.in-Ok.ensures.bytes.0,
      over_then _ _ _ _ _ _ _ so.0 _ so.2 (answers_over _ _ _ _ _ _ c.in-Ok-false.field-0-test c.in-Ok-false.ensures.answers),
    )

pub returns-in-Err-answer-clause-reads : goal.returns-in-Err-answer-clause-reads
returns-in-Err-answer-clause-reads g c =
    let so = c.loop-turn.invariant.4 in (
      so.0 ++ _,
      Consumes-trans _ _ _ so.0 _ so.1 c.in-Ok.ensures.bytes.0,
      cut_then _ _ _ _ _ _ _ so.0 _ so.2 c.in-Err-answer.ensures.answers,
    )

pub returns-clause-reads : goal.returns-clause-reads
returns-clause-reads g c =
    let so = c.loop-turn.invariant.4 in
    (so.0, so.1, so.2, search rules)
