-- `feeding::answer`: a turn of the stream more, told, and handed on whole or in part.
use Rattle.std.proofs.Common.{rules, arith}
use Rattle.feeding.proofs.Turns.{turned_one, on_first, on_next, on_cut, on_over, on_failed, on_end}
use Rattle.feeding.proofs.Whole.{over_none}
use Rattle.feeding.proofs.answer.Goals as goal

pub loop-rest-init : goal.loop-rest-init
loop-rest-init g c = (search rules, search rules, search rules, on_first _ _ _ _)

pub loop-rest-preserved : goal.loop-rest-preserved
loop-rest-preserved g c =
    let so = c.loop-rest.invariant in (
      search rules,
      search rules,
      search rules,
      on_next _ _ _ _ _ _ _ _ _ _ _ so.3 (turned_one _ _ _ c.feed-fed.ensures.left) c.in_ok-write_all.ensures.ok,
    )

pub returns-in_err-write_all-clause-answers : goal.returns-in_err-write_all-clause-answers
returns-in_err-write_all-clause-answers g c =
    let so = c.loop-rest.invariant in
    on_failed _ _ _ _ _ _ _ c.from_residual.ensures.0
    (on_cut _ _ _ _ _ _ _ _ _ _ _ so.3 (turned_one _ _ _ c.feed-fed.ensures.left) c.in_err-write_all.ensures.part)

pub returns-then-fed-eq0-clause-answers : goal.returns-then-fed-eq0-clause-answers
returns-then-fed-eq0-clause-answers g c =
    let so = c.loop-rest.invariant in
    on_over _ _ _ _ _ _ _ _ _ _ _ so.3 (turned_one _ _ _ c.feed-fed.ensures.left) c.in_ok-write_all.ensures.ok
    (over_none _ _ _ _ _ _ _ c.feed-fed.ensures.left (omega (arith, c.requires.1, so.2)) (search rules) c.if-fed-eq0.true)

pub returns-clause-answers : goal.returns-clause-answers
returns-clause-answers g c =
    let so = c.loop-rest.invariant in
    on_end _ _ _ _ _ _ _ _ so.3 (search rules) (omega (arith, c.requires.1, so.2)) c.is_stopped.ensures
