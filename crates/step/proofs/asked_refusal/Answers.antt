-- `step::asked_refusal` meets its contract: a notice is judged by the open codes alone.
use mathlib.Core.Path.{◌∙◌}
use Rattle.step.proofs.Judged.{notice_judged}
use Rattle.step.proofs.asked_refusal.Goals as goal

pub returns-in-Opening : goal.returns-in-Opening
returns-in-Opening c = rw c.in-Opening.is (c.notice_refusal.ensures ∙ notice_judged _ _ _ _ _ _)
