-- WHAT READER AND WRITERS LEAVE IN LENT NUMBERS: the new values, or the old ones where they refuse. Assumes nothing.
use mathlib.Core.Path.{◌≡◌, ap, ◌∙◌}
use mathlib.Core.List.{List}
use Prim.Native.Nat.{ℕ}
use Rattle.std.specs.Prelude.{Result}
use Rattle.outcome.specs.Answers.{Left, leaves}
use Rattle.outcome.specs.declared.Outcome.{Outcome}
use Rattle.notice.specs.Calls.{read_call, write_call}
use Rattle.notice.specs.declared.Frame.{Frame}
use Rattle.report.specs.Line.{report_call}
use Rattle.report.specs.declared.ReportFields.{ReportFields}
use Rattle.c_values.specs.Outcomes.{outcome_of}
use Rattle.c_streams.specs.Lines.{frame_from, read_out, length_from, write_out, report_out}

pub read_out_lem : (input buffer : List ℕ) (old : ℕ × ℕ) {got : Result Frame ℕ} {after : List ℕ} → leaves got after ≡ read_call input buffer → frame_from got old after ≡ read_out input buffer old
unfolding read_out
read_out_lem input buffer old e = ap (λ (x : Left Frame (List ℕ)). frame_from x.answer old x.lent) e

pub write_out_lem : (f buffer : List ℕ) (old : ℕ) {got : Result ℕ ℕ} {after : List ℕ} → leaves got after ≡ write_call f buffer → length_from got old after ≡ write_out f buffer old
unfolding write_out
write_out_lem f buffer old e = ap (λ (x : Left ℕ (List ℕ)). length_from x.answer old x.lent) e

module _ (number answer depots chain pairs searches : ℕ) {o : Outcome} (given : o ≡ outcome_of answer) (buffer : List ℕ) (old : ℕ) where
  abbrev asked : Outcome → ReportFields
  asked x = record { number = number; outcome = x; depots = depots; chain = chain; pairs = pairs; searches = searches }

  pub report_out_lem : {got : Result ℕ ℕ} {after : List ℕ} → leaves got after ≡ report_call (asked o) buffer
      → length_from got old after ≡ report_out (asked (outcome_of answer)) buffer old
  unfolding report_out
  report_out_lem e =
      ap (λ (x : Left ℕ (List ℕ)). length_from x.answer old x.lent) (e ∙ ap (λ (p : Outcome). report_call (asked p) buffer) given)
