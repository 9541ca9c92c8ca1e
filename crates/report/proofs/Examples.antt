-- Two lines of rule 10.5, computed. Assumes nothing.
use mathlib.Core.Path.{◌≡◌, refl}
use mathlib.Core.List.{[], ◌∷◌}
use Rattle.outcome.specs.Outcome.{letter_of, refusal_of}
use Rattle.outcome.specs.declared.Change.TheVariants.{Shrank}
use Rattle.outcome.specs.declared.Outcome.TheVariants.{Accepted, Refused}
use Rattle.decimal.specs.Decimal.{spell, decimal, field}
use Rattle.report.specs.declared.ReportFields.{ReportFields}
use Rattle.report.specs.Line.{outcome_text, figures_text, report_line}

-- `6 S 6 3 2 6`
abbrev sixth : ReportFields
sixth = record { number = 6; outcome = Accepted Shrank; depots = 6; chain = 3; pairs = 2; searches = 6 }

pub sixth_line : report_line sixth ≡ 54 ∷ 32 ∷ 83 ∷ 32 ∷ 54 ∷ 32 ∷ 51 ∷ 32 ∷ 50 ∷ 32 ∷ 54 ∷ 10 ∷ []
unfolding report_line figures_text field outcome_text letter_of decimal spell
sixth_line = refl

-- `7 R5 6 3 2 0`
abbrev seventh : ReportFields
seventh = record { number = 7; outcome = Refused 5; depots = 6; chain = 3; pairs = 2; searches = 0 }

pub seventh_line : report_line seventh ≡ 55 ∷ 32 ∷ 82 ∷ 53 ∷ 32 ∷ 54 ∷ 32 ∷ 51 ∷ 32 ∷ 50 ∷ 32 ∷ 48 ∷ 10 ∷ []
unfolding report_line figures_text field outcome_text letter_of refusal_of decimal spell
seventh_line = refl
