-- The report line of the stream (rules 10.1 and 10.2), and the call that writes it (rule 10.4). Assumes nothing.
use Rattle.std.specs.Prelude.{cond, List, [], ◌∷◌, ◌++◌, ℕ, ◌^◌, ◌<◌, ltb, length, Ok, Err}
use Rattle.lists.specs.Lists.{overwrite}
use Rattle.lists.specs.Conditions.{IsShort}
use Rattle.outcome.specs.Numbers.{short_buffer}
use Rattle.outcome.specs.Outcome.{letter_of, refusal_of}
use Rattle.outcome.specs.Answers.{Left, leaves, Refuses}
use Rattle.outcome.specs.declared.Outcome.{Outcome}
use Rattle.outcome.specs.declared.Outcome.TheVariants.{Accepted, Refused}
use Rattle.decimal.specs.Decimal.{decimal, field}
use Rattle.report.specs.declared.ReportFields.{ReportFields}

-- G, K or S; or R with the refusal's number directly behind it
unfoldable pub outcome_text : Outcome → List ℕ
outcome_text (Accepted c) = letter_of (Accepted c) ∷ []
outcome_text (Refused n) = letter_of (Refused n) ∷ decimal (refusal_of (Refused n))

-- depots open, chain, pair count and searches of this call
unfoldable pub figures_text : ReportFields → List ℕ
figures_text r =
    field (decimal r.depots) ++ field (decimal r.chain) ++ field (decimal r.pairs)
    ++ field (decimal r.searches)

-- line number, outcome, figures, and the ending 0A
unfoldable pub report_line : ReportFields → List ℕ
report_line r = decimal r.number ++ field (outcome_text r.outcome) ++ figures_text r ++ 10 ∷ []

-- the widths of the fields: 32 bits for line number and pair count, 8 for the refusal, 16 for the others
pub record IsWithin (r : ReportFields) : Type 0 where
  pub number : r.number < 2 ^ 32
  pub refusal : refusal_of r.outcome < 2 ^ 8
  pub depots : r.depots < 2 ^ 16
  pub chain : r.chain < 2 ^ 16
  pub pairs : r.pairs < 2 ^ 32
  pub searches : r.searches < 2 ^ 16

-- the size of the caller's line buffer
abbrev pub buffer_limit : ℕ
buffer_limit = 48

-- the line over the first bytes of the caller's buffer; bytes past it stay
unfoldable pub report_call : ReportFields → List ℕ → Left ℕ (List ℕ)
report_call r buffer =
    cond (ltb (length buffer) buffer_limit) (leaves (Err short_buffer) buffer)
    (leaves (Ok (length (report_line r))) (overwrite (report_line r) buffer))

-- Of a program whose call is `step`, in words (rules 8.1 and 11.1): 1 short, and no other refusal
abbrev pub ReportRefuses : (ReportFields → List ℕ → Left ℕ (List ℕ)) → Type 0
ReportRefuses step =
    (r : ReportFields) (buffer : List ℕ)
    → Refuses ((IsShort ((buffer_limit, length buffer) ∷ []), short_buffer) ∷ []) buffer (step r buffer)
