-- NOTICE LINES AND REPORT LINES for other languages. Each call is the one that it wraps: the answer's
-- number, the lent numbers, and the buffer. A refused one changes nothing. Assumes nothing.
use Rattle.std.specs.Prelude.{List, ℕ, Result, Ok, Err}
use Rattle.notice.specs.Calls.{read_call, write_call}
use Rattle.notice.specs.declared.Frame.{Frame}
use Rattle.report.specs.Line.{report_call}
use Rattle.report.specs.declared.ReportFields.{ReportFields}

-- ---- notice lines: the frame's length and the bytes used; the line's length

unfoldable pub frame_from : Result Frame ℕ → ℕ × ℕ → List ℕ → ℕ × (ℕ × ℕ) × List ℕ
frame_from (Ok f) old lent = (0, (f.length, f.used), lent)
frame_from (Err k) old lent = (k, old, lent)

unfoldable pub read_out : List ℕ → List ℕ → ℕ × ℕ → ℕ × (ℕ × ℕ) × List ℕ
read_out input frame old = let x = read_call input frame in frame_from x.answer old x.lent

unfoldable pub length_from : Result ℕ ℕ → ℕ → List ℕ → ℕ × ℕ × List ℕ
length_from (Ok n) old lent = (0, n, lent)
length_from (Err k) old lent = (k, old, lent)

unfoldable pub write_out : List ℕ → List ℕ → ℕ → ℕ × ℕ × List ℕ
write_out frame line old = let x = write_call frame line in length_from x.answer old x.lent

-- ---- report lines: the line's length

unfoldable pub report_out : ReportFields → List ℕ → ℕ → ℕ × ℕ × List ℕ
report_out fields line old = let x = report_call fields line in length_from x.answer old x.lent
