-- A TEXT in a part of the output that is lent for it, and a REPORT so behind what is written. Assumes nothing.
use mathlib.Core.Path.{◌≡◌, sym, ap, ap₂, ◌∙◌}
use mathlib.Core.List.{List, ◌++◌, append_assoc}
use Prim.Native.Nat.{ℕ, ◌+◌, ◌-◌, ◌≤◌}
use native.Mathlib.Omega.{arith}
use lib.ListN.{length, take, drop, length-append, length-take, length-drop, take-append-drop}
use lib.Seq.{drop-drop}
use borrow.Author.Tests.{le-ltb}
use Rattle.std.specs.Prelude.{Ok}
use Rattle.std.specs.Result.{result_unwrap_or}
use Rattle.std.proofs.lemmas.List.{drop-take}
use Rattle.lists.specs.Lists.{overwrite}
use Rattle.lists.proofs.Fills.{overwrite_take}
use Rattle.outcome.specs.Answers.{Left, leaves}
use Rattle.report.specs.Line.{buffer_limit, report_line, report_call}
use Rattle.report.specs.declared.ReportFields.{ReportFields}
use Rattle.line_buffer.specs.Lines.{pasted}

-- a text at the start of a part, and what stands behind the part
pub over_part : (text rest : List ℕ) (m : ℕ) → length text ≤ m → overwrite text (take m rest) ++ drop m rest ≡ text ++ drop (length text) rest
unfolding overwrite
over_part text rest m l =
    let n = length text in
    let e : m ≡ n + (m - n) = omega arith in
    append_assoc text (drop n (take m rest)) (drop m rest)
    ∙ ap (λ (r : List ℕ). text ++ r) (
    ap (λ (k : ℕ). drop n (take k rest) ++ drop k rest) e
    ∙ ap (λ (r : List ℕ). r ++ drop (n + (m - n)) rest) (drop-take n (m - n) rest)
    ∙ ap (λ (r : List ℕ). take (m - n) (drop n rest) ++ r) (sym (drop-drop (m - n) n rest))
    ∙ take-append-drop (m - n) (drop n rest))

-- a part of m bytes from `at` on, and a text of n over its first bytes
module _ (text out : List ℕ) (at m : ℕ) (room : at + m ≤ length out) {n : ℕ} {part : List ℕ} (is : part ≡ overwrite text (take m (drop at out)))
    (same : length part ≡ length (take m (drop at out))) (long : n ≡ length text) where
  size : length (take m (drop at out)) ≡ m
  size = omega (arith, length-take m (drop at out), length-drop at out, room)

  fits : length text ≤ m
  unfolding overwrite
  fits = omega (arith, ap length is, same, size, length-append text (drop (length text) (take m (drop at out))))

  pub part_fits : at + n ≤ length out
  part_fits = omega (arith, fits, long, room)

  pub part_put : (take at out ++ (part ++ drop m (drop at out)) ≡ pasted text at out)
      × (at + n ≡ at + length text)
      × (at + n ≤ length (take at out ++ (part ++ drop m (drop at out))))
  unfolding pasted overwrite
  part_put = (
    ap (λ (r : List ℕ). take at out ++ r) (ap (λ (p : List ℕ). p ++ drop m (drop at out)) is ∙ over_part text (drop at out) m fits),
    ap (λ (k : ℕ). at + k) long,
    omega (
      arith,
      part_fits,
      same,
      size,
      length-append (take at out) (part ++ drop m (drop at out)),
      length-append part (drop m (drop at out)),
      length-take at out,
      length-drop at out,
      length-drop m (drop at out),
    ),
  )

pub ruleset part_laws = (part_fits, part_put)

-- ---- a report

-- the writer on a part that is long enough
report_into : (r : ReportFields) (buffer : List ℕ) → buffer_limit ≤ length buffer → report_call r buffer ≡ leaves (Ok (length (report_line r))) (overwrite (report_line r) buffer)
unfolding report_call
report_into r buffer k = rw (le-ltb (length buffer) buffer_limit k)

module _ (r : ReportFields) (buffer : List ℕ) (room : buffer_limit ≤ length buffer) where
  pub line_long : {n : ℕ} → n ≡ result_unwrap_or (report_call r buffer).answer 0 → n ≡ length (report_line r)
  line_long e = e ∙ ap (λ (l : Left ℕ (List ℕ)). result_unwrap_or l.answer 0) (report_into r buffer room)

  pub line_over : {part : List ℕ} → part ≡ (report_call r buffer).lent → part ≡ overwrite (report_line r) buffer
  line_over e = e ∙ ap (λ (l : Left ℕ (List ℕ)). l.lent) (report_into r buffer room)

  pub line_within : {n : ℕ} {part : List ℕ} → n ≡ result_unwrap_or (report_call r buffer).answer 0 → part ≡ (report_call r buffer).lent → n ≤ length part
  unfolding overwrite
  line_within e f = omega (arith, line_long e, ap length (line_over f), length-append (report_line r) (drop (length (report_line r)) buffer))

  pub line_handed : {n : ℕ} {part line : List ℕ} → n ≡ result_unwrap_or (report_call r buffer).answer 0 → part ≡ (report_call r buffer).lent → line ≡ take n part
      → length line ≡ length (report_line r)
  line_handed e f g =
      ap length (g ∙ ap₂ (λ (k : ℕ) (l : List ℕ). take k l) (line_long e) (line_over f) ∙ overwrite_take (report_line r) buffer)

pub ruleset line_put = (line_over, line_within, line_handed)
