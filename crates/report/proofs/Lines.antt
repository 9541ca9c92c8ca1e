-- The pieces of a report line put one behind another, and what the call answers then. Assumes nothing.
use mathlib.Core.Path.{◌≡◌, refl, sym, ap, ap₂, ◌∙◌}
use mathlib.Core.Bool.{Bool, true, false, cond}
use mathlib.Core.List.{List, [], ◌∷◌}
use Prim.Native.Nat.{ℕ, ◌+◌, ◌≤◌, ◌<◌, zero-le}
use native.Mathlib.Nat.{zero-add}
use native.Mathlib.Omega.{arith}
use lib.Dec.{ltb}
use lib.ListN.{length, set, take, drop, length-append, length-set}
use lib.Seq.{length-take-le}
use borrow.Author.Tests.{lt-ltb, le-ltb}
use Rattle.lists.specs.Lists.{overwrite}
use Rattle.outcome.specs.Numbers.{short_buffer}
use Rattle.outcome.specs.Outcome.{letter_of, refusal_of}
use Rattle.outcome.specs.declared.Change.{Change}
use Rattle.outcome.specs.declared.Outcome.{Outcome}
use Rattle.outcome.specs.declared.Outcome.TheVariants.{Accepted, Refused}
use Rattle.outcome.specs.declared.Refusal.{Refusal}
use Rattle.std.specs.Prelude.{Result, Ok, Err}
use Rattle.std.specs.Result.{result_unwrap_or}
use Rattle.decimal.specs.Decimal.{decimal, field}
use Rattle.decimal.specs.Placed.{Placed}
use Rattle.decimal.proofs.Decimals.{decimal_word, decimal_byte}
use Rattle.decimal.proofs.Places.{placed_byte, placed_join, placed_text, placed_end, placed_whole}
use Rattle.report.specs.declared.ReportFields.{ReportFields}
use Rattle.report.proofs.Texts.{figures_most}
use Rattle.report.specs.Line.{outcome_text, figures_text, report_line, buffer_limit, report_call}
use Rattle.outcome.specs.Answers.{answer_of, Left, leaves}

-- ---- the outcome

letter_placed : (at : ℕ) (old : List ℕ) (l : ℕ) → at + 1 < length old → Placed (32 ∷ l ∷ []) at old (at + 2) (set (set old at 32) (at + 1) l)
letter_placed at old l h =
    placed_end (placed_join (placed_byte at old 32 (omega arith)) (placed_byte (at + 1) (set old at 32) l (simp length-set h)) (omega arith)) (omega arith)

-- the letter alone
pub accepted_placed : (o : Outcome) (at : ℕ) (old : List ℕ) {c : Change} {l : ℕ} → o ≡ Accepted c → l ≡ letter_of o → at + 1 < length old
    → Placed (field (outcome_text o)) at old (at + 2) (set (set old at 32) (at + 1) l)
unfolding field outcome_text
accepted_placed o at old {c} {l} e k h =
    placed_text (letter_placed at old l h) (ap (λ (x : ℕ). 32 ∷ x ∷ []) (k ∙ ap letter_of e) ∙ sym (ap (λ (p : Outcome). field (outcome_text p)) e))

-- the letter, and the number behind it
pub refused_placed : (o : Outcome) (at : ℕ) (old : List ℕ) {n l end : ℕ} {new : List ℕ} → o ≡ Refused n → l ≡ letter_of o → Placed (decimal n) (at + 2) (set (set old at 32) (at + 1) l) end new → at + 1 < length old
    → Placed (field (outcome_text o)) at old end new
unfolding field outcome_text refusal_of
refused_placed o at old {n} {l} e k w h =
    placed_text (placed_join (letter_placed at old l h) w (omega arith))
    (ap (λ (x : ℕ). 32 ∷ x ∷ decimal n) (k ∙ ap letter_of e) ∙ sym (ap (λ (p : Outcome). field (outcome_text p)) e))

pub ruleset outcome_put = (accepted_placed, refused_placed, decimal_byte, length-set)

-- ---- the call

pub report_short : (r : ReportFields) (buffer : List ℕ) → length buffer < buffer_limit → leaves (Err short_buffer) buffer ≡ report_call r buffer
unfolding report_call
report_short r buffer h = rw (lt-ltb (length buffer) buffer_limit h)

pub report_done_lem : (r : ReportFields) {buffer after : List ℕ} {end : ℕ} → Placed (report_line r) 0 buffer end after → buffer_limit ≤ length buffer → leaves (Ok end) after ≡ report_call r buffer
unfolding report_call
report_done_lem r {buffer} w k =
    ap₂ (λ (n : ℕ) (l : List ℕ). leaves (Ok n) l) (w.behind ∙ zero-add (length (report_line r))) (placed_whole w)
    ∙ rw (le-ltb (length buffer) buffer_limit k)

-- the pieces of a line, and its ending
pub line_placed : (r : ReportFields) {buffer b₁ b₂ b₃ : List ℕ} {e₁ e₂ e₃ : ℕ} → Placed (decimal r.number) 0 buffer e₁ b₁ → Placed (field (outcome_text r.outcome)) e₁ b₁ e₂ b₂ → Placed (figures_text r) e₂ b₂ e₃ b₃
    → e₃ < length b₃ → Placed (report_line r) 0 buffer (e₃ + 1) (set b₃ e₃ 10)
unfolding report_line
line_placed r {b₃ = b₃} {e₃ = e₃} p q s h = placed_join (placed_join (placed_join p q (omega arith)) s (omega arith)) (placed_byte e₃ b₃ 10 h) (omega arith)

pub ruleset written = (report_short, report_done_lem, line_placed, decimal_word, figures_most, length-set)

-- ---- what is handed back

-- the length is the answer's, which of a refusal is 0
told : (w : Result ℕ Refusal) → result_unwrap_or w 0 ≡ result_unwrap_or (answer_of w) 0
told (Ok n) = refl
told (Err k) = refl

module _ (w : Result ℕ Refusal) {after : List ℕ} {call : Left ℕ (List ℕ)} (e : leaves (answer_of w) after ≡ call) where
  pub length_told : {k : ℕ} → k ≡ result_unwrap_or w 0 → k ≡ result_unwrap_or call.answer 0
  length_told p = p ∙ told w ∙ ap (λ (l : Left ℕ (List ℕ)). result_unwrap_or l.answer 0) e

  pub lent_told : after ≡ call.lent
  lent_told = ap (λ (l : Left ℕ (List ℕ)). l.lent) e

pub ruleset handed = (length_told, lent_told)
