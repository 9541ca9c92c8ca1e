-- A SENTENCE ON A LINE, behind what is written. Assumes nothing.
use mathlib.Core.Path.{◌≡◌, sym, ap, ap₂, ◌∙◌}
use mathlib.Core.List.{List, [], ◌∷◌, ◌++◌}
use Prim.Native.Nat.{ℕ, ◌+◌, ◌-◌, ◌≤◌, ◌<◌}
use native.Mathlib.Omega.{arith}
use lib.ListN.{length, set, take, drop, length-append, length-take, length-drop}
use lib.Seq.{drop-drop}
use borrow.Author.Tests.{le-ltb}
use Rattle.std.specs.Prelude.{Result, Ok, Option, Some}
use Rattle.std.specs.Result.{result_unwrap_or}
use Rattle.lists.specs.Lists.{overwrite}
use Rattle.lists.proofs.Fills.{overwrite_take}
use Rattle.outcome.specs.declared.Refusal.{Refusal}
use Rattle.notice.specs.Lines.{line_end}
use Rattle.decimal.specs.Placed.{Placed}
use Rattle.decimal.proofs.Places.{placed_byte, placed_join, placed_text}
use Rattle.report.specs.declared.ReportFields.{ReportFields}
use Rattle.sentences.specs.Calls.{buffer_limit, write_call}
use Rattle.sentences.specs.Sentence.{sentence_of}
use Rattle.sentences.specs.declared.Event.{Event}
use Rattle.sentences.specs.declared.Said.{Said}
use Rattle.line_buffer.specs.Lines.{pasted}
use Rattle.line_buffer.proofs.Putting.{over_part}
use Rattle.narration.specs.Narration.{event_in, said_on, sentence_text}

-- what a call of the writer leaves: its answer, and the part that it was lent
abbrev Left : Type 0
Left = Result ℕ Refusal × List ℕ

-- the writer on a part that is long enough
write_into : (s : Said) (part : List ℕ) → buffer_limit ≤ length part → write_call s part ≡ (Ok (length (sentence_of s)), overwrite (sentence_of s) part)
unfolding write_call
write_into s part k = rw (le-ltb (length part) buffer_limit k)

module _ (s : Said) (buffer : List ℕ) (room : buffer_limit ≤ length buffer) where
  pub said_long : {n : ℕ} → n ≡ result_unwrap_or (write_call s buffer).0 0 → n ≡ length (sentence_of s)
  said_long e = e ∙ ap (λ (l : Left). result_unwrap_or l.0 0) (write_into s buffer room)

  pub said_over : {part : List ℕ} → part ≡ (write_call s buffer).1 → part ≡ overwrite (sentence_of s) buffer
  said_over e = e ∙ ap (λ (l : Left). l.1) (write_into s buffer room)

  pub said_within : {n : ℕ} {part : List ℕ} → n ≡ result_unwrap_or (write_call s buffer).0 0 → part ≡ (write_call s buffer).1 → n ≤ length part
  unfolding overwrite
  said_within e f = omega (arith, said_long e, ap length (said_over f), length-append (sentence_of s) (drop (length (sentence_of s)) buffer))

  pub said_handed : {n : ℕ} {part line : List ℕ} → n ≡ result_unwrap_or (write_call s buffer).0 0 → part ≡ (write_call s buffer).1 → line ≡ take n part
      → length line ≡ length (sentence_of s)
  said_handed e f g =
      ap length (g ∙ ap₂ (λ (k : ℕ) (l : List ℕ). take k l) (said_long e) (said_over f) ∙ overwrite_take (sentence_of s) buffer)

pub ruleset said_put = (said_over, said_within, said_handed)

module _ (s : Said) (out : List ℕ) (at m : ℕ) (is : m ≡ buffer_limit) (k : at + (buffer_limit + 1) ≤ length out) {n : ℕ} {part : List ℕ}
    (over : part ≡ overwrite (sentence_of s) (take m (drop at out))) (same : length part ≡ length (take m (drop at out))) (long : n ≡ length (sentence_of s)) where
  size : length (take m (drop at out)) ≡ m
  size = omega (arith, is, length-take m (drop at out), length-drop at out)

  pub sentence_fits : n ≤ buffer_limit
  unfolding overwrite
  sentence_fits =
      omega (arith, same, ap length over, size, is, long, length-append (sentence_of s) (drop (length (sentence_of s)) (take m (drop at out))))

  sentence_placed : Placed (sentence_of s) at out (at + n) (take at out ++ (part ++ drop m (drop at out)))
  unfolding overwrite
  sentence_placed = record {
    behind = ap (λ (x : ℕ). at + x) long;
    is = ap (λ (r : List ℕ). take at out ++ r) (
        ap (λ (l : List ℕ). l ++ drop m (drop at out)) over
        ∙ over_part (sentence_of s) (drop at out) m (omega (arith, sentence_fits, is, long))
        ∙ ap (λ (r : List ℕ). sentence_of s ++ r) (drop-drop (length (sentence_of s)) at out));
  }

  pub place_within : at + n < length (take at out ++ (part ++ drop m (drop at out)))
  place_within = omega (
    arith,
    sentence_fits,
    same,
    size,
    is,
    length-append (take at out) (part ++ drop m (drop at out)),
    length-append part (drop m (drop at out)),
    length-take at out,
    length-drop m (drop at out),
    length-drop at out,
  )

  pub line_put : Placed (sentence_of s ++ line_end ∷ []) at out (at + n + 1) (set (take at out ++ (part ++ drop m (drop at out))) (at + n) 10)
  line_put = placed_join sentence_placed (placed_byte (at + n) (take at out ++ (part ++ drop m (drop at out))) 10 place_within) (omega arith)

pub ruleset sentence_put = (sentence_fits, place_within, line_put)

-- ---- what is put is the answer's text

pub told : (text : List ℕ) (at : ℕ) (out : List ℕ) {new : List ℕ} {end : ℕ} → Placed text at out end new → at ≤ length out → (new ≡ pasted text at out) × (end ≡ at + length text) × (end ≤ length new)
unfolding pasted overwrite
told text at out w l = (
  w.is ∙ ap (λ (r : List ℕ). take at out ++ (text ++ r)) (sym (drop-drop (length text) at out)),
  w.behind,
  omega (
    arith,
    w.behind,
    ap length w.is,
    length-append (take at out) (text ++ drop (at + length text) out),
    length-append text (drop (at + length text) out),
    length-take at out,
    length-drop (at + length text) out,
  ),
)

pub told_frame : {read : Option (List ℕ)} {f : List ℕ} {e : Event} {s : Said} (r : ReportFields) (at : ℕ) (out : List ℕ) {new : List ℕ} {end : ℕ} → read ≡ Some f → e ≡ event_in f → s ≡ said_on e r
    → Placed (sentence_of s ++ line_end ∷ []) at out end new → at + (buffer_limit + 1) ≤ length out
    → (new ≡ pasted (sentence_text read r) at out) × (end ≡ at + length (sentence_text read r)) × (end ≤ length new)
unfolding sentence_text
told_frame {read} {f} {e} {s} r at out p q i w l =
    let t : sentence_of s ++ line_end ∷ [] ≡ sentence_text read r =
    ap (λ (x : Said). sentence_of x ++ line_end ∷ []) (i ∙ ap (λ (y : Event). said_on y r) q)
    ∙ sym (ap (λ (x : Option (List ℕ)). sentence_text x r) p) in
    told (sentence_text read r) at out (placed_text w t) (omega arith)
