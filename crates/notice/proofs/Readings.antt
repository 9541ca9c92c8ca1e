-- WHAT THE READER'S ANSWER SAYS OF THE LINE: the frame that stands in the buffer, or that there is none. Assumes nothing.
use mathlib.Core.Path.{◌≡◌, refl, sym, ap, ◌∙◌, subst}
use mathlib.Core.List.{List}
use Prim.Native.Nat.{ℕ, ◌-◌, ◌≤◌}
use native.Mathlib.Omega.{arith}
use lib.ListN.{length, get_or, take, drop, length-drop, get_or-append}
use lib.Seq.{drop-append-le, take_at, take_all}
use borrow.Author.Tests.{le-ltb, ltb-true}
use Rattle.lists.specs.Lists.{overwrite}
use Rattle.outcome.specs.Numbers.{garbled_line}
use Rattle.outcome.specs.Refusals.{number_of}
use Rattle.outcome.specs.declared.Refusal.{Refusal}
use Rattle.std.specs.Prelude.{Result, Ok, Err}
use Rattle.hexadecimal.specs.Hex.{is_byte}
use Rattle.notice.specs.Lines.{Line, garbled, frame, read_line}
use Rattle.notice.specs.Calls.{frame_limit, read_into, read_call}
use Rattle.outcome.specs.Answers.{Left, leaves, answer_of}
use Rattle.notice.specs.declared.Frame.{Frame}
use Rattle.lists.proofs.Scans.{all-at}
use Rattle.notice.proofs.Tests.{length_most, frame_parts}
use Rattle.notice.proofs.Theorems.{read_is_frame}

-- what the reader leaves
abbrev ReadLeft : Type 0
ReadLeft = Left Frame (List ℕ)

-- the reader on a frame buffer that is long enough
read_into_lem : (text buffer : List ℕ) → frame_limit ≤ length buffer → read_call text buffer ≡ read_into (read_line text) buffer
unfolding read_call
read_into_lem text buffer k = rw (le-ltb (length buffer) frame_limit k)

-- the bytes behind a place, as the code takes them
pub behind : (s : List ℕ) (at : ℕ) → take (length s - at) (drop at s) ≡ drop at s
behind s at = take_all (length s - at) (drop at s) (omega (arith, length-drop at s))

-- ---- a line that reads

-- the frame f stands in the buffer: its length, itself, and of its bytes those that are looked at one by one
pub record FrameStands (f : List ℕ) (n : ℕ) (after : List ℕ) : Type 0 where
  pub long : 3 ≤ n
  pub fits : n ≤ frame_limit
  pub whole : take n after ≡ f
  pub kind : get_or after 0 0 ≡ get_or f 0 0
  pub code : get_or after 1 0 ≡ get_or f 1 0
  pub neighbours : take (n - 3) (drop 3 after) ≡ drop 3 f

-- what a frame's own bytes say of its length
frame-length : (text f : List ℕ) (u : ℕ) → read_line text ≡ frame f u → (3 ≤ length f) × (length f ≤ frame_limit)
unfolding is_byte
frame-length text f u e =
    let p = read_is_frame text f u e in
    let q = frame_parts f p.0 in
    let b = ltb-true (get_or f 2 0) 256 (all-at is_byte f 2 0 (omega (arith, q)) p.1) in
    (q.0, omega (arith, q, b, length_most (get_or f 0 0) (get_or f 2 0)))

stands_in : (f buffer : List ℕ) → 3 ≤ length f → length f ≤ frame_limit → FrameStands f (length f) (overwrite f buffer)
unfolding overwrite
stands_in f buffer l k = record {
  long = l;
  fits = k;
  whole = take_at f (drop (length f) buffer) (length f) refl;
  kind = get_or-append f (drop (length f) buffer) 0 0 (omega arith);
  code = get_or-append f (drop (length f) buffer) 0 1 (omega arith);
  neighbours = ap (take (length f - 3)) (drop-append-le 3 f (drop (length f) buffer) l) ∙ take_at (drop 3 f) (drop (length f) buffer) (length f - 3) (length-drop 3 f);
}

-- the numbers in an answer, of a frame or of a refusal; 0 where it has none
length_in : Result Frame ℕ → ℕ
length_in (Ok w) = w.length
length_in (Err k) = 0

used_in : Result Frame ℕ → ℕ
used_in (Ok w) = w.used
used_in (Err k) = 0

number_in : Result Frame ℕ → ℕ
number_in (Ok w) = 0
number_in (Err k) = k

-- the reader's answers, one by one
pub frame_read : (text buffer : List ℕ) {r : Result Frame Refusal} {w : Frame} {after : List ℕ} → frame_limit ≤ length buffer → r ≡ Ok w → leaves (answer_of r) after ≡ read_call text buffer
    → (f : List ℕ) × (read_line text ≡ frame f w.used) × FrameStands f w.length after
unfolding read_into length_in used_in number_in
frame_read text buffer {r} {w} {after} k g e = go (read_line text) refl (sym (ap (λ (x : Result Frame Refusal). leaves (answer_of x) after) g) ∙ e ∙ read_into_lem text buffer k)
  where
    go : (l : Line) → read_line text ≡ l → leaves (Ok w) after ≡ read_into l buffer → (f : List ℕ) × (read_line text ≡ frame f w.used) × FrameStands f w.length after
    go garbled q r = let z : ◌≡◌ {A = ℕ} 0 garbled_line = ap (λ (x : ReadLeft). number_in x.answer) r in absurd (omega arith)
    go (frame f v) q r =
        let p = frame-length text f v q in
        let s : length f ≡ w.length = sym (ap (λ (x : ReadLeft). length_in x.answer) r) in
        let t : overwrite f buffer ≡ after = sym (ap (λ (x : ReadLeft). x.lent) r) in
        let u : v ≡ w.used = sym (ap (λ (x : ReadLeft). used_in x.answer) r) in
        (f, q ∙ ap (frame f) u, subst (λ (m : ℕ). FrameStands f m after) s (subst (FrameStands f (length f)) t (stands_in f buffer p.0 p.1)))

-- a line that does not read
pub garbled_read : (text buffer : List ℕ) {r : Result Frame Refusal} {e : Refusal} {after : List ℕ} → frame_limit ≤ length buffer → r ≡ Err e → leaves (answer_of r) after ≡ read_call text buffer
    → (read_line text ≡ garbled) × (number_of e ≡ garbled_line)
unfolding read_into number_in length_in
garbled_read text buffer {r} {e} {after} k g h = go (read_line text) refl (sym (ap (λ (x : Result Frame Refusal). leaves (answer_of x) after) g) ∙ h ∙ read_into_lem text buffer k)
  where
    go : (l : Line) → read_line text ≡ l → leaves (Err (number_of e)) after ≡ read_into l buffer → (read_line text ≡ garbled) × (number_of e ≡ garbled_line)
    go garbled q r = (q, ap (λ (x : ReadLeft). number_in x.answer) r)
    go (frame f v) q r =
        let p = frame-length text f v q in
        let z : 0 ≡ length f = ap (λ (x : ReadLeft). length_in x.answer) r in
        absurd (omega (arith, p))
