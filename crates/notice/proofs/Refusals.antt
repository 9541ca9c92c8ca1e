-- THE REFUSALS of reader and writer, in the published words. Assumes nothing.
use mathlib.Core.Path.{◌≡◌, refl, sym, ap, ◌∙◌, subst}
use mathlib.Core.Logic.{◌↔◌}
use mathlib.Core.Bool.{Bool, true, false, cond, not}
use mathlib.Core.List.{List, [], ◌∷◌, ◌++◌}
use Prim.Native.Nat.{ℕ, suc, ◌<◌}
use native.Mathlib.Omega.{arith}
use lib.Dec.{leb, ltb}
use lib.ListN.{length, get_or, drop, take-append-drop}
use borrow.Author.Tests.{ltb-true, lt-ltb}
use Rattle.std.specs.Prelude.{None, Ok, Err, All}
use Rattle.std.proofs.lemmas.Bool.{and_from}
use Rattle.lists.specs.Lists.{allb, first_of, overwrite}
use Rattle.lists.specs.Conditions.{IsShort}
use Rattle.lists.proofs.Conditions.{Decides, decides_not, decides_below, Tells}
use Rattle.outcome.specs.Numbers.{short_buffer, garbled_line}
use Rattle.outcome.specs.Answers.{Left, leaves, refusal_in, unless, numbered, Refuses}
use Rattle.outcome.proofs.Answers.{refuses_by}
use Rattle.notice.specs.Lines.{line_limit, is_frame, line_of, Line, garbled, frame, read_line}
use Rattle.notice.specs.Calls.{frame_limit, read_into, read_call, write_call}
use Rattle.notice.specs.Refusals.{IsFrame, IsGarbled, BeginsWith, ReadRefuses, WriteRefuses}
use Rattle.notice.specs.declared.Frame.{Frame}
use Rattle.notice.proofs.Frames.{is_garbled, decides_garbled, frame_told, told_frame, decides_frame}
use Rattle.notice.proofs.Theorems.{written_reads, read_written, read_used, read_is_frame}
use Rattle.hexadecimal.specs.Hex.{is_byte}
use Rattle.lists.proofs.Scans.{all-at}

-- a call with two tests, one after the other
two_refuse : {A : Type 0} {short other : Bool} {P Q : Type 0} → Decides short P → Decides other Q → (old : List ℕ) (done : Left A (List ℕ)) → refusal_in done.answer ≡ None
    → Refuses ((P, short_buffer) ∷ (Q, garbled_line) ∷ []) old (cond short (leaves (Err short_buffer) old) (cond other (leaves (Err garbled_line) old) done))
unfolding first_of numbered unless allb
two_refuse {A} {short} {other} {P} {Q} p q old done d =
    let cs : List (Type 0 × ℕ) = (P, short_buffer) ∷ (Q, garbled_line) ∷ [] in
    let ts : List (Bool × ℕ) = (short, short_buffer) ∷ (other, garbled_line) ∷ [] in
    let second : Tells ((other, garbled_line) ∷ []) ((Q, garbled_line) ∷ []) = (refl, q, λ f. tt) in
    subst (Refuses cs old) (same short other) (refuses_by ts cs (refl, p, λ f. second) refl old done d)
  where
    same : (a b : Bool) → unless (numbered (first_of ((a, short_buffer) ∷ (b, garbled_line) ∷ []))) old done ≡ cond a (leaves (Err short_buffer) old) (cond b (leaves (Err garbled_line) old) done)
    same true b = refl
    same false true = refl
    same false false = refl

-- ---- the reader

-- what a line that reads leaves
done_of : Line → List ℕ → Left Frame (List ℕ)
done_of garbled buffer = leaves (Ok (record { length = 0; used = 0 })) buffer
done_of (frame f used) buffer = read_into (frame f used) buffer

read_or_not : (l : Line) (buffer : List ℕ) → cond (is_garbled l) (leaves (Err garbled_line) buffer) (done_of l buffer) ≡ read_into l buffer
unfolding is_garbled done_of read_into
read_or_not garbled buffer = refl
read_or_not (frame f used) buffer = refl

is_done : (l : Line) (buffer : List ℕ) → refusal_in (done_of l buffer).answer ≡ None
unfolding done_of read_into
is_done garbled buffer = refl
is_done (frame f used) buffer = refl

pub reader_refusals : ReadRefuses read_call
unfolding read_call
reader_refusals input buffer =
    let l = read_line input in
    rw (← read_or_not l buffer)
    (two_refuse (decides_below (length buffer) frame_limit) (decides_garbled input) buffer (done_of l buffer) (is_done l buffer))

-- ---- the writer

pub writer_refusals : WriteRefuses write_call
unfolding write_call
writer_refusals f buffer =
    rw (← written_or_not (is_frame f))
    (two_refuse (decides_below (length buffer) line_limit) (decides_not (is_frame f) (decides_frame f)) buffer done refl)
  where
    done : Left ℕ (List ℕ)
    done = leaves (Ok (length (line_of f))) (overwrite (line_of f) buffer)

    written_or_not : (b : Bool) → cond (not b) (leaves (Err garbled_line) buffer) done ≡ cond b done (leaves (Err garbled_line) buffer)
    written_or_not true = refl
    written_or_not false = refl

-- ---- frames, and what reads as one

pub frame_is : (f : List ℕ) → (is_frame f ≡ true) ↔ IsFrame f
frame_is f = (told_frame f, frame_told f)

bytes_told : (f : List ℕ) → allb is_byte f ≡ true → All (λ b. b < 256) f
unfolding is_byte
bytes_told f h k d l = ltb-true (get_or f k d) 256 (all-at is_byte f k d l h)

told_bytes : (f : List ℕ) → All (λ b. b < 256) f → allb is_byte f ≡ true
unfolding allb is_byte
told_bytes [] h = refl
told_bytes (b ∷ bs) h =
    and_from _ _ (lt-ltb b 256 (h 0 b (omega arith))) (told_bytes bs (λ k d l. h (suc k) d (omega arith)))

line_only : (input f : List ℕ) (n : ℕ) → read_line input ≡ frame f n → BeginsWith f n input
line_only input f n e =
    let k = read_is_frame input f n e in record {
      is_frame = told_frame f k.0;
      of_bytes = bytes_told f k.1;
      used = sym (read_used input f n e);
      stands = read_written input f n e;
    }

line_each : (input f : List ℕ) (n : ℕ) → BeginsWith f n input → read_line input ≡ frame f n
line_each input f n w =
    ap read_line (sym (take-append-drop n input) ∙ ap (λ (l : List ℕ). l ++ drop n input) w.stands)
    ∙ written_reads f (drop n input) (frame_told f w.is_frame) (told_bytes f w.of_bytes)
    ∙ ap (frame f) (sym w.used)

-- what reads is the line of a frame that the input begins with, and each such line reads
pub line_is : (input f : List ℕ) (n : ℕ) → (read_line input ≡ frame f n) ↔ BeginsWith f n input
line_is input f n = (line_only input f n, line_each input f n)
