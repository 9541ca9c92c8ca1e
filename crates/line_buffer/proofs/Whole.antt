-- A LINE THAT STANDS WHOLE: the line buffer takes its bytes as they stand, and reads as it does there. Assumes nothing.
use mathlib.Core.Path.{◌≡◌, refl, sym, ap, ap₂, ◌∙◌}
use mathlib.Core.Bool.{true}
use mathlib.Core.List.{List, [], ◌∷◌, ◌++◌}
use Prim.Native.Nat.{ℕ, suc, ◌+◌, ◌-◌, ◌*◌, ◌≤◌, ◌<◌}
use native.Mathlib.Omega.{arith}
use lib.ListN.{length, take, drop, length-append, length-take}
use lib.Seq.{set-append_seam, append_snoc, length-take-le}
use borrow.Author.Tests.{lt-ltb}
use Rattle.std.specs.Prelude.{Some}
use Rattle.std.proofs.lemmas.Bool.{and_parts}
use Rattle.std.proofs.lemmas.List.{take-append-drop, take_at}
use Rattle.lists.proofs.Appends.{append_none}
use Rattle.lists.specs.Lists.{allb, overwrite}
use Rattle.hexadecimal.specs.Hex.{is_digit, is_byte, digits_of}
use Rattle.hexadecimal.proofs.DigitLaws.{digit_no_end}
use Rattle.hexadecimal.proofs.Spelling.{length_digits, all_digits}
use Rattle.notice.specs.Lines.{line_limit, line_end, line_of, is_frame, frame, read_line}
use Rattle.notice.specs.Calls.{line_found}
use Rattle.notice.proofs.Ends.{length_line}
use Rattle.notice.proofs.Readings.{behind}
use Rattle.notice.proofs.Theorems.{line_opened, line_most, written_reads, read_written, read_used, read_is_frame}
use Rattle.line_buffer.specs.Lines.{StandsWhole, Holding, holding, hold_byte, PartLeft, part_from}

-- a text's first bytes over those of a buffer
pub copied_over : (line text : List ℕ) (count : ℕ) {after : List ℕ} → after ≡ take count text → count ≤ length text → after ++ drop count line ≡ overwrite (take count text) line
unfolding overwrite
copied_over line text count e k = ap₂ (λ (r : List ℕ) (i : ℕ). r ++ drop i line) e (sym (length-take-le count text k))

-- ---- digits and their end, behind the bytes that are held

-- a byte that is kept behind those that are held
byte_kept : (pre : List ℕ) (b x : ℕ) (old : List ℕ) → length pre < line_limit
    → hold_byte b (holding (pre ++ (x ∷ old)) (length pre)) ≡ holding (pre ++ (b ∷ old)) (length pre + 1)
unfolding hold_byte
byte_kept pre b x old k = rw (lt-ltb (length pre) line_limit k, set-append_seam pre x old b) refl

-- a line that has ended, by the place behind it, the buffer, and the bytes held
abbrev ended : ℕ → List ℕ → ℕ → PartLeft
ended at line held = record { at = at; ended = true; buffer = holding line held }

part_digits : (ds rest pre old : List ℕ) (at : ℕ) → allb is_digit ds ≡ true → length pre + length ds < line_limit → length ds < length old
    → part_from at (holding (pre ++ old) (length pre)) (ds ++ (line_end ∷ rest))
    ≡ ended (at + (length ds + 1)) (pre ++ (ds ++ (line_end ∷ drop (length ds + 1) old))) (length pre + (length ds + 1))
unfolding part_from allb
part_digits [] rest pre [] at a k l = absurd (omega arith)
part_digits [] rest pre (x ∷ old) at a k l = rw (byte_kept pre line_end x old (omega arith)) refl
part_digits (d ∷ ds) rest pre [] at a k l = absurd (omega arith)
part_digits (d ∷ ds) rest pre (x ∷ old) at a k l =
    let p = and_parts (is_digit d) (allb is_digit ds) a in
    let n : length (pre ++ (d ∷ [])) ≡ length pre + 1 = length-append pre (d ∷ []) in
    let m : suc (length ds + 1) ≡ suc (length ds) + 1 = omega arith in
    let left = ds ++ (line_end ∷ drop (length ds + 1) old) in
    rw (digit_no_end d p.0)
    (ap (λ (g : Holding). part_from (at + 1) g (ds ++ (line_end ∷ rest))) (byte_kept pre d x old (omega arith) ∙ ap₂ holding (sym (append_snoc pre d old)) (sym n))
    ∙ part_digits ds rest (pre ++ (d ∷ [])) old (at + 1) p.1 (omega arith) (omega arith)
    ∙ ap (λ (i : ℕ). ended i ((pre ++ (d ∷ [])) ++ left) (length (pre ++ (d ∷ [])) + (length ds + 1))) (omega arith)
    ∙ ap (λ (i : ℕ). ended (at + (suc (length ds) + 1)) ((pre ++ (d ∷ [])) ++ left) i) (omega arith)
    ∙ ap (λ (r : List ℕ). ended (at + (suc (length ds) + 1)) r (length pre + (suc (length ds) + 1))) (append_snoc pre d left)
    ∙ ap (λ (i : ℕ). ended (at + (suc (length ds) + 1)) (pre ++ (d ∷ (ds ++ (line_end ∷ drop i (x ∷ old))))) (length pre + (suc (length ds) + 1))) m)

-- ---- a text that begins with a line that ends and spells a frame

module _ (n : ℕ) (text : List ℕ) (is : StandsWhole n text) where
  abbrev f : List ℕ
  f = is.spelled

  used : length (line_of f) ≡ 2 * n + 1
  used = read_used text f (2 * n + 1) is.reads

  begins : take (2 * n + 1) text ≡ line_of f
  begins = read_written text f (2 * n + 1) is.reads

  frames : (is_frame f ≡ true) × (allb is_byte f ≡ true)
  frames = read_is_frame text f (2 * n + 1) is.reads

  text_is : text ≡ digits_of f ++ (line_end ∷ drop (2 * n + 1) text)
  text_is = sym (take-append-drop (2 * n + 1) text) ∙ ap (λ (r : List ℕ). r ++ drop (2 * n + 1) text) begins ∙ line_opened f (drop (2 * n + 1) text)

  pub whole_read : (line : List ℕ) → read_line (take (2 * n + 1) (overwrite (take (2 * n + 1) text) line)) ≡ read_line text
  unfolding overwrite
  whole_read line =
      ap read_line (take_at (take (2 * n + 1) text) (drop (length (take (2 * n + 1) text)) line) (2 * n + 1) (ap length begins ∙ used) ∙ begins ∙ sym (append_none (line_of f)))
      ∙ written_reads f [] frames.0 frames.1
      ∙ ap (frame f) used
      ∙ sym is.reads

  pub whole_part : (at : ℕ) (line : List ℕ) → line_limit ≤ length line
      → record { at = at + (2 * n + 1); ended = true; buffer = holding (overwrite (take (2 * n + 1) text) line) (2 * n + 1) } ≡ part_from at (holding line 0) text
  unfolding overwrite
  whole_part at line k =
      let e : length (line_of f) ≡ length (digits_of f) + 1 = omega (arith, length_digits f, length_line f) in
      let bytes = ap (λ (r : List ℕ). overwrite r line) begins ∙ line_opened f (drop (length (line_of f)) line) ∙ ap (λ (i : ℕ). digits_of f ++ (line_end ∷ drop i line)) e in
      ap (λ (r : List ℕ). ended (at + (2 * n + 1)) r (2 * n + 1)) bytes
      ∙ ap (λ (i : ℕ). ended (at + i) (digits_of f ++ (line_end ∷ drop (length (digits_of f) + 1) line)) i) (sym used ∙ e)
      ∙ ap (ended (at + (length (digits_of f) + 1)) (digits_of f ++ (line_end ∷ drop (length (digits_of f) + 1) line))) (omega arith)
      ∙ sym (part_digits (digits_of f) (drop (2 * n + 1) text) [] line at (all_digits f frames.1) (omega (arith, e, used, is.within)) (omega (arith, e, used, is.within, k)))
      ∙ ap (part_from at (holding line 0)) (sym text_is)

-- what the reader answers of a text that it reads
stands_whole : (text buffer : List ℕ) {n : ℕ} → line_found (Some n) buffer ≡ read_line text → StandsWhole n text
unfolding line_found
stands_whole text buffer {n} e =
    let is = sym e in
    let used = read_used text (take n buffer) (2 * n + 1) is in
    let p = read_is_frame text (take n buffer) (2 * n + 1) is in
    let l = line_most (take n buffer) p.0 p.1 in
    record {
      spelled = take n buffer;
      reads = is;
      fits = omega (arith, used, ap length (read_written text (take n buffer) (2 * n + 1) is), length-take (2 * n + 1) text);
      within = omega (arith, used, l);
    }

-- the same of the bytes of a piece from a place on, as the code takes them
pub stands_behind : (piece buffer : List ℕ) (at : ℕ) {n : ℕ} → line_found (Some n) buffer ≡ read_line (take (length piece - at) (drop at piece)) → StandsWhole n (drop at piece)
stands_behind piece buffer at e = stands_whole (drop at piece) buffer (e ∙ ap read_line (behind piece at))

pub ruleset whole = (whole_part, whole_read)
