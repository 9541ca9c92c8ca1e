-- What the two calls answer, way out by way out. Assumes nothing.
use mathlib.Core.Path.{◌≡◌, sym, ap, ap₂, ◌∙◌}
use mathlib.Core.Bool.{true, false}
use mathlib.Core.List.{List}
use Prim.Native.Nat.{ℕ, ◌+◌, ◌*◌, ◌/◌, ◌≤◌, ◌<◌}
use native.Mathlib.Omega.{arith}
use lib.Dec.{ltb}
use lib.ListN.{length, get_or, set, take, length-take}
use borrow.Author.Tests.{lt-ltb, le-ltb}
use Rattle.outcome.specs.Numbers.{short_buffer, garbled_line}
use Rattle.lists.specs.Lists.{allb, overwrite}
use Rattle.notice.specs.Lines.{line_limit, line_end, is_frame, line_of, end_of, spells_frame, read_head, read_line}
use Rattle.hexadecimal.specs.Hex.{is_digit, digits_of, bytes_of}
use Rattle.notice.specs.Calls.{frame_limit, read_into, read_call, write_call}
use Rattle.std.specs.Prelude.{Ok, Err}
use Rattle.outcome.specs.Answers.{leaves}
use Rattle.lists.proofs.Copies.{overwrite_snoc}
use Rattle.hexadecimal.proofs.Spelling.{length_digits, length_bytes}
use Rattle.notice.proofs.Ends.{end_found, end_none, end_stray, length_line}
use Rattle.notice.proofs.Tests.{and_none, spells_other, frame_most}

-- ---- the reader

pub read_short : (input buffer : List ℕ) → length buffer < frame_limit → leaves (Err short_buffer) buffer ≡ read_call input buffer
unfolding read_call
read_short input buffer h = rw (lt-ltb (length buffer) frame_limit h)

read-head : (input buffer : List ℕ) {head : List ℕ} → head ≡ take line_limit input → frame_limit ≤ length buffer → read_into (read_head head) buffer ≡ read_call input buffer
unfolding read_call read_line
read-head input buffer e k = rw (le-ltb (length buffer) frame_limit k, e)

-- ds are the digits that the head begins with: behind them stands the first byte that is no digit
module _ (input : List ℕ) {head ds : List ℕ} (part : head ≡ take line_limit input) (digits : allb is_digit ds ≡ true)
    (at : (length ds ≤ length head) × (ds ≡ take (length ds) head) × (length ds < length head → is_digit (get_or head (length ds) 0) ≡ false)) where
  pub end_most : length ds ≤ line_limit
  end_most = omega (arith, at.0, ap length part, length-take line_limit input)

  -- the digits fit the frame buffer, two to a byte
  pub digits_fit : (buffer : List ℕ) → (length ds ≡ length head → ⊥) → frame_limit ≤ length buffer → length ds ≤ 2 * length buffer
  digits_fit buffer n k = omega (arith, at.0, ap length part, length-take line_limit input)

  before : allb is_digit (take (length ds) head) ≡ true
  before = ap (allb is_digit) (sym at.1) ∙ digits

  pub read_endless : (buffer : List ℕ) → length ds ≡ length head → frame_limit ≤ length buffer
      → leaves (Err garbled_line) buffer ≡ read_call input buffer
  unfolding read_head read_into
  read_endless buffer n k = rw (le-ltb (end_of head) (length head) (omega (arith, end_none head (length ds) n before))) at (read-head input buffer part k)

  pub read_stray : (buffer : List ℕ) → (length ds ≡ length head → ⊥) → (get_or head (length ds) 0 ≡ line_end → ⊥) → frame_limit ≤ length buffer
      → leaves (Err garbled_line) buffer ≡ read_call input buffer
  unfolding read_head read_into
  read_stray buffer n o k =
      let l : length ds < length head = omega (arith, at.0) in
      let s = spells_other (take (end_of head) head) (end_stray head (length ds) l before o (at.2 l)) in
      rw (← s, ← and_none (ltb (end_of head) (length head))) at (read-head input buffer part k)

  -- where it is 0A, it is the line's end, and the digits are what stands before that
  ended : (length ds ≡ length head → ⊥) → get_or head (length ds) 0 ≡ line_end → end_of head ≡ length ds
  ended n o = sym (end_found head (length ds) (omega (arith, at.0)) before o)

  pub read_other : (buffer : List ℕ) → (length ds ≡ length head → ⊥) → get_or head (length ds) 0 ≡ line_end → spells_frame ds ≡ false → frame_limit ≤ length buffer
      → leaves (Err garbled_line) buffer ≡ read_call input buffer
  unfolding read_head read_into
  read_other buffer n o s k = rw (ended n o, ← at.1, s, ← and_none (ltb (length ds) (length head))) at (read-head input buffer part k)

  pub read_done : (buffer : List ℕ) {after : List ℕ} → after ≡ overwrite (bytes_of ds) buffer → (length ds ≡ length head → ⊥) → get_or head (length ds) 0 ≡ line_end
      → spells_frame ds ≡ true → frame_limit ≤ length buffer → leaves (Ok (record { length = length ds / 2; used = length ds + 1 })) after ≡ read_call input buffer
  unfolding read_head read_into
  read_done buffer {after} w n o s k =
      let l : length ds < length head = omega (arith, at.0) in
      ap₂ (λ (i : ℕ) (r : List ℕ). leaves (Ok (record { length = i; used = length ds + 1 })) r) (sym (length_bytes ds)) w
      ∙ (rw (ended n o, lt-ltb (length ds) (length head) l, ← at.1, s) at (read-head input buffer part k))

pub ruleset reading = (read_short, end_most, digits_fit, read_endless, read_stray, read_other, read_done)

-- ---- the writer

pub write-short : (f buffer : List ℕ) → length buffer < line_limit → leaves (Err short_buffer) buffer ≡ write_call f buffer
unfolding write_call
write-short f buffer h = rw (lt-ltb (length buffer) line_limit h)

pub write-other : (f buffer : List ℕ) → is_frame f ≡ false → line_limit ≤ length buffer → leaves (Err garbled_line) buffer ≡ write_call f buffer
unfolding write_call
write-other f buffer n k = rw (le-ltb (length buffer) line_limit k, n)

line-ended : (f buffer : List ℕ) → 2 * length f < length buffer → set (overwrite (digits_of f) buffer) (2 * length f) line_end ≡ overwrite (line_of f) buffer
unfolding line_of
line-ended f buffer h =
    ap (λ (i : ℕ). set (overwrite (digits_of f) buffer) i line_end) (sym (length_digits f))
    ∙ overwrite_snoc (digits_of f) buffer line_end (omega (arith, length_digits f))

pub write_done : (f buffer : List ℕ) {mid : List ℕ} → mid ≡ overwrite (digits_of f) buffer → is_frame f ≡ true → 2 * length f < length buffer → line_limit ≤ length buffer
    → leaves (Ok (2 * length f + 1)) (set mid (2 * length f) line_end) ≡ write_call f buffer
unfolding write_call
write_done f buffer {mid} w h l k =
    ap₂ (λ (n : ℕ) (r : List ℕ). leaves (Ok n) r) (sym (length_line f)) (ap (λ (r : List ℕ). set r (2 * length f) line_end) w ∙ line-ended f buffer l)
    ∙ rw (le-ltb (length buffer) line_limit k, h)

pub ruleset writing = (write-short, write-other, write_done, frame_most)
