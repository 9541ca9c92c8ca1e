-- Reader and writer as functions on lists: each undoes the other, so each frame has exactly one line. Assumes nothing.
use mathlib.Core.Path.{◌≡◌, refl, sym, ap, ap₂, ◌∙◌}
use mathlib.Core.Bool.{Bool, true, false, cond, ◌&&◌}
use mathlib.Core.List.{List, [], ◌∷◌, ◌++◌}
use Prim.Native.Nat.{ℕ, suc, ◌+◌, ◌-◌, ◌*◌, ◌%◌, ◌≤◌, ◌<◌}
use native.Mathlib.Omega.{arith}
use lib.Dec.{ltb}
use lib.ListN.{length, get_or, take, drop, length-append, length-take}
use lib.Seq.{append_snoc, take-append_seam, take-append-add, take-take, take-suc}
use borrow.Author.Tests.{ltb-true, lt-ltb, eq-eqb, le-ltb}
use Rattle.std.proofs.lemmas.Bool.{and_parts, and_from}
use Rattle.lists.specs.Lists.{allb, overwrite}
use Rattle.notice.specs.Lines.{line_limit, line_end, opens_depot, frame_length, is_frame, line_of, end_of, spells_frame, garbled, frame, read_head, read_line}
use Rattle.hexadecimal.specs.Hex.{is_byte, digits_of, bytes_of}
use Rattle.notice.specs.Calls.{frame_limit, read_into, read_call, write_call}
use Rattle.std.specs.Prelude.{Ok}
use Rattle.outcome.specs.Answers.{leaves}
use Rattle.notice.proofs.Tests.{length-opening, length_most, length-only, Spells, frame_parts, spells_parts}
use Rattle.hexadecimal.proofs.Spelling.{length_digits, all_digits, bytes_digits, digits_bytes, bytes_below}
use Rattle.notice.proofs.Ends.{length_line, end_is, end_digits}
use Rattle.lists.proofs.Scans.{all-at}

-- ---- the length of a line

-- two digits for each byte, and the ending
pub line_length : (f : List ℕ) → is_frame f ≡ true → length (line_of f) ≡ 2 * frame_length (get_or f 0 0) (get_or f 2 0) + 1
line_length f h = let l = length_line f in let p = frame_parts f h in omega arith

third_below : (f : List ℕ) → is_frame f ≡ true → allb is_byte f ≡ true → get_or f 2 0 < 256
unfolding is_byte
third_below f h b = let p = frame_parts f h in ltb-true (get_or f 2 0) 256 (all-at is_byte f 2 0 (omega arith) b)

-- a line has at most 517 bytes, its ending counted
pub line_most : (f : List ℕ) → is_frame f ≡ true → allb is_byte f ≡ true → length (line_of f) ≤ line_limit
line_most f h b = let l = line_length f h in let c = third_below f h b in let m = length_most (get_or f 0 0) (get_or f 2 0) in omega arith

-- it has 517 exactly where the frame opens a depot, one that delivers or a yard, with 255 neighbours
pub line_longest : (f : List ℕ) → is_frame f ≡ true → opens_depot (get_or f 0 0) ≡ true → get_or f 2 0 ≡ 255 → length (line_of f) ≡ line_limit
line_longest f h k e = let l = line_length f h in let m = length-opening (get_or f 0 0) (get_or f 2 0) refl k refl in omega arith

pub line_longest_only : (f : List ℕ) → is_frame f ≡ true → length (line_of f) ≡ line_limit → (opens_depot (get_or f 0 0) ≡ true) × (get_or f 2 0 ≡ 255)
line_longest_only f h e =
    let l = line_length f h in
    let o = length-only (get_or f 0 0) (get_or f 2 0) (omega arith) in
    (o.0, omega (arith, o.1))

-- ---- what is written reads as the frame, whatever stands behind it

spells_digits : (f : List ℕ) → is_frame f ≡ true → allb is_byte f ≡ true → spells_frame (digits_of f) ≡ true
unfolding spells_frame
spells_digits f h b =
    let l = length_digits f in
    and_from _ _ (all_digits f b) (and_from _ _ (eq-eqb (length (digits_of f) % 2) 0 (omega arith)) (ap is_frame (bytes_digits f b) ∙ h))

head_reads : (ds rest : List ℕ) → spells_frame ds ≡ true → read_head (ds ++ line_end ∷ rest) ≡ frame (bytes_of ds) (length ds + 1)
unfolding read_head
head_reads ds rest h =
    let l : length (ds ++ line_end ∷ rest) ≡ length ds + suc (length rest) = length-append ds (line_end ∷ rest) in
    let t : ltb (length ds) (length (ds ++ line_end ∷ rest)) ≡ true = lt-ltb (length ds) (length (ds ++ line_end ∷ rest)) (omega arith) in
    rw (end_digits ds rest (spells_parts ds h).digits, take-append_seam ds (line_end ∷ rest), t, h)

pub line_opened : (f rest : List ℕ) → line_of f ++ rest ≡ digits_of f ++ line_end ∷ rest
unfolding line_of
line_opened f rest = append_snoc (digits_of f) line_end rest

pub written_reads : (f rest : List ℕ) → is_frame f ≡ true → allb is_byte f ≡ true → read_line (line_of f ++ rest) ≡ frame f (length (line_of f))
unfolding read_line
written_reads f rest h b =
    let m = line_limit - length (line_of f) in
    let k : length (line_of f) ≤ line_limit = line_most f h b in
    let e : line_limit ≡ length (line_of f) + m = omega arith in
    let l : length (digits_of f) + 1 ≡ length (line_of f) = omega (arith, length_digits f, length_line f) in
    ap (λ (n : ℕ). read_head (take n (line_of f ++ rest))) e
    ∙ ap read_head (take-append-add (line_of f) rest m ∙ line_opened f (take m rest))
    ∙ head_reads (digits_of f) (take m rest) (spells_digits f h b)
    ∙ ap₂ frame (bytes_digits f b) l

-- ---- what reads is the line of its frame

-- what a line that reads is: its end, its digits, and what is answered
record Found (head f : List ℕ) (n : ℕ) : Type 0 where
  ends : end_of head < length head
  spells : Spells (take (end_of head) head)
  bytes : bytes_of (take (end_of head) head) ≡ f
  used : end_of head + 1 ≡ n

head_found : (head f : List ℕ) (n : ℕ) → read_head head ≡ frame f n → Found head f n
unfolding read_head
head_found head f n h = go (ltb (end_of head) (length head) && spells_frame (take (end_of head) head)) refl h
  where
    go : (b : Bool) → (ltb (end_of head) (length head) && spells_frame (take (end_of head) head)) ≡ b
        → cond b (frame (bytes_of (take (end_of head) head)) (end_of head + 1)) garbled ≡ frame f n → Found head f n
    go true e k =
        let p = and_parts (ltb (end_of head) (length head)) (spells_frame (take (end_of head) head)) e in
        record { ends = ltb-true (end_of head) (length head) p.0; spells = spells_parts (take (end_of head) head) p.1; bytes = cc; used = cc }
    go false e k = let z : ◌≡◌ {A = ℕ} 0 1 = cc in absurd (omega arith)

found_line : (head f : List ℕ) (n : ℕ) → Found head f n → take n head ≡ line_of f
unfolding line_of
found_line head f n w =
    let ds = take (end_of head) head in
    let u : n ≡ suc (end_of head) = omega (arith, w.used) in
    ap (λ (k : ℕ). take k head) u
    ∙ take-suc head (end_of head) 0 w.ends
    ∙ ap₂ (λ (r : List ℕ) (c : ℕ). r ++ (c ∷ [])) (sym (digits_bytes ds w.spells.digits w.spells.even) ∙ ap digits_of w.bytes) (end_is head w.ends)

-- each line that reads is the line written of its frame
pub read_written : (s f : List ℕ) (n : ℕ) → read_line s ≡ frame f n → take n s ≡ line_of f
unfolding read_line
read_written s f n h =
    let w = head_found (take line_limit s) f n h in
    let k : n ≤ line_limit = omega (arith, w.used, w.ends, length-take line_limit s) in
    sym (take-take n line_limit s k) ∙ found_line (take line_limit s) f n w

-- the bytes used are the line's length
pub read_used : (s f : List ℕ) (n : ℕ) → read_line s ≡ frame f n → length (line_of f) ≡ n
unfolding read_line
read_used s f n h =
    let w = head_found (take line_limit s) f n h in
    let e : length (take n (take line_limit s)) ≡ length (line_of f) = ap length (found_line (take line_limit s) f n w) in
    omega (arith, w.used, w.ends, length-take n (take line_limit s))

-- what is read is a frame, of bytes
pub read_is_frame : (s f : List ℕ) (n : ℕ) → read_line s ≡ frame f n → (is_frame f ≡ true) × (allb is_byte f ≡ true)
unfolding read_line
read_is_frame s f n h =
    let w = head_found (take line_limit s) f n h in
    let ds = take (end_of (take line_limit s)) (take line_limit s) in
    (sym (ap is_frame w.bytes) ∙ w.spells.spelt, sym (ap (allb is_byte) w.bytes) ∙ bytes_below ds w.spells.digits)

-- two lines that read as the same frame are equal
pub one_line : (s t f : List ℕ) (m n : ℕ) → read_line s ≡ frame f m → read_line t ≡ frame f n → take m s ≡ take n t
one_line s t f m n p q = read_written s f m p ∙ sym (read_written t f n q)

-- ---- the same of the calls

-- what the writer leaves in a line buffer, the reader reads as the frame
pub round_trip : (f line buffer : List ℕ) → is_frame f ≡ true → allb is_byte f ≡ true → line_limit ≤ length line → frame_limit ≤ length buffer
    → read_call (write_call f line).lent buffer ≡ leaves (Ok (record { length = length f; used = length (line_of f) })) (overwrite f buffer)
unfolding read_call write_call read_into overwrite
round_trip f line buffer h b k l =
    rw (le-ltb (length line) line_limit k, h, le-ltb (length buffer) frame_limit l, written_reads f (drop (length (line_of f)) line) h b)
