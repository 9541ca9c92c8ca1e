-- THE LINES OF A BATCH one after the other: what reads is the first line, and the others follow behind it; what does not read is a garbled line.
-- Assumes nothing.
use mathlib.Core.Path.{◌≡◌, refl, sym, ap, ◌∙◌}
use mathlib.Core.Bool.{Bool, true, false, cond}
use mathlib.Core.List.{List, [], ◌∷◌, ◌++◌}
use Prim.Native.Nat.{ℕ, suc, ◌+◌, ◌-◌, ◌≤◌, ◌<◌}
use native.Mathlib.Omega.{arith}
use lib.Dec.{eqb}
use lib.ListN.{length, get_or, take, drop, take-append-drop, length-append, length-drop, drop_of_length-le}
use lib.Seq.{append_snoc, drop-drop}
use Rattle.std.proofs.lemmas.Bool.{and_parts}
use Rattle.std.specs.Prelude.{Some, None}
use Rattle.std.specs.Bool.{then_some}
use Rattle.lists.specs.Lists.{allb}
use Rattle.lists.proofs.Appends.{append_none, append_append}
use Rattle.graph.specs.Opening.{notice_of}
use Rattle.graph.specs.Batch.{entry_of}
use Rattle.hexadecimal.specs.Hex.{is_digit, digits_of}
use Rattle.hexadecimal.proofs.DigitLaws.{digit_no_end}
use Rattle.hexadecimal.proofs.Spelling.{all_digits}
use Rattle.notice.specs.Lines.{yard_kind, opens_depot, line_end, line_of, Line, garbled, frame, read_line, onto, lines_of}
use Rattle.notice.proofs.Readings.{behind, FrameStands, frame_read, garbled_read}
use Rattle.notice.proofs.Theorems.{written_reads, read_written, read_used, read_is_frame}
use Rattle.transcript.specs.Transcript.{update_in}
use Rattle.batch.specs.Lines.{opening_in, notice_in, is_some, is_opening, entry_before, entries_from}
use Rattle.batch.specs.Steps.{opening_length}

-- ---- the first line

lines_digits : (ds rest : List ℕ) → allb is_digit ds ≡ true → lines_of (ds ++ line_end ∷ rest) ≡ (ds ++ line_end ∷ []) ∷ lines_of rest
unfolding lines_of onto allb
lines_digits [] rest h = refl
lines_digits (d ∷ ds) rest h =
    let p = and_parts (is_digit d) (allb is_digit ds) h in
    rw (digit_no_end d p.0) (ap (onto d) (lines_digits ds rest p.1))

-- the line of a frame is the first, whatever stands behind it
lines_frame : (f rest : List ℕ) → allb is_digit (digits_of f) ≡ true → lines_of (line_of f ++ rest) ≡ line_of f ∷ lines_of rest
unfolding line_of
lines_frame f rest h = ap lines_of (append_snoc (digits_of f) line_end rest) ∙ lines_digits (digits_of f) rest h

-- some bytes have a first line, and begin with it
record Begins (s : List ℕ) : Type 0 where
  line : List ℕ
  others : List (List ℕ)
  rest : List ℕ
  lines : lines_of s ≡ line ∷ others
  begins : s ≡ line ++ rest

begins_with : (b : ℕ) (bs : List ℕ) → Begins (b ∷ bs)
unfolding lines_of onto
begins_with b [] = go (eqb b line_end) refl
  where
    go : (x : Bool) → eqb b line_end ≡ x → Begins (b ∷ [])
    go true e = record { line = b ∷ []; others = []; rest = []; lines = rw e; begins = refl }
    go false e = record { line = b ∷ []; others = []; rest = []; lines = rw e; begins = refl }
begins_with b (c ∷ cs) = go (eqb b line_end) refl (begins_with c cs)
  where
    go : (x : Bool) → eqb b line_end ≡ x → Begins (c ∷ cs) → Begins (b ∷ c ∷ cs)
    go true e next = record { line = b ∷ []; others = lines_of (c ∷ cs); rest = c ∷ cs; lines = rw e; begins = refl }
    go false e next = record { line = b ∷ next.line; others = next.others; rest = next.rest; lines = rw e (ap (onto b) next.lines); begins = ap (λ (x : List ℕ). b ∷ x) next.begins }

-- ---- a line that reads

-- what stands at the start of s reads as the frame f, its line being u bytes long
pub record LineReads (s f : List ℕ) (u : ℕ) : Type 0 where
  pub some_used : 0 < u
  pub within : u ≤ length s
  pub lines : lines_of s ≡ line_of f ∷ lines_of (drop u s)
  pub reads : read_line (line_of f) ≡ frame f u

pub line_reads : (s f : List ℕ) (u : ℕ) → read_line s ≡ frame f u → LineReads s f u
unfolding line_of
line_reads s f u e =
    let good = read_is_frame s f u e in
    let used : length (line_of f) ≡ u = read_used s f u e in
    let split : s ≡ line_of f ++ drop u s = sym (take-append-drop u s) ∙ ap (λ (x : List ℕ). x ++ drop u s) (read_written s f u e) in
    record {
      some_used = omega (arith, used, length-append (digits_of f) (line_end ∷ []));
      within = omega (arith, used, ap length split, length-append (line_of f) (drop u s));
      lines = ap lines_of split ∙ lines_frame f (drop u s) (all_digits f good.1);
      reads = ap read_line (sym (append_none (line_of f))) ∙ written_reads f [] good.0 good.1 ∙ ap (frame f) used;
    }

-- ---- a line that does not

-- a first line that reads would have read where it stands
pub line_fails : (s : List ℕ) → 0 < length s → read_line s ≡ garbled → (l : List ℕ) × (ls : List (List ℕ)) × (lines_of s ≡ l ∷ ls) × (read_line l ≡ garbled)
line_fails [] l e = absurd (omega arith)
line_fails (b ∷ bs) l e = let is = begins_with b bs in (is.line, is.others, is.lines, go is (read_line is.line) refl)
  where
    go : (is : Begins (b ∷ bs)) (r : Line) → read_line is.line ≡ r → read_line is.line ≡ garbled
    go is garbled q = q
    go is (frame f u) q =
        let good = read_is_frame is.line f u q in
        let whole : b ∷ bs ≡ line_of f ++ (drop u is.line ++ is.rest) =
        is.begins ∙ ap (λ (x : List ℕ). x ++ is.rest) (sym (take-append-drop u is.line) ∙ ap (λ (x : List ℕ). x ++ drop u is.line) (read_written is.line f u q))
        ∙ append_append (line_of f) (drop u is.line) is.rest in
        absurd (neither (sym (ap read_line whole ∙ written_reads f (drop u is.line ++ is.rest) good.0 good.1) ∙ e))
      where
        neither : {g : List ℕ} {n : ℕ} → frame g n ≡ garbled → ⊥
        neither z = let c : ◌≡◌ {A = ℕ} 0 1 = cc in omega arith

-- ---- whether all open something

-- how far the loop has come: all lines open something exactly if those behind the place `at` do
pub record AreRead (s : List ℕ) (at : ℕ) : Type 0 where
  pub within : at ≤ length s
  pub same : allb is_opening (lines_of s) ≡ allb is_opening (lines_of (drop at s))

pub read_none : (s : List ℕ) → AreRead s 0
read_none s = record { within = omega arith; same = refl }

pub all_reads : (s f : List ℕ) (u : ℕ) → LineReads s f u → opens_depot (get_or f 0 0) ≡ true → allb is_opening (lines_of s) ≡ allb is_opening (lines_of (drop u s))
unfolding allb is_opening notice_in opening_in update_in is_some
all_reads s f u r k = rw (r.lines, r.reads, k)

-- a frame of another kind opens nothing
pub all_other : (s f : List ℕ) (u : ℕ) → LineReads s f u → opens_depot (get_or f 0 0) ≡ false → allb is_opening (lines_of s) ≡ false
unfolding allb is_opening notice_in opening_in update_in is_some
all_other s f u r k = rw (r.lines, r.reads, k)

pub all_fails_here : (s : List ℕ) → 0 < length s → read_line s ≡ garbled → allb is_opening (lines_of s) ≡ false
unfolding allb is_opening notice_in is_some
all_fails_here s m e = let l = line_fails s m e in rw (l.2, l.3)

-- a line that reads at some bytes is of u bytes, and opens something
opening_reads : (t : List ℕ) {u : ℕ} → Some u ≡ opening_length (read_line t) → (f : List ℕ) × LineReads t f u × (opens_depot (get_or f 0 0) ≡ true)
unfolding opening_length
opening_reads t {u} e = go (read_line t) refl e
  where
    go : (l : Line) → read_line t ≡ l → Some u ≡ opening_length l → (f : List ℕ) × LineReads t f u × (opens_depot (get_or f 0 0) ≡ true)
    go garbled q k = absurd (grind arith)
    go (frame f v) q k = by (opens_depot (get_or f 0 0)) refl k
      where
        by : (b : Bool) → opens_depot (get_or f 0 0) ≡ b → Some u ≡ cond b (Some v) None → (f : List ℕ) × LineReads t f u × (opens_depot (get_or f 0 0) ≡ true)
        by true h k = let uv : v ≡ u = cc in (f, line_reads t f u (q ∙ ap (frame f) uv), h)
        by false h k = absurd (grind arith)

-- a line of u bytes more
pub read_more : {s : List ℕ} {at u : ℕ} → AreRead s at → Some u ≡ opening_length (read_line (take (length s - at) (drop at s))) → (0 < u) × AreRead s (at + u)
read_more {s} {at} {u} is e =
    let t = take (length s - at) (drop at s) in
    let part : t ≡ drop at s = behind s at in
    let o = opening_reads t e in
    let r = o.1 in
    let l : length t ≡ length s - at = ap length part ∙ length-drop at s in (
      r.some_used,
      record {
        within = omega (arith, is.within, r.within, l);
        same = is.same ∙ ap (λ (x : List ℕ). allb is_opening (lines_of x)) (sym part) ∙ all_reads t o.0 u r o.2 ∙ ap (λ (x : List ℕ). allb is_opening (lines_of (drop u x))) part ∙ ap (λ (x : List ℕ). allb is_opening (lines_of x)) (drop-drop u at s);
      },
    )

-- the line here is garbled; all are read
pub read_fails : {s : List ℕ} {at : ℕ} → AreRead s at → at < length s → None ≡ opening_length (read_line (take (length s - at) (drop at s))) → false ≡ allb is_opening (lines_of s)
unfolding opening_length
read_fails {s} {at} is l e = go (read_line t) refl e
  where
    t : List ℕ
    t = take (length s - at) (drop at s)

    part : t ≡ drop at s
    part = behind s at

    go : (x : Line) → read_line t ≡ x → None ≡ opening_length x → false ≡ allb is_opening (lines_of s)
    go garbled q k = sym (is.same ∙ ap (λ (x : List ℕ). allb is_opening (lines_of x)) (sym part) ∙ all_fails_here t (omega (arith, ap length part, length-drop at s)) q)
    go (frame f v) q k = by (opens_depot (get_or f 0 0)) refl k
      where
        by : (b : Bool) → opens_depot (get_or f 0 0) ≡ b → None ≡ cond b (Some v) None → false ≡ allb is_opening (lines_of s)
        by true h k = absurd (grind arith)
        by false h k = sym (is.same ∙ ap (λ (x : List ℕ). allb is_opening (lines_of x)) (sym part) ∙ all_other t f v (line_reads t f v q) h)

pub read_all : {s : List ℕ} {at : ℕ} → AreRead s at → length s ≤ at → true ≡ allb is_opening (lines_of s)
unfolding allb lines_of
read_all {s} is l = sym (is.same ∙ ap (λ (x : List ℕ). allb is_opening (lines_of x)) (drop_of_length-le s l))

pub ruleset reads = (read_none, read_more, read_fails, read_all)

-- what the code finds by the frame that it has read

module _ (text : List ℕ) {after : List ℕ} {n u : ℕ} (x : (f : List ℕ) × (read_line text ≡ frame f u) × FrameStands f n after) where
  pub length-by : {b : Bool} → b ≡ opens_depot (get_or after 0 0) → then_some b u ≡ opening_length (read_line text)
  unfolding opening_length
  length-by {b} e = same b ∙ ap (λ (t : Bool). cond t (Some u) None) (e ∙ ap opens_depot x.2.kind) ∙ sym (ap opening_length x.1)
    where
      same : (t : Bool) → then_some t u ≡ cond t (Some u) None
      same true = refl
      same false = refl

pub ruleset opening_laws = (length-by, frame_read, garbled_read)

-- ---- the entries of a line and of those behind it

pub entries_reads : (n : ℕ) (s f : List ℕ) (u : ℕ) → LineReads s f u → opens_depot (get_or f 0 0) ≡ true
    → entries_from n (lines_of s) ≡ entry_of n (notice_of (eqb (get_or f 0 0) yard_kind) (get_or f 1 0) (drop 3 f)) ∷ entries_from (suc n) (lines_of (drop u s))
unfolding entries_from notice_in opening_in update_in entry_before
entries_reads n s f u r k = rw (r.lines, r.reads, k)
