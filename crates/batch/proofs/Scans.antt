-- A SCAN of the lines, entry by entry; and the numbers of the lines left over, one by one. Assumes nothing.
use mathlib.Core.Path.{◌≡◌, refl, sym, ap, ap₂, ◌∙◌}
use mathlib.Core.Bool.{Bool, true, false, cond, not, ◌&&◌}
use mathlib.Core.List.{List, [], ◌∷◌, ◌++◌}
use mathlib.Core.Option.{some}
use Prim.Native.Nat.{ℕ, suc, ◌+◌, ◌-◌, ◌≤◌, ◌<◌}
use native.Mathlib.Numerals.{add-one}
use native.Mathlib.Omega.{arith}
use lib.Dec.{eqb}
use borrow.Author.Tests.{ne_eqb}
use lib.ListN.{length, get_or, set, take, drop, length-append, length-drop, drop_of_length-le}
use lib.Seq.{drop-drop, take_all}
use Rattle.std.proofs.lemmas.List.{get_or-take, drop-take}
use Rattle.std.specs.Prelude.{Result, Ok, Err, Some, None, is_ok}
use Rattle.outcome.specs.Refusals.{number_of, refused_by}
use Rattle.outcome.specs.declared.Refusal.{Refusal}
use Rattle.outcome.proofs.Numbering.{refuses}
use Rattle.lists.specs.Lists.{from, range, filterb, allb, overwrite, first_of}
use Rattle.lists.proofs.Appends.{append_none}
use Rattle.lists.proofs.Filters.{only, filter_snoc}
use Rattle.lists.proofs.Copies.{overwrite_snoc}
use Rattle.lists.proofs.Tests.{clash}
use Rattle.words.specs.Bits.{bit}
use Rattle.graph.specs.Network.{Network}
use Rattle.graph.specs.Opening.{Notice, notice_of, open_faults}
use Rattle.graph.specs.Updates.{update_faults}
use Rattle.graph.specs.Batch.{Entry, accepts, first_fit}
use Rattle.notice.specs.Lines.{yard_kind, opens_depot, garbled, frame, lines_of, read_line}
use Rattle.notice.proofs.Readings.{behind, FrameStands, frame_read, garbled_read}
use Rattle.batch.specs.Lines.{is_opening, entries_from, entries_of}
use Rattle.batch.specs.Steps.{waiting_of, notice_at, fit_of, Leavings, leavings, left_numbers, left_over, put_number}
use Rattle.batch.specs.declared.Fit.{Fit}
use Rattle.batch.proofs.Lines.{LineReads, line_reads, all_reads, all_other, all_fails_here, entries_reads}

-- ---- the scan

-- line i is found, with its frame of n bytes
abbrev pub fit : ℕ → ℕ → Fit
fit i n = record { number = i; length = n }

-- the first of some entries is found where it is not taken and can be accepted; else what follows is scanned
fit_cons : (G : Network) (taken : ℕ) (e : Entry) (es : List Entry)
    → first_fit G (waiting_of taken (e ∷ es)) ≡ cond (not (bit taken e.number) && accepts G e.notice) (some e) (first_fit G (waiting_of taken es))
unfolding waiting_of filterb first_fit
fit_cons G taken e es = go (not (bit taken e.number)) refl
  where
    go : (b : Bool) → not (bit taken e.number) ≡ b
        → first_fit G (waiting_of taken (e ∷ es)) ≡ cond (not (bit taken e.number) && accepts G e.notice) (some e) (first_fit G (waiting_of taken es))
    go true h = rw h
    go false h = rw h

module _ (G : Network) (taken number : ℕ) (s f : List ℕ) (u : ℕ) {n : ℕ} {after : List ℕ} (r : LineReads s f u)
    (opens_one : opens_depot (get_or f 0 0) ≡ true) (stands : FrameStands f n after) where
  fit_reads : first_fit G (waiting_of taken (entries_from number (lines_of s)))
      ≡ cond (not (bit taken number) && accepts G (notice_at after n)) (fit_of (Some (fit number n)) after)
      (first_fit G (waiting_of taken (entries_from (suc number) (lines_of (drop u s)))))
  unfolding fit_of
  fit_reads = rw (entries_reads number s f u r opens_one, stands.kind, stands.code, stands.neighbours) (fit_cons G taken _ _)

  -- this line it is
  pub scan_takes : {b : Bool} → b ≡ (not (bit taken number) && accepts G (notice_at after n)) → b ≡ true
      → fit_of (Some (fit number n)) after ≡ first_fit G (waiting_of taken (entries_from number (lines_of s)))
  scan_takes e h = sym (fit_reads ∙ rw (← e, h))

  -- it is one of those behind it
  pub scan_passes : {b : Bool} → b ≡ (not (bit taken number) && accepts G (notice_at after n)) → b ≡ false
      → first_fit G (waiting_of taken (entries_from number (lines_of s))) ≡ first_fit G (waiting_of taken (entries_from (number + 1) (lines_of (drop u s))))
  scan_passes e h = fit_reads ∙ rw (← e, h, add-one number)

-- the notice of the frame alone is that of the frame in its buffer
notice_cut : (bytes : List ℕ) (n : ℕ) → 3 ≤ n → notice_at (take n bytes) (length (take n bytes)) ≡ notice_at bytes n
notice_cut bytes n long =
    rw (get_or-take n bytes 0 0 (omega arith), get_or-take n bytes 1 0 (omega arith))
    (ap (notice_of (eqb (get_or bytes 0 0) yard_kind) (get_or bytes 1 0))
    (take_all (length (take n bytes) - 3) (drop 3 (take n bytes)) (omega (arith, length-drop 3 (take n bytes)))
    ∙ ap (λ (k : ℕ). drop 3 (take k bytes)) (omega arith) ∙ drop-take 3 (n - 3) bytes))

-- how far a scan has come: the place `at` of line `number`, among whose entries and those behind it the first is
pub record IsScanned (G : Network) (taken : ℕ) (s : List ℕ) (number at : ℕ) : Type 0 where
  pub within : at ≤ length s
  pub counted : number + length (lines_of (drop at s)) ≡ length (lines_of s)
  pub opening : allb is_opening (lines_of (drop at s)) ≡ true
  pub same : first_fit G (waiting_of taken (entries_of s)) ≡ first_fit G (waiting_of taken (entries_from number (lines_of (drop at s))))

pub scan_none : (G : Network) (taken : ℕ) (s : List ℕ) → allb is_opening (lines_of s) ≡ true → IsScanned G taken s 0 0
unfolding entries_of
scan_none G taken s h = record { within = omega arith; counted = omega arith; opening = h; same = refl }

module _ {G : Network} {taken : ℕ} {s : List ℕ} {number at : ℕ} (is : IsScanned G taken s number at) where
  -- the line there reads, as all do
  pub scan_reads : at < length s → read_line (take (length s - at) (drop at s)) ≡ garbled → ⊥
  scan_reads l e = clash is.opening (all_fails_here (drop at s) (omega (arith, length-drop at s)) (ap read_line (sym (behind s at)) ∙ e))

  pub scan_line : {f : List ℕ} {u : ℕ} → read_line (take (length s - at) (drop at s)) ≡ frame f u → LineReads (drop at s) f u
  scan_line {f} {u} e = line_reads (drop at s) f u (ap read_line (sym (behind s at)) ∙ e)

  module _ {f : List ℕ} {u : ℕ} (r : LineReads (drop at s) f u) where
    -- it opens something, as all do
    opens_one : opens_depot (get_or f 0 0) ≡ true
    opens_one = go (opens_depot (get_or f 0 0)) refl
      where
        go : (b : Bool) → opens_depot (get_or f 0 0) ≡ b → opens_depot (get_or f 0 0) ≡ true
        go true k = k
        go false k = absurd (clash is.opening (all_other (drop at s) f u r k))

    pub scan_within : at + u ≤ length s
    scan_within = omega (arith, is.within, r.within, length-drop at s)

    -- it is one of the lines
    pub scan_number : number < length (lines_of s)
    scan_number = omega (arith, is.counted, ap length r.lines)

    module _ {n : ℕ} {after : List ℕ} (stands : FrameStands f n after) {b : Bool}
        (cut : b ≡ (not (bit taken number) && accepts G (notice_at (take n after) (length (take n after))))) where
      e : b ≡ (not (bit taken number) && accepts G (notice_at after n))
      e = cut ∙ ap (λ (o : Notice). not (bit taken number) && accepts G o) (notice_cut after n stands.long)

      pub scan_found : b ≡ true → fit_of (Some (fit number n)) after ≡ first_fit G (waiting_of taken (entries_of s))
      scan_found h = scan_takes G taken number (drop at s) f u r opens_one stands e h ∙ sym is.same

      pub scan_more : b ≡ false → IsScanned G taken s (number + 1) (at + u)
      scan_more h =
          let rest : drop u (drop at s) ≡ drop (at + u) s = drop-drop u at s in
          record {
            within = scan_within;
            counted = omega (arith, is.counted, ap length r.lines, ap (λ (x : List ℕ). length (lines_of x)) rest);
            opening = sym (all_reads (drop at s) f u r opens_one ∙ ap (λ (x : List ℕ). allb is_opening (lines_of x)) rest) ∙ is.opening;
            same = is.same ∙ scan_passes G taken number (drop at s) f u r opens_one stands e h ∙ ap (λ (x : List ℕ). first_fit G (waiting_of taken (entries_from (number + 1) (lines_of x)))) rest;
          }

  pub scan_end : (after : List ℕ) → length s ≤ at → fit_of None after ≡ first_fit G (waiting_of taken (entries_of s))
  unfolding fit_of first_fit waiting_of filterb entries_from lines_of
  scan_end after l = sym (is.same ∙ ap (λ (x : List ℕ). first_fit G (waiting_of taken (entries_from number (lines_of x)))) (drop_of_length-le s l))

pub ruleset scans = (frame_read, garbled_read, scan_none, scan_reads, scan_line, scan_within, scan_number, scan_found, scan_more, scan_end)

-- ---- whether a line fits

pub fits_taken : (G : Network) (taken number : ℕ) (o : Notice) {b : Bool} → b ≡ bit taken number → b ≡ true → false ≡ (not (bit taken number) && accepts G o)
fits_taken G taken number o e h = rw (← e, h)

none_refused : {A : Type 0} (r : Result A Refusal) → is_ok r ≡ eqb (refused_by r) 0
none_refused (Ok x) = refl
none_refused (Err k) = sym (ne_eqb (number_of k) 0 (refuses k))

-- whether the notice is a yard's is not asked
pub fits_by : (G : Network) (taken number : ℕ) (o : Notice) {b : Bool} {A : Type 0} (r : Result A Refusal) → b ≡ bit taken number → b ≡ false
    → refused_by r ≡ first_of (open_faults G (notice_of false o.code o.neighbours))
    → is_ok r ≡ (not (bit taken number) && accepts G o)
unfolding accepts update_faults open_faults
fits_by G taken number o r e h q = rw (← e, h, ← q) (none_refused r)

-- ---- the numbers left over

-- n numbers of the i lines looked at stand in the places
pub record ArePut (taken i : ℕ) (before : List ℕ) (n : ℕ) (now : List ℕ) : Type 0 where
  pub few : n ≤ i
  pub count : n ≡ length (left_numbers taken i)
  pub places : now ≡ overwrite (left_numbers taken i) before

pub put_none : (taken : ℕ) (before : List ℕ) → ArePut taken 0 before 0 before
unfolding left_numbers range from filterb overwrite
put_none taken before = record { few = omega arith; count = refl; places = refl }

-- a number more, by whether it is taken
pub put_more : {taken i n m : ℕ} {before now after : List ℕ} → ArePut taken i before n now → n < length before → leavings m after ≡ put_number taken i n now → ArePut taken (i + 1) before m after
unfolding left_numbers only put_number
put_more {taken} {i} {n} {m} {before} {now} {after} is room e = go (bit taken i) refl
  where
    left : List ℕ
    left = left_numbers taken i

    more : left_numbers taken (i + 1) ≡ left ++ cond (not (bit taken i)) (i ∷ []) []
    more = filter_snoc (λ k. not (bit taken k)) i

    go : (b : Bool) → bit taken i ≡ b → ArePut taken (i + 1) before m after
    go true h =
        let same : left_numbers taken (i + 1) ≡ left = more ∙ ap (λ (b : Bool). left ++ cond (not b) (i ∷ []) []) h ∙ append_none left in
        let q : leavings m after ≡ leavings n now = e ∙ rw h in
        record {
          few = omega (arith, is.few, ap (λ (l : Leavings). l.count) q);
          count = ap (λ (l : Leavings). l.count) q ∙ is.count ∙ ap length (sym same);
          places = ap (λ (l : Leavings). l.places) q ∙ is.places ∙ ap (λ (l : List ℕ). overwrite l before) (sym same);
        }
    go false h =
        let longer : left_numbers taken (i + 1) ≡ left ++ (i ∷ []) = more ∙ ap (λ (b : Bool). left ++ cond (not b) (i ∷ []) []) h in
        let q : leavings m after ≡ leavings (n + 1) (set now n i) = e ∙ rw h in
        record {
          few = omega (arith, is.few, ap (λ (l : Leavings). l.count) q);
          count = omega (arith, ap (λ (l : Leavings). l.count) q, is.count, ap length longer, length-append left (i ∷ []));
          places =
              ap (λ (l : Leavings). l.places) q
              ∙ ap₂ (λ (l : List ℕ) (k : ℕ). set l k i) is.places is.count
              ∙ overwrite_snoc left before i (omega (arith, is.count))
              ∙ ap (λ (l : List ℕ). overwrite l before) (sym longer);
        }

pub put_all : {taken i k n : ℕ} {before now : List ℕ} → ArePut taken i before n now → i ≡ k → leavings n now ≡ left_over (left_numbers taken k) before
unfolding left_over
put_all {taken} {i} {k} {n} {before} is e = ap₂ leavings is.count is.places ∙ ap (λ (j : ℕ). left_over (left_numbers taken j) before) e
