-- THE ENTRIES OF A BATCH: their numbers and codes, and those that wait. Assumes nothing.
use mathlib.Core.Path.{◌≡◌, refl, sym, ap, ◌∙◌}
use mathlib.Core.Logic.{◌⊎◌, inl, inr}
use mathlib.Core.Bool.{Bool, true, false, cond, not, ◌&&◌, ◌||◌}
use mathlib.Core.List.Memᴰ
use mathlib.Core.List.{List, [], ◌∷◌, Memᴰ}
use mathlib.Core.Option.{Option, none, some}
use Prim.Native.Nat.{ℕ, suc, ◌+◌, ◌≤◌, ◌<◌}
use native.Mathlib.Nat.{lt_irrefl}
use native.Mathlib.Omega.{arith}
use lib.Dec.{eqb}
use lib.ListN.{length, get_or, drop}
use borrow.Author.Tests.{ltb-true}
use Rattle.std.proofs.lemmas.Bool.{and_parts}
use Rattle.lists.specs.Lists.{from, range, filterb, allb}
use Rattle.lists.proofs.Tests.{clash}
use Rattle.lists.proofs.Members.{filter-ext, filter-all, filter-twice}
use Rattle.lists.proofs.Scans.{all-at}
use Rattle.words.specs.Bits.{bit, word_of}
use Rattle.words.proofs.Bits.{bit_of_zero, bit-word_of}
use Rattle.graph.specs.Opening.{Notice, notice_of}
use Rattle.graph.specs.Updates.{opens, joins}
use Rattle.graph.specs.Batch.{Entry, entry_of, without, numbers_of, AreNumbered}
use Rattle.hexadecimal.specs.Hex.{is_byte}
use Rattle.notice.specs.Lines.{yard_kind, opens_depot, Line, garbled, frame, lines_of, read_line}
use Rattle.notice.proofs.Tests.{frame_parts}
use Rattle.notice.proofs.Theorems.{read_is_frame}
use Rattle.transcript.specs.Transcript.{update_in}
use Rattle.batch.specs.Lines.{opening_in, notice_in, is_some, is_opening, entry_before, entries_from, entries_of}
use Rattle.batch.specs.Steps.{waiting_of, left_numbers}

-- a line, by its notice
line_cases : (n : ℕ) (l : List ℕ) (ls : List (List ℕ)) {x : Option Notice} → notice_in (read_line l) ≡ x → entries_from n (l ∷ ls) ≡ entry_before n x (entries_from (suc n) ls)
unfolding entries_from
line_cases n l ls q = ap (λ (y : Option Notice). entry_before n y (entries_from (suc n) ls)) q

garbled_fails : (l : List ℕ) → notice_in (read_line l) ≡ none → is_opening l ≡ false
unfolding is_opening is_some
garbled_fails l q = ap is_some q

-- ---- their numbers

-- an entry of lines numbered from n on
pub record IsNumbered (n k : ℕ) (e : Entry) : Type 0 where
  pub least : n ≤ e.number
  pub most : e.number < n + k

pub entry_number : (n : ℕ) (ls : List (List ℕ)) {e : Entry} → Memᴰ e (entries_from n ls) → IsNumbered n (length ls) e
unfolding entries_from entry_before
entry_number n [] m = absurd (Memᴰ.not-nil m)
entry_number n (l ∷ ls) {e} m = go (notice_in (read_line l)) m (λ k. entry_number (suc n) ls k)
  where
    later : IsNumbered (suc n) (length ls) e → IsNumbered n (suc (length ls)) e
    later r = record { least = omega (arith, r.least); most = omega (arith, r.most) }

    go : (x : Option Notice) → Memᴰ e (entry_before n x (entries_from (suc n) ls)) → (Memᴰ e (entries_from (suc n) ls) → IsNumbered (suc n) (length ls) e) → IsNumbered n (suc (length ls)) e
    go none k ih = later (ih k)
    go (some o) k ih = by (Memᴰ.cases_cons k)
      where
        by : (e ≡ entry_of n o) ⊎ Memᴰ e (entries_from (suc n) ls) → IsNumbered n (suc (length ls)) e
        by (inl q) = let s : e.number ≡ n = ap (λ (y : Entry). y.number) q in record { least = omega (arith, s); most = omega (arith, s) }
        by (inr r) = later (ih r)

-- no two have one number
entries_numbered : (n : ℕ) (ls : List (List ℕ)) → AreNumbered (entries_from n ls)
unfolding entries_from entry_before
entries_numbered n [] e f x y s = absurd (Memᴰ.not-nil x)
entries_numbered n (l ∷ ls) e f x y s = go (notice_in (read_line l)) x y (λ a b. entries_numbered (suc n) ls e f a b s)
  where
    go : (z : Option Notice) → Memᴰ e (entry_before n z (entries_from (suc n) ls)) → Memᴰ f (entry_before n z (entries_from (suc n) ls))
        → (Memᴰ e (entries_from (suc n) ls) → Memᴰ f (entries_from (suc n) ls) → e ≡ f) → e ≡ f
    go none a b ih = ih a b
    go (some o) a b ih = by (Memᴰ.cases_cons a) (Memᴰ.cases_cons b)
      where
        by : (e ≡ entry_of n o) ⊎ Memᴰ e (entries_from (suc n) ls) → (f ≡ entry_of n o) ⊎ Memᴰ f (entries_from (suc n) ls) → e ≡ f
        by (inl p) (inl q) = p ∙ sym q
        by (inl p) (inr q) = absurd (lt_irrefl n (omega (arith, ap (λ (y : Entry). y.number) p, s, (entry_number (suc n) ls q).least)))
        by (inr p) (inl q) = absurd (lt_irrefl n (omega (arith, ap (λ (y : Entry). y.number) q, s, (entry_number (suc n) ls p).least)))
        by (inr p) (inr q) = ih p q

pub entries_apart : (input : List ℕ) → AreNumbered (entries_of input)
unfolding entries_of
entries_apart input = entries_numbered 0 (lines_of input)

-- ---- their codes are bytes

notice_code : (l : Line) → ((f : List ℕ) (u : ℕ) → l ≡ frame f u → get_or f 1 0 < 256) → (o : Notice) → notice_in l ≡ some o → o.code < 256
unfolding notice_in opening_in update_in
notice_code garbled byte o q = let z : ◌≡◌ {A = ℕ} 0 1 = cc in absurd (lt_irrefl 0 (omega arith))
notice_code (frame f u) byte o q = go (opens_depot (get_or f 0 0)) q
  where
    go : (b : Bool) → opening_in (cond b (opens (notice_of (eqb (get_or f 0 0) yard_kind) (get_or f 1 0) (drop 3 f))) (joins (get_or f 1 0) (get_or f 2 0))) ≡ some o
        → o.code < 256
    go true p = let s : get_or f 1 0 ≡ o.code = cc in omega (arith, s, byte f u refl)
    go false p = let z : ◌≡◌ {A = ℕ} 0 1 = cc in absurd (lt_irrefl 0 (omega arith))

line_code : (l : List ℕ) (o : Notice) → notice_in (read_line l) ≡ some o → o.code < 256
unfolding is_byte
line_code l o q = notice_code (read_line l) byte o q
  where
    byte : (f : List ℕ) (u : ℕ) → read_line l ≡ frame f u → get_or f 1 0 < 256
    byte f u e = let good = read_is_frame l f u e in ltb-true (get_or f 1 0) 256 (all-at is_byte f 1 0 (omega (arith, frame_parts f good.0)) good.1)

entry_code : (n : ℕ) (ls : List (List ℕ)) {e : Entry} → Memᴰ e (entries_from n ls) → e.notice.code < 256
unfolding entries_from entry_before
entry_code n [] m = absurd (Memᴰ.not-nil m)
entry_code n (l ∷ ls) {e} m = go (notice_in (read_line l)) refl m (λ k. entry_code (suc n) ls k)
  where
    go : (x : Option Notice) → notice_in (read_line l) ≡ x → Memᴰ e (entry_before n x (entries_from (suc n) ls)) → (Memᴰ e (entries_from (suc n) ls) → e.notice.code < 256) → e.notice.code < 256
    go none q k ih = ih k
    go (some o) q k ih = by (Memᴰ.cases_cons k)
      where
        by : (e ≡ entry_of n o) ⊎ Memᴰ e (entries_from (suc n) ls) → e.notice.code < 256
        by (inl r) = omega (arith, ap (λ (y : Entry). y.notice.code) r, line_code l o q)
        by (inr r) = ih r

pub entries_codes : (input : List ℕ) (e : Entry) → Memᴰ e (entries_of input) → e.notice.code < 256
unfolding entries_of
entries_codes input e m = entry_code 0 (lines_of input) m

-- ---- one for each line, where none is garbled

pub entries_length : (n : ℕ) (ls : List (List ℕ)) → allb is_opening ls ≡ true → length (entries_from n ls) ≡ length ls
unfolding entries_from entry_before allb
entries_length n [] h = refl
entries_length n (l ∷ ls) h = go (notice_in (read_line l)) refl (and_parts (is_opening l) (allb is_opening ls) h) (λ a. entries_length (suc n) ls a)
  where
    go : (x : Option Notice) → notice_in (read_line l) ≡ x → (is_opening l ≡ true) × (allb is_opening ls ≡ true) → (allb is_opening ls ≡ true → length (entries_from (suc n) ls) ≡ length ls)
        → length (entries_from n (l ∷ ls)) ≡ suc (length ls)
    go none q p ih = absurd (clash p.0 (garbled_fails l q))
    go (some o) q p ih = ap length (line_cases n l ls q) ∙ ap suc (ih p.1)

-- the numbers of those that wait are the numbers not taken
waiting_numbers : (taken n : ℕ) (ls : List (List ℕ)) → allb is_opening ls ≡ true → numbers_of (waiting_of taken (entries_from n ls)) ≡ filterb (λ i. not (bit taken i)) (from n (length ls))
unfolding entries_from entry_before allb waiting_of filterb from numbers_of
waiting_numbers taken n [] h = refl
waiting_numbers taken n (l ∷ ls) h = go (notice_in (read_line l)) refl (and_parts (is_opening l) (allb is_opening ls) h) (λ a. waiting_numbers taken (suc n) ls a)
  where
    others : List ℕ
    others = filterb (λ i. not (bit taken i)) (from (suc n) (length ls))

    here : (o : Notice) (b : Bool) → not (bit taken n) ≡ b → numbers_of (waiting_of taken (entries_from (suc n) ls)) ≡ others
        → numbers_of (waiting_of taken (entry_of n o ∷ entries_from (suc n) ls)) ≡ cond (not (bit taken n)) (n ∷ others) others
    here o true q r = rw q (ap (λ (x : List ℕ). n ∷ x) r)
    here o false q r = rw q r

    go : (x : Option Notice) → notice_in (read_line l) ≡ x → (is_opening l ≡ true) × (allb is_opening ls ≡ true) → (allb is_opening ls ≡ true → numbers_of (waiting_of taken (entries_from (suc n) ls)) ≡ others)
        → numbers_of (waiting_of taken (entries_from n (l ∷ ls))) ≡ cond (not (bit taken n)) (n ∷ others) others
    go none q p ih = absurd (clash p.0 (garbled_fails l q))
    go (some o) q p ih = ap (λ (es : List Entry). numbers_of (waiting_of taken es)) (line_cases n l ls q) ∙ here o (not (bit taken n)) refl (ih p.1)

pub waiting_left : (taken : ℕ) (input : List ℕ) → allb is_opening (lines_of input) ≡ true → numbers_of (waiting_of taken (entries_of input)) ≡ left_numbers taken (length (lines_of input))
unfolding entries_of left_numbers range
waiting_left taken input h = waiting_numbers taken 0 (lines_of input) h

-- ---- those that wait

-- nothing is taken: all do
pub waiting_all : (es : List Entry) → waiting_of 0 es ≡ es
unfolding waiting_of
waiting_all es = filter-all (λ e. not (bit 0 e.number)) es (λ e m. ap not (bit_of_zero e.number))

-- one more is taken
pub waiting_without : (taken number : ℕ) (es : List Entry) → ((e : Entry) → Memᴰ e es → e.number < 64)
    → waiting_of (word_of 64 (λ k. eqb k number || bit taken k)) es ≡ without number (waiting_of taken es)
unfolding waiting_of without
waiting_without taken number es low =
    filter-ext (λ e. not (bit (word_of 64 (λ k. eqb k number || bit taken k)) e.number)) (λ e. not (bit taken e.number) && not (eqb e.number number)) es same
    ∙ sym (filter-twice (λ e. not (eqb e.number number)) (λ e. not (bit taken e.number)) es)
  where
    neither : (a b : Bool) → not (a || b) ≡ (not b && not a)
    neither true true = refl
    neither true false = refl
    neither false true = refl
    neither false false = refl

    same : (e : Entry) → Memᴰ e es → not (bit (word_of 64 (λ k. eqb k number || bit taken k)) e.number) ≡ (not (bit taken e.number) && not (eqb e.number number))
    same e m = ap not (bit-word_of 64 (λ k. eqb k number || bit taken k) e.number (low e m)) ∙ neither (eqb e.number number) (bit taken e.number)
