-- THE LOOP OF A BATCH: at each turn what is still to come gives what all turns give, and nothing refuses the map. Assumes nothing.
use mathlib.Core.Path.{◌≡◌, refl, sym, ap, ◌∙◌, subst}
use mathlib.Core.Bool.{cond, not, ◌||◌}
use mathlib.Core.List.{List, [], ◌∷◌, Memᴰ}
use mathlib.Core.Option.{Option as Perhaps, some}
use Rattle.std.specs.Prelude.{Option, Some, None}
use Prim.Native.Nat.{ℕ, suc, ◌≤◌, ◌<◌}
use native.Mathlib.Omega.{arith}
use lib.Dec.{eqb}
use lib.ListN.{length, get_or}
use Rattle.graph.specs.Opening.{open_faults}
use Rattle.graph.specs.Updates.{update_faults}
use Rattle.lists.proofs.Members.{filter_out}
use Rattle.graph.specs.Batch.{Entry, entry_of, accepts, first_fit}
use Rattle.graph.proofs.Batches.{fit_some}
use Rattle.words.specs.Bits.{bit, word_of}
use Rattle.map.specs.Memory.{Shape, IsShape, places, network_of, yard_network}
use Rattle.map.specs.Room.{Lent}
use Rattle.map.proofs.Theorems.{base_shape}
use Rattle.notice.specs.Lines.{lines_of}
use Rattle.batch.specs.Lines.{batch_limit, entries_of}
use Rattle.batch.specs.Steps.{waiting_of, notice_at, fit_of, FitsFrame}
use Rattle.batch.specs.declared.Fit.{Fit}
use Rattle.batch.proofs.Entries.{entry_number, entries_codes, waiting_without}
use Rattle.batch_update.specs.BatchCall.{LentMemory, lent_memory, memory_left, opening_on}
use Rattle.batch_update.specs.Steps.{BatchStanding, turns_on}
use Rattle.batch_opening.specs.Steps.{batch_standing}
use Rattle.batch_opening.specs.declared.BatchProgress.{BatchProgress}
use Rattle.batch_update.proofs.Turns.{meant, IsFree, opening_free, turns_out, turns_none, turns_some, turned}

-- the scan is lent no links and no yards, and finds what fits the map with any
fit_any : (W : ℕ) (members yards links : List ℕ) (es : List Entry) → first_fit (network_of W members []) es ≡ first_fit (yard_network W members yards links) es
unfolding first_fit accepts update_faults open_faults network_of
fit_any W members yards links [] = refl
fit_any W members yards links (e ∷ es) = ap (λ (x : Perhaps Entry). cond (accepts (network_of W members []) e.notice) (some e) x) (fit_any W members yards links es)

-- where the scan says it found a notice
pub fits_at : {r : Option Fit} {x : Fit} {m : ℕ} → FitsFrame r m → r ≡ Some x → (x.number < batch_limit) × (3 ≤ x.length) × (x.length ≤ m)
fits_at {m = m} f e = subst (λ (o : Option Fit). FitsFrame o m) e f

-- the numbers of the entries are below 64
numbers_low : (input : List ℕ) → length (lines_of input) ≤ batch_limit → (e : Entry) → Memᴰ e (entries_of input) → e.number < 64
unfolding entries_of
numbers_low input few e m = omega (arith, (entry_number 0 (lines_of input) m).most)

pub record IsUnderWay (K : Shape) (first : BatchStanding) (count : ℕ) (now : BatchStanding) (turns : ℕ) : Type 0 where
  pub goes_on : turns_on turns K now ≡ turns_on count K first
  pub free : IsFree K now.memory

pub under_begun : (K : Shape) (S : BatchStanding) {count turns : ℕ} → turns ≡ count → IsFree K S.memory → IsUnderWay K S count S turns
under_begun K S e free = record { goes_on = ap (λ (k : ℕ). turns_on k K S) e; free = free }

module _ (K : Shape) (shape : IsShape K) (input : List ℕ) {first : BatchStanding} {count turns : ℕ} (p : BatchProgress) {links : List ℕ} {B : Lent}
    (is : IsUnderWay K first count (batch_standing p links B input) turns) where
  -- the turns are done, or none fits
  pub under-done : turns ≡ 0 → batch_standing p links B input ≡ turns_on count K first
  under-done z = sym (turns_out K (batch_standing p links B input)) ∙ ap (λ (k : ℕ). turns_on k K (batch_standing p links B input)) (sym z) ∙ is.goes_on

  module _ (r : Option Fit) (frame : List ℕ) (fit : fit_of r frame ≡ first_fit (network_of K.words p.after.members []) (waiting_of p.taken (entries_of input))) where
    found : fit_of r frame ≡ first_fit (meant K (lent_memory p.after links B)) (waiting_of p.taken (entries_of input))
    found = fit ∙ fit_any K.words p.after.members p.after.yards links (waiting_of p.taken (entries_of input))

    pub under_none : r ≡ None → batch_standing p links B input ≡ turns_on count K first
    unfolding fit_of
    under_none z = sym (turns_none turns K (batch_standing p links B input) (sym found ∙ ap (λ (x : Option Fit). fit_of x frame) z)) ∙ is.goes_on

    -- one fits, and is opened
    module _ {x : Fit} (e : r ≡ Some x) {k : ℕ} (s : suc k ≡ turns) (few : length (lines_of input) ≤ batch_limit)
        (codes : (y : Entry) → Memᴰ y (entries_of input) → y.notice.code < places K)
        (p' : BatchProgress) {links' : List ℕ} {B' : Lent}
        (left : lent_memory p'.after links' B' ≡ memory_left (opening_on K (lent_memory p.after links B) (notice_at frame x.length)))
        (marked : p'.taken ≡ word_of 64 (λ k. eqb k x.number || bit p.taken k)) where
      abbrev entry : Entry
      entry = entry_of x.number (notice_at frame x.length)

      fits : first_fit (meant K (lent_memory p.after links B)) (waiting_of p.taken (entries_of input)) ≡ some entry
      unfolding fit_of
      fits = sym found ∙ ap (λ (o : Option Fit). fit_of o frame) e

      low : get_or frame 1 0 < places K
      unfolding waiting_of
      low = codes entry (filter_out (λ y. not (bit p.taken y.number)) (entries_of input) (fit_some (meant K (lent_memory p.after links B)) (waiting_of p.taken (entries_of input)) entry fits)).0

      now : batch_standing p' links' B' input ≡ turned K (batch_standing p links B input) entry
      now = λ i. record {
        memory = left i;
        waiting = (ap (λ (w : ℕ). waiting_of w (entries_of input)) marked ∙ waiting_without p.taken x.number (entries_of input) (numbers_low input few)) i;
      }

      pub under_more : IsUnderWay K first count (batch_standing p' links' B' input) k
      under_more = record {
        goes_on =
            ap (turns_on k K) now
            ∙ sym (turns_some k K shape (batch_standing p links B input) entry fits is.free low)
            ∙ ap (λ (j : ℕ). turns_on j K (batch_standing p links B input)) s
            ∙ is.goes_on;
        free = subst (λ (M : LentMemory). IsFree K M) (sym left) (opening_free K shape (lent_memory p.after links B) entry.notice is.free low);
      }

pub ruleset turns = (fits_at, under_begun, under-done, under_none, under_more, base_shape, entries_codes)
