-- A line has room in 84 bytes, no file has greater numbers than its totals allow, and nothing behind the first 1,000 files is read.
-- Assumes nothing.
use mathlib.Core.Path.{◌≡◌, refl, sym, ap, ◌∙◌, subst}
use mathlib.Core.List.{List, ◌++◌}
use Prim.Native.Nat.{ℕ, zero, suc, ◌+◌, ◌-◌, ◌*◌, ◌^◌, ◌≤◌, ◌<◌}
use native.Mathlib.Nat.{mul-le-mul, le_refl}
use native.Mathlib.Omega.{arith}
use lib.ListN.{length, take, length-append}
use lib.Seq.{length-take-le, take-take}
use Rattle.std.specs.Prelude.{Option, Some, None, Result, Ok, Err, fold, flat_map}
use Rattle.std.specs.Result.{MatchResult, IsErrAnd}
use Rattle.outcome.specs.Refusals.{number_of}
use Rattle.outcome.specs.declared.Refusal.{Refusal}
use Rattle.lists.specs.Lists.{overwrite}
use Rattle.lists.proofs.Counts.{length_count, count_le_length}
use Rattle.lists.proofs.Distinct.{distinct_filter}
use Rattle.graph.specs.Network.{Network, delivers}
use Rattle.graph.specs.Distance.{vertices}
use Rattle.graph.specs.Chart.{chart, destinations}
use Rattle.graph.specs.Correct.{IsNet}
use Rattle.graph.specs.Summary.{distance_sum, pair_number, listed_by}
use Rattle.graph.proofs.Summary.{pairs_twice, sum_bound}
use Rattle.map.specs.Memory.{base, map_network}
use Rattle.map.specs.Room.{Tables}
use Rattle.map.specs.declared.Record.{Record}
use Rattle.map.proofs.Theorems.{base_shape, network_most}
use Rattle.line_buffer.specs.Lines.{pasted}
use Rattle.transcript.specs.Transcript.{network_in}
use Rattle.decimal.proofs.Decimals.{decimal_long, decimal_byte}
use Rattle.outcome.specs.Answers.{answer_of, Left, leaves, unless}
use Rattle.summary.specs.SummaryCall.{summary_refusal, summary_call}
use Rattle.summary.proofs.Accepts.{granted}
use Rattle.summary.specs.declared.Summary.{Summary}
use Rattle.summaries.specs.declared.Totals.{Totals}
use Rattle.summaries.specs.Run.{room, no_totals, summing_text, with_file, total_line, run_text, summing_of, file_line}
use Rattle.summaries.specs.declared.FilePut.{FilePut}
use Rattle.summaries.specs.Calls.{most_pairs, most_sum, IsOfFile, AreOfFiles, file_call, total_call}
use Rattle.summaries.proofs.Lines.{field_most}

-- ---- ROOM

pub numbers_most : (x : Summary) → x.sum < 2 ^ 64 → x.pairs < 2 ^ 64 → x.quotient < 2 ^ 64 → x.remainder < 2 ^ 64 → length (summing_text (Ok x)) ≤ room
unfolding summing_text
numbers_most x hs hp hq hr =
    simp length-append (omega (arith, decimal_long x.sum hs, field_most x.pairs hp, field_most x.quotient hq, field_most x.remainder hr))

pub refusal_most : (n : ℕ) → n < 2 ^ 8 → length (summing_text (Err n)) ≤ 5
unfolding summing_text
refusal_most n h = simp length-append (omega (arith, decimal_byte n h))

-- ---- TOTALS OF SO MANY FILES

pub more_of_files : (a : Result Summary ℕ) (t : Totals) → IsOfFile a → AreOfFiles t → AreOfFiles (with_file a t)
unfolding with_file IsOfFile
more_of_files (Ok s) t h k = record { sum = omega (arith, h.0, k.sum); pairs = omega (arith, h.1, k.pairs) }
more_of_files (Err n) t h k = record { sum = omega (arith, k.sum); pairs = omega (arith, k.pairs) }

-- ---- THE NUMBERS OF A FILE

-- of 256 depots
pub network_of_file : (G : Network) → IsNet G → length (vertices G) ≤ 256 → (distance_sum (chart G) ≤ most_sum) × (pair_number (chart G) ≤ most_pairs)
unfolding pair_number destinations chart
network_of_file G net most =
    let ds = listed_by (delivers G) G in
    let l : length ds ≤ 256 = omega (arith, length_count (delivers G) (vertices G), count_le_length (delivers G) (vertices G), most) in
    let k : length ds - 1 ≤ 255 = omega (arith, l) in
    let m : length ds * (length ds - 1) ≤ 256 * 255 = mul-le-mul l k in
    let p : pair_number (chart G) ≤ most_pairs = omega (arith, m, pairs_twice ds (distinct_filter (delivers G) (vertices G) net.sound.once)) in
    (omega (arith, p, sum_bound G net 255 most), p)

-- whatever the memory, the call answers with the numbers of a file
pub call_of_file : (rec : Record) (links : List ℕ) (B : Tables) (counts : List ℕ) → IsOfFile (summary_call base rec links B counts).answer
unfolding summary_call unless IsOfFile
call_of_file rec links B counts =
    go (summary_refusal base rec links (length B.hops) (length B.even) (length B.odd) (length counts)) _
    (λ z. network_of_file (map_network base rec links)
    (granted base rec links (length B.hops) (length B.even) (length B.odd) (length counts) base_shape (sym z)).net
    (network_most base.words rec.members links))
  where
    go : (k : Option ℕ) (done : Left Summary (Tables × List ℕ)) → (k ≡ None → IsOfFile done.answer) → IsOfFile (unless k (B, counts) done).answer
    go None done f = f refl
    go (Some k) done f = tt

answered_of_file : (rec : Record) (links : List ℕ) (B : Tables) (counts : List ℕ) {a : Result Summary ℕ} {B' : Tables} {counts' : List ℕ}
    → leaves a (B', counts') ≡ summary_call base rec links B counts → IsOfFile a
answered_of_file rec links B counts e = subst (λ (l : Left Summary (Tables × List ℕ)). IsOfFile l.answer) (sym e) (call_of_file rec links B counts)

-- a report's answer with its refusal as a number, as `map_err(Refusal::number)` makes it, is the same answer
answered_number : (r : Result Summary Refusal) (x : Result Summary ℕ) {P : Refusal → ℕ → Type 0} → MatchResult r (λ s. x ≡ Ok s) (λ k. IsErrAnd x (P k))
    → ((k : Refusal) (n : ℕ) → P k n → n ≡ number_of k) → x ≡ answer_of r
answered_number (Ok s) x h is = h
answered_number (Err k) (Err n) h is = ap Err (is k n h)
answered_number (Err k) (Ok s) h is = absurd h

pub answered_is : (rec : Record) (links : List ℕ) (B : Tables) (counts : List ℕ) (r : Result Summary Refusal) (x : Result Summary ℕ) {B' : Tables} {counts' : List ℕ}
    {P : Refusal → ℕ → Type 0} → leaves (answer_of r) (B', counts') ≡ summary_call base rec links B counts
    → MatchResult r (λ s. x ≡ Ok s) (λ k. IsErrAnd x (P k)) → ((k : Refusal) (n : ℕ) → P k n → n ≡ number_of k) → x ≡ (summary_call base rec links B counts).answer
answered_is rec links B counts r x e h is = answered_number r x h is ∙ ap (λ (l : Left Summary (Tables × List ℕ)). l.answer) e

pub answered_as : (rec : Record) (links : List ℕ) (B : Tables) (counts : List ℕ) (r : Result Summary Refusal) (x : Result Summary ℕ) {B' : Tables} {counts' : List ℕ}
    {P : Refusal → ℕ → Type 0} → leaves (answer_of r) (B', counts') ≡ summary_call base rec links B counts
    → MatchResult r (λ s. x ≡ Ok s) (λ k. IsErrAnd x (P k)) → ((k : Refusal) (n : ℕ) → P k n → n ≡ number_of k) → IsOfFile x
answered_as rec links B counts r x e h is = rw (answered_number r x h is) (answered_of_file rec links B counts e)

-- ---- A FILE'S LINE AND ITS TOTALS

more_files : (a : Result Summary ℕ) (t : Totals) → (with_file a t).files ≡ t.files + 1
unfolding with_file
more_files (Ok s) t = refl
more_files (Err n) t = refl

pub put_of_files : (t : Totals) (a : Result Summary ℕ) (at : ℕ) (out : List ℕ) {r : FilePut} {new : List ℕ} → ◌≡◌ {A = ℕ × Totals × List ℕ} (r.at, r.totals, new) (file_call t a at out) → AreOfFiles t → IsOfFile a
    → AreOfFiles r.totals × (r.totals.files ≡ t.files + 1)
unfolding file_call
put_of_files t a at out e h k =
    subst (λ (x : ℕ × Totals × List ℕ). AreOfFiles x.1 × (x.1.files ≡ t.files + 1)) (sym e) (more_of_files a t k h, more_files a t)

-- the part that is written lies in the buffer
pasted_long : (text out : List ℕ) → 0 + length text ≤ length (pasted text 0 out)
unfolding pasted overwrite
pasted_long text out = simp length-append (omega arith)

pub file_fits : (t : Totals) (a : Result Summary ℕ) (out : List ℕ) → (file_call t a 0 out).0 ≤ length (file_call t a 0 out).2
unfolding file_call
file_fits t a out = pasted_long (summing_text a) out

pub total_fits : (t : Totals) (out : List ℕ) → (total_call t 0 out).0 ≤ length (total_call t 0 out).1
unfolding total_call
total_fits t out = pasted_long (total_line t) out

-- for a caller that writes that part
pub ruleset written_part = (file_fits, total_fits, length-take-le)

-- ---- THE FIRST 1,000 FILES

pub run_first : (files : List (List ℕ)) → run_text files ≡ run_text (take 1000 files)
unfolding run_text
run_first files =
    ap (λ (fs : List (List ℕ)). flat_map file_line fs ++ total_line (fold (λ t f. with_file (summing_of (network_in f)) t) no_totals fs))
    (sym (take-take 1000 1000 files (le_refl 1000)))
