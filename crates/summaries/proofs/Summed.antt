-- THE REPORT OF A MAP that a stream leaves is that of its network, and a line is the part of its buffer that is written. Assumes nothing.
use mathlib.Core.Path.{◌≡◌, refl, sym, ap, ◌∙◌, subst}
use mathlib.Core.Bool.{Bool, true, false, cond}
use mathlib.Core.List.{List}
use Prim.Native.Nat.{ℕ, ◌+◌, ◌≤◌, zero-le}
use native.Mathlib.Nat.{le_refl}
use lib.Dec.{ltb}
use lib.ListN.{length, take}
use borrow.Author.Tests.{le-leb}
use Rattle.outcome.specs.Numbers.{too_few}
use Rattle.lists.specs.Lists.{countb, first_of}
use Rattle.lists.proofs.Counts.{length_count}
use Rattle.graph.specs.Network.{Network, delivers}
use Rattle.graph.specs.Distance.{vertices}
use Rattle.graph.specs.Chart.{chart, diameter, destinations, farthest}
use Rattle.graph.specs.Summary.{distance_sum, pair_number}
use Rattle.map.specs.Memory.{base, places, table_words, map_network}
use Rattle.map.specs.Room.{Tables, sizes_of, long_enough}
use Rattle.map.proofs.Longs.{are_long_lem, long_odd}
use Rattle.map.proofs.Theorems.{base_shape}
use Rattle.lent_map.specs.Faults.{lent_faults}
use Rattle.search.specs.SearchCall.{search_sizes}
use Rattle.update.proofs.Grants.{figures_are_sound_lem, links_pass, connected_pass}
use Rattle.line_buffer.specs.Lines.{pasted}
use Rattle.stream.specs.Pieces.{Standing}
use Rattle.stream.proofs.Runs.{pasted_read}
use Rattle.stream.proofs.Theorems.{IsMapOf}
use Rattle.std.specs.Prelude.{Result, Ok, Err}
use Rattle.outcome.specs.Answers.{numbered, Left, unless}
use Rattle.summary.specs.declared.Summary.{Summary}
use Rattle.summary.specs.SummaryCall.{summary_refusal, summary_call}
use Rattle.summaries.specs.declared.Totals.{Totals}
use Rattle.summaries.specs.declared.FilePut.{FilePut}
use Rattle.summaries.specs.Run.{summing_of, summing_text, with_file, total_line}
use Rattle.summaries.specs.Calls.{file_call, total_call}

-- ---- the report of a map is that of its network

module _ (G : Network) (s : Standing) (is : IsMapOf G s) (counts : List ℕ) (room : places base ≤ length counts) where
  abbrev M : Network
  M = map_network base s.progress.rec s.links

  abbrev few : Bool
  few = ltb (countb (delivers M) (vertices M)) 2

  long : long_enough base (search_sizes base (length s.links) (length s.lent.searched.hops) (length s.lent.searched.even) (length s.lent.searched.odd)) ≡ true
  unfolding sizes_of
  long =
      let z = are_long_lem base (sizes_of s.links s.lent) is.long in
      sym (long_odd base (length s.links) (table_words base) (length s.lent.searched.hops) (places base) (places base) (length s.lent.searched.even) (length s.lent.searched.odd)
      z.links (le_refl (table_words base)) z.hops (le_refl (places base)) (le_refl (places base)) z.even)
      ∙ le-leb base.words (length s.lent.searched.odd) z.odd

  -- nothing refuses it but too few depots
  refusal_is : summary_refusal base s.progress.rec s.links (length s.lent.searched.hops) (length s.lent.searched.even) (length s.lent.searched.odd) (length counts)
      ≡ numbered (cond few too_few 0)
  unfolding summary_refusal lent_faults first_of
  refusal_is =
      let sound = figures_are_sound_lem base base_shape G is.is_held in
      rw (
        long,
        le-leb (places base) (length counts) room,
        links_pass base base_shape G is.is_held (diameter G) (farthest G) sound s.progress.rec s.links s.lent.pairs is.is_said,
        connected_pass base base_shape G is.is_held (diameter G) (farthest G) sound s.progress.rec s.links s.lent.pairs is.is_said,
      )

  given_is : (b : Bool) (old : Tables × List ℕ) (done : Left Summary (Tables × List ℕ)) → (unless (numbered (cond b too_few 0)) old done).answer ≡ cond b (Err too_few) done.answer
  unfolding unless numbered
  given_is true old done = refl
  given_is false old done = refl

  number_is : length (destinations (chart M)) ≡ countb (delivers M) (vertices M)
  unfolding destinations chart
  number_is = length_count (delivers M) (vertices M)

  summing_is : (summary_call base s.progress.rec s.links s.lent.searched counts).answer ≡ summing_of M
  unfolding summary_call summing_of
  summing_is = rw (refusal_is, number_is) (given_is few _ _)

  pub map_summed : (summary_call base s.progress.rec s.links s.lent.searched counts).answer ≡ summing_of G
  map_summed = summing_is ∙ ap summing_of is.is_said.network

-- ---- the part of a buffer that is written

part_is : (text out : List ℕ) → take (0 + length text) (pasted text 0 out) ≡ text
part_is text out = pasted_read text 0 out zero-le

file_put : (t : Totals) (a : Result Summary ℕ) (out : List ℕ) → (let l = file_call t a 0 out in (take l.0 l.2 ≡ summing_text a) × (l.1 ≡ with_file a t))
unfolding file_call
file_put t a out = (part_is (summing_text a) out, refl)

-- of an answer that is a
pub put_is : (t : Totals) {x : Result Summary ℕ} (a : Result Summary ℕ) (out : List ℕ) {r : FilePut} {new : List ℕ} → x ≡ a
    → ◌≡◌ {A = ℕ × Totals × List ℕ} (r.at, r.totals, new) (file_call t x 0 out) → (take r.at new ≡ summing_text a) × (r.totals ≡ with_file a t)
put_is t a out e h =
    subst (λ (l : ℕ × Totals × List ℕ). (take l.0 l.2 ≡ summing_text a) × (l.1 ≡ with_file a t))
    (ap (λ (y : Result Summary ℕ). file_call t y 0 out) (sym e) ∙ sym h) (file_put t a out)

total_put : (t : Totals) (out : List ℕ) → (let l = total_call t 0 out in take l.0 l.1 ≡ total_line t)
unfolding total_call
total_put t out = part_is (total_line t) out

pub total_is : (t : Totals) (out : List ℕ) {at : ℕ} {new : List ℕ} → ◌≡◌ {A = ℕ × List ℕ} (at, new) (total_call t 0 out) → take at new ≡ total_line t
total_is t out h = subst (λ (l : ℕ × List ℕ). take l.0 l.1 ≡ total_line t) (sym h) (total_put t out)
