-- THE THEOREMS of this crate: a map that nothing refuses stays so, means the network after the batch, and true figures stay true. Assumes nothing.
use mathlib.Core.Path.{◌≡◌, refl, sym, ap, ◌∙◌, subst}
use mathlib.Core.Bool.{true, false}
use mathlib.Core.List.{List, [], Memᴰ}
use mathlib.Core.Option.{Option, none, some}
use Prim.Native.Nat.{ℕ, zero, suc, ◌<◌}
use lib.ListN.{length}
use Rattle.lists.specs.Lists.{range}
use Rattle.lists.proofs.Counts.{length_count}
use Rattle.rows.specs.Rows.{table_bit}
use Rattle.graph.specs.Network.{Network, AreTrue, delivers}
use Rattle.graph.specs.Distance.{vertices}
use Rattle.graph.specs.Chart.{Pairs}
use Rattle.graph.specs.Opening.{Notice}
use Rattle.graph.specs.Updates.{opens, applied}
use Rattle.graph.specs.Batch.{Entry, accepts, first_fit, without, or_end, batch_by, batch_of, offered, AreOpenIn}
use Rattle.graph.proofs.Batches.{fit_some, fit_accepts, without_out, batch_largest, batch_reached, batch_entries, batch_ended}
use Rattle.map.specs.Memory.{Shape, IsShape, base, places, network_of, map_network}
use Rattle.map.specs.declared.Record.{Record}
use Rattle.map.specs.Room.{Lent, sizes_of, long_enough}
use Rattle.map.proofs.Theorems.{base_shape}
use Rattle.checks.specs.Sound.{AreLinksSound, AreFiguresSound}
use Rattle.checks.proofs.Theorems.{sound_links_iff, sound_figures_iff}
use Rattle.lent_map.specs.Faults.{lent_faults, lent_refusal}
use Rattle.lent_map.proofs.Passes.{IsPassed, lent-passed, passed_net}
use Rattle.update.specs.UpdateCall.{network_after, updated_by, update_given, update_call}
use Rattle.update.specs.Steps.{map_refusal}
use Rattle.update.specs.Represents.{Represents}
use Rattle.update.specs.Correct.{map_after}
use Rattle.update.proofs.Memories.{IsHeld, Stores, write_map, written_twice}
use Rattle.update.proofs.Grants.{after_is, granted_lawful}
use Rattle.update.proofs.Openings.{opened_writes}
use Rattle.update.proofs.Keeps.{left_stores, sizes_kept}
use Rattle.batch.specs.Lines.{entries_of}
use Rattle.batch.proofs.Entries.{entries_codes, entries_apart}
use Rattle.batch_update.specs.BatchCall.{batch_refusal, LentMemory, lent_memory, opening_on, memory_left, batch_on, batch_given, batch_call}
use Rattle.batch_update.specs.Correct.{AreCodes, map_in, BatchCorrect}
use Rattle.batch_update.specs.Largest.{IsLargest, BatchLargest}
use Rattle.batch_update.specs.Steps.{BatchStanding, turns_on}
use Rattle.batch_update.proofs.Refuses.{granted}
use Rattle.batch_update.proofs.Turns.{meant, IsFree, opening_free, opening_granted, opening_network, turns_out, turns_none, turns_some, turned, given_memory}

-- the stored figures are true
abbrev AreTrueIn : Shape → LentMemory → Type 0
AreTrueIn K M = AreTrue (meant K M) (delivers (meant K M)) M.rec.chain (table_bit K.words M.lent.pairs)

-- ---- ONE OPENING keeps true figures true

stored_true : (K : Shape) (H : Network) (D : ℕ) (P : Pairs) (rec : Record) (links pairs : List ℕ) → Stores K H D P rec links pairs → AreTrue H (delivers H) D P
    → AreTrue (map_network K rec links) (delivers (map_network K rec links)) rec.chain (table_bit K.words pairs)
stored_true K H D P rec links pairs s t = rw (s.network, s.chain, s.pairs) t

module _ (K : Shape) (shape : IsShape K) (M : LentMemory) (o : Notice) (free : IsFree K M) (low : o.code < places K) (fits : accepts (meant K M) o ≡ true) where
  given_true : AreTrueIn K M → AreTrueIn K (memory_left (update_given zero K M.rec M.links M.lent (opens o)))
  unfolding network_after updated_by
  given_true were =
      stored_true K _ _ _ _ _ _
      (left_stores K M.rec M.links M.lent (opens o) shape (opening_granted K shape M o free low fits) low)
      ((granted_lawful K shape M.rec M.links M.lent.pairs (sizes_of M.links M.lent) (opens o) (opening_granted K shape M o free low fits)
      ).correct M.rec.chain (table_bit K.words M.lent.pairs) were).figures

  opening-true : AreTrueIn K M → AreTrueIn K (memory_left (opening_on K M o))
  unfolding opening_on update_call
  opening-true were =
      subst (λ (k : ℕ). AreTrueIn K (memory_left (update_given k K M.rec M.links M.lent (opens o)))) (sym (opening_granted K shape M o free low fits)) (given_true were)

-- what it writes, where its figures are true: the map of the network after it
module _ (K : Shape) (shape : IsShape K) (M : LentMemory) (o : Notice) (free : IsFree K M) (low : o.code < places K) (fits : accepts (meant K M) o ≡ true) (were : AreTrueIn K M) where
  opening_writes : map_in (memory_left (opening_on K M o)) ≡ write_map K (meant K (memory_left (opening_on K M o))) (map_in M)
  unfolding opening_on update_call
  opening_writes =
      ap (λ (k : ℕ). map_after (update_given k K M.rec M.links M.lent (opens o))) (opening_granted K shape M o free low fits)
      ∙ opened_writes K shape M.rec M.links M.lent (opens o) (opening_granted K shape M o free low fits) low were
      ∙ ap (λ (H : Network). write_map K H (map_in M)) (after_is K M.rec M.links (opens o) ∙ sym (opening_network K shape M o free low fits))

  -- so that it is a map written whole
  opening-whole : map_in (memory_left (opening_on K M o)) ≡ write_map K (meant K (memory_left (opening_on K M o))) (map_in (memory_left (opening_on K M o)))
  opening-whole =
      let H = meant K (memory_left (opening_on K M o)) in
      opening_writes ∙ sym (written_twice K H H (map_in M)) ∙ ap (write_map K H) (sym opening_writes)

opening-sizes : (K : Shape) → IsShape K → (M : LentMemory) (o : Notice) → sizes_of (memory_left (opening_on K M o)).links (memory_left (opening_on K M o)).lent ≡ sizes_of M.links M.lent
unfolding opening_on
opening-sizes K shape M o = sizes_kept K shape M.rec M.links M.lent (opens o)

-- ---- ALL TURNS

-- what the memory N says after a batch on M that comes to the network H
pub record IsBatched (K : Shape) (M N : LentMemory) (H : Network) : Type 0 where
  pub free : IsFree K N
  pub network : map_network K N.rec N.links ≡ H
  pub sizes : sizes_of N.links N.lent ≡ sizes_of M.links M.lent
  pub true_kept : AreTrue (map_network K M.rec M.links) (delivers (map_network K M.rec M.links)) M.rec.chain (table_bit K.words M.lent.pairs)
      → AreTrue (map_network K N.rec N.links) (delivers (map_network K N.rec N.links)) N.rec.chain (table_bit K.words N.lent.pairs)
  pub writes : AreTrue (map_network K M.rec M.links) (delivers (map_network K M.rec M.links)) M.rec.chain (table_bit K.words M.lent.pairs)
      → map_in M ≡ write_map K (map_network K M.rec M.links) (map_in M) → map_in N ≡ write_map K H (map_in M)

batch_network_none : (k : ℕ) (G : Network) (es : List Entry) → first_fit G es ≡ none → (batch_by (suc k) G es).network ≡ G
unfolding batch_by or_end
batch_network_none k G es q = rw q

batch_network_some : (k : ℕ) (G : Network) (es : List Entry) (e : Entry) → first_fit G es ≡ some e → (batch_by (suc k) G es).network ≡ (batch_by k (applied G (opens e.notice)) (without e.number es)).network
unfolding batch_by or_end
batch_network_some k G es e q = rw q

batch_network_out : (G : Network) (es : List Entry) → (batch_by 0 G es).network ≡ G
unfolding batch_by
batch_network_out G es = refl

module _ (K : Shape) (shape : IsShape K) where
  -- nothing is opened
  stays : (S N : BatchStanding) (H : Network) → IsFree K S.memory → N ≡ S → H ≡ meant K S.memory → IsBatched K S.memory N.memory H
  stays S N H free q r =
      subst (λ (X : BatchStanding). IsBatched K S.memory X.memory H) (sym q)
      (record { free = free; network = sym r; sizes = refl; true_kept = λ t. t; writes = λ t e. e ∙ ap (λ (X : Network). write_map K X (map_in S.memory)) (sym r) })

  turns_batched : (k : ℕ) (S : BatchStanding) → IsFree K S.memory → ((e : Entry) → Memᴰ e S.waiting → e.notice.code < places K)
      → IsBatched K S.memory (turns_on k K S).memory (batch_by k (meant K S.memory) S.waiting).network
  turns_batched zero S free codes = stays S (turns_on 0 K S) _ free (turns_out K S) (batch_network_out (meant K S.memory) S.waiting)
  turns_batched (suc k) S free codes = go (first_fit (meant K S.memory) S.waiting) refl (λ X f c. turns_batched k X f c)
    where
      go : (o : Option Entry) → first_fit (meant K S.memory) S.waiting ≡ o
          → ((X : BatchStanding) → IsFree K X.memory → ((e : Entry) → Memᴰ e X.waiting → e.notice.code < places K)
          → IsBatched K X.memory (turns_on k K X).memory (batch_by k (meant K X.memory) X.waiting).network)
          → IsBatched K S.memory (turns_on (suc k) K S).memory (batch_by (suc k) (meant K S.memory) S.waiting).network
      go none q ih = stays S (turns_on (suc k) K S) _ free (turns_none (suc k) K S q) (batch_network_none k (meant K S.memory) S.waiting q)
      go (some e) q ih =
          let M = S.memory in
          let low = codes e (fit_some (meant K M) S.waiting e q) in
          let fits = fit_accepts (meant K M) S.waiting e q in
          let next = opening_network K shape M e.notice free low fits in
          let rest = ih (turned K S e) (opening_free K shape M e.notice free low) (λ f m. codes f (without_out e.number S.waiting m)) in
          let ends : (batch_by (suc k) (meant K M) S.waiting).network ≡ (batch_by k (meant K (turned K S e).memory) (turned K S e).waiting).network =
          batch_network_some k (meant K M) S.waiting e q ∙ ap (λ (H : Network). (batch_by k H (turned K S e).waiting).network) (sym next) in
          subst (λ (N : BatchStanding). IsBatched K M N.memory (batch_by (suc k) (meant K M) S.waiting).network) (sym (turns_some k K shape S e q free low))
          (subst (λ (H : Network). IsBatched K M (turns_on k K (turned K S e)).memory H) (sym ends)
          (record {
            free = rest.free;
            network = rest.network;
            sizes = rest.sizes ∙ opening-sizes K shape M e.notice;
            true_kept = λ t. rest.true_kept (opening-true K shape M e.notice free low fits t);
            writes = λ t w.
                rest.writes (opening-true K shape M e.notice free low fits t) (opening-whole K shape M e.notice free low fits t)
                ∙ ap (write_map K _) (opening_writes K shape M e.notice free low fits t)
                ∙ written_twice K (meant K (turned K S e).memory) _ (map_in M);
          }))

  -- ---- THE CALL

  module _ (rec : Record) (links : List ℕ) (B : Lent) (places input : List ℕ) where
    abbrev M : LentMemory
    M = lent_memory rec links B

    pub given_batched : AreCodes K input → IsFree K (lent_memory rec links B) → IsBatched K (lent_memory rec links B) (batch_given zero K rec links B places input).memory (batch_on K rec links input).network
    unfolding batch_on batch_of
    given_batched codes free =
        subst (λ (N : LentMemory). IsBatched K M N (batch_of (map_network K rec links) (entries_of input)).network) (sym (given_memory K rec links B places input))
        (turns_batched (length (entries_of input)) (record { memory = M; waiting = entries_of input }) free codes)

    -- a batch that nothing refuses leaves a map that nothing refuses, of the network after it; true figures stay true
    pub batch_opened : AreCodes K input → batch_refusal K rec links B.pairs (sizes_of links B) (length places) input ≡ 0
        → IsBatched K (lent_memory rec links B) (batch_call K rec links B places input).memory (batch_on K rec links input).network
    unfolding batch_call
    batch_opened codes ok =
        subst (λ (k : ℕ). IsBatched K M (batch_given k K rec links B places input).memory (batch_on K rec links input).network) (sym ok)
        (given_batched codes (granted K rec links B.pairs (sizes_of links B) (length places) input ok).free)

    -- A MAP THAT NOTHING REFUSES STAYS SO, whatever is answered
    pub batch_kept : AreCodes K input → map_refusal K rec links B.pairs (sizes_of links B) ≡ 0 → IsFree K (batch_call K rec links B places input).memory
    unfolding batch_call batch_given
    batch_kept codes free = go (batch_refusal K rec links B.pairs (sizes_of links B) (length places) input)
      where
        go : (k : ℕ) → IsFree K (batch_given k K rec links B places input).memory
        go zero = (given_batched codes free).free
        go (suc k) = free

-- ---- WHAT A CALL GIVES

-- the tests that a map passes which nothing refuses
pub free_passed : (K : Shape) (M : LentMemory) → IsFree K M → IsPassed K (long_enough K (sizes_of M.links M.lent)) true M.rec M.links M.lent.pairs []
unfolding map_refusal lent_refusal lent_faults
free_passed K M free = lent-passed K (long_enough K (sizes_of M.links M.lent)) true M.rec M.links M.lent.pairs [] free

-- its network is one that a map can hold
pub free_held : (K : Shape) → IsShape K → (M : LentMemory) → IsFree K M → IsHeld K (meant K M)
unfolding network_of
free_held K shape M free = record {
  net = passed_net K (long_enough K (sizes_of M.links M.lent)) true M.rec M.links M.lent.pairs [] shape (free_passed K M free);
  depots = refl;
}

-- a map that nothing refuses and whose figures are true represents its network
represents : (K : Shape) (M : LentMemory) → IsFree K M → AreTrueIn K M → Represents K (map_in M) (meant K M)
unfolding network_of
represents K M free t =
    let passed = free_passed K M free in
    let links : AreLinksSound (places K) (meant K M) M.rec.number = (sound_links_iff K.words M.rec.members M.rec.yards M.links M.rec.number).0 passed.linked in
    let figures : AreFiguresSound (places K) (meant K M) (table_bit K.words M.lent.pairs) M.rec.chain M.rec.count =
    (sound_figures_iff (places K) (meant K M) (table_bit K.words M.lent.pairs) M.rec.chain M.rec.count).0 (passed.stored refl) in
    record {
      members = λ c l. refl;
      number = links.counted ∙ sym (length_count (meant K M).is_open (range (places K)));
      links = λ u v l m. refl;
      chain = t.chain;
      pairs = λ u v l m. t.pairs u v;
      count = figures.counted;
      yards = λ c l. refl;
    }

pub batch_correct : (K : Shape) → IsShape K → BatchCorrect K (batch_call K)
batch_correct K shape rec links B places input ok codes were =
    let is = batch_opened K shape rec links B places input codes ok in
    let N = (batch_call K rec links B places input).memory in
    subst (λ (H : Network). Represents K (map_in N) H) is.network (represents K N is.free (is.true_kept were))

-- ---- THE LARGEST SET

network_most : (K : Shape) (rec : Record) (links input : List ℕ) (N : LentMemory) → (batch_on K rec links input).network ≡ map_network K N.rec N.links → 0 < length (vertices (map_network K rec links))
    → IsLargest K rec links input N
unfolding batch_on
network_most K rec links input N q open-one =
    let G = map_network K rec links in
    let numbered = entries_apart input in
    record {
      largest = λ os are. subst (λ (H : Network). AreOpenIn (offered G os) H) q (batch_largest G open-one (entries_of input) numbered os are);
      whole = batch_entries G (entries_of input) numbered;
      reached = batch_reached G (entries_of input) numbered ∙ q;
      ended = λ e m. subst (λ (H : Network). accepts H e.notice ≡ false) q (batch_ended G (entries_of input) m);
    }

pub batch_most : (K : Shape) → IsShape K → BatchLargest K (batch_call K)
batch_most K shape rec links B places input ok codes =
    network_most K rec links input (batch_call K rec links B places input).memory (sym (batch_opened K shape rec links B places input codes ok).network)
    (granted K rec links B.pairs (sizes_of links B) (length places) input ok).some_open

-- ---- the rules' map: codes are bytes

pub codes_base : (input : List ℕ) → AreCodes base input
codes_base = entries_codes

pub batch_correct_base : BatchCorrect base (batch_call base)
batch_correct_base = batch_correct base base_shape
