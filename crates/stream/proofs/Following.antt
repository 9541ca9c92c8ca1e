-- A LINE ON LENT MEMORY IS THE LINE ON THE NETWORK: on memory that says a network with its figures, the line's answer has the report that
-- Stream.antt gives it, and what it leaves says the network after it. Assumes nothing.
use mathlib.Core.Path.{◌≡◌, refl, sym, ap, ap₂, ◌∙◌, subst}
use mathlib.Core.Bool.{Bool, true, not}
use mathlib.Core.List.{List, ◌∷◌}
use Prim.Native.Nat.{ℕ, zero, suc}
use Rattle.lists.specs.Lists.{range, filterb, countb, sum_of, overwrite, first_of}
use Rattle.lists.proofs.Tests.{t→true, true→t, clash, not→false}
use Rattle.lists.proofs.Counts.{count_filter, count_none, sum_filter, sum_ext}
use Rattle.graph.specs.Network.{Network}
use Rattle.graph.specs.Distance.{vertices}
use Rattle.graph.specs.Chart.{diameter, farthest, count_pairs}
use Rattle.graph.specs.Opening.{empty_network}
use Rattle.graph.specs.Updates.{Update, update_faults, applied}
use Rattle.graph.proofs.Theorems.{farthest_is}
use Rattle.map.specs.Memory.{base, places, table_words}
use Rattle.map.specs.Empty.{zeros, empty_record}
use Rattle.map.specs.declared.Record.{Record}
use Rattle.map.specs.Room.{Lent, sizes_of, long_enough}
use Rattle.notice.specs.Lines.{Line, garbled, frame, read_line}
use Rattle.update.specs.UpdateCall.{update_refusal, network_after, updated_by, UpdateLeft, update_given, update_call, IsWithin}
use Rattle.update.specs.Steps.{map_refusal}
use Rattle.plain_list.specs.PlainList.{moved, plain_answer, plain_next}
use Rattle.update.specs.Memory.{Memory, empty_memory}
use Rattle.update.proofs.Memories.{IsHeld, Says, write_map, written_says, memory_for, memory_written}
use Rattle.update.proofs.Grants.{after_is, held_after, figures_are_sound_lem, links_pass, figures_pass, connected_pass, refused_alike}
use Rattle.update.proofs.Openings.{given_searches, opened-moved, opened_writes, says-true}
use Rattle.update.proofs.Refuses.{refused_never}
use Rattle.update.proofs.Keeps.{sizes_kept}
use Rattle.update.proofs.Empties.{empty_held, empty_memory_lem}
use Rattle.transcript.specs.Transcript.{update_in, Followed, searches_by, follow_by, follow_line, report_on, frame_in}
use Rattle.line_buffer.specs.Lines.{report_of}
use Rattle.stream.specs.Feeding.{answer_to}
use Rattle.stream.proofs.Answers.{read-within}
use Rattle.map.proofs.Theorems.{base_shape}
use Rattle.graph.proofs.Delivers.{delivers_open}

-- ---- the number of farthest pairs is that of pairs of open depots

pub pairs_counted : (G : Network) → IsHeld base G → count_pairs (range (places base)) (farthest G) ≡ count_pairs (vertices G) (farthest G)
unfolding count_pairs
pairs_counted G held =
    let all = range (places base) in
    sym (
    ap (λ (vs : List ℕ). sum_of (λ u. countb (λ v. farthest G u v) vs) vs) held.depots
    ∙ sum_filter G.is_open (λ u. countb (λ v. farthest G u v) (filterb G.is_open all)) all
    (λ u closed. count_none (λ v. farthest G u v) (filterb G.is_open all) (λ v m. not→false (farthest G u v) (λ t. clash (t→true (G.is_open u) (delivers_open G u ((farthest_is G held.net u v).0 t).first)) closed)))
    ∙ sum_ext (λ u. countb (λ v. farthest G u v) (filterb G.is_open all)) (λ u. countb (λ v. farthest G u v) all) all
    (λ u. count_filter G.is_open (λ v. farthest G u v) all (λ v t. t→true (G.is_open v) (delivers_open G v ((farthest_is G held.net u v).0 (true→t t)).second)))
    )

-- ---- the empty map

pub begun_says : (links pairs : List ℕ) → Says base empty_network (empty_record base.words) (overwrite (zeros (table_words base)) links) (overwrite (zeros (table_words base)) pairs)
unfolding empty_memory memory_for write_map
begun_says links pairs =
    let E = empty_network in
    let old : Memory = record { links = links; pairs = pairs; rec = (memory_for base E).rec } in
    let is : memory_for base E ≡ empty_memory base = sym (empty_memory_lem base base_shape) in
    subst (λ (M : Memory). Says base E M.rec (overwrite M.links links) (overwrite M.pairs pairs)) is
    (subst (λ (r : Record). Says base E r (overwrite (memory_for base E).links links) (overwrite (memory_for base E).pairs pairs)) (sym (ap (λ (M : Memory). M.rec) (memory_written base E)))
    (written_says base E (empty_held base base_shape) old))

module _ (G : Network) (held : IsHeld base G) (rec : Record) (links : List ℕ) (B : Lent) (says : Says base G rec links B.pairs) (long : long_enough base (sizes_of links B) ≡ true) where
  -- nothing refuses the map
  pub says_free : map_refusal base rec links B.pairs (sizes_of links B) ≡ 0
  says_free =
      let sound = figures_are_sound_lem base base_shape G held in
      sym (refused_never base rec links B.pairs (sizes_of links B) long
      (links_pass base base_shape G held (diameter G) (farthest G) sound rec links B.pairs says)
      (figures_pass base base_shape G held (diameter G) (farthest G) sound rec links B.pairs says)
      (connected_pass base base_shape G held (diameter G) (farthest G) sound rec links B.pairs says))

  -- ---- an opening

  module _ (o : Update) (low : IsWithin base o) where
    refusal_is : update_refusal base rec links B.pairs (sizes_of links B) o ≡ first_of (update_faults G o)
    unfolding first_of
    refusal_is =
        refused_alike base base_shape G held (diameter G) (farthest G) (figures_are_sound_lem base base_shape G held) rec links B.pairs (sizes_of links B) o (λ l. says)
        ∙ ap (λ (b : Bool). first_of ((not b, 1) ∷ update_faults G o)) long

    -- what the opening with refusal k leaves, against the network's line
    pub record IsOpening (x : UpdateLeft) (y : Followed) : Type 0 where
      pub outcome : x.report.outcome ≡ y.outcome
      pub searches : x.report.searches ≡ y.searches
      pub is_held : IsHeld base y.network
      pub is_said : Says base y.network x.after x.links x.lent.pairs

    module _ (ok : update_refusal base rec links B.pairs (sizes_of links B) o ≡ 0) where
      next_is : network_after base rec links o ≡ applied G o
      next_is = after_is base rec links o ∙ ap (λ (N : Network). applied N o) says.network

      searches_are : (update_given zero base rec links B o).report.searches ≡ searches_by zero G (applied G o) o
      unfolding searches_by updated_by
      searches_are =
          given_searches base rec links B o
          ∙ rw (next_is, says.chain, says.pairs)

      accepted : IsOpening (update_given zero base rec links B o) (follow_by zero G o)
      unfolding follow_by plain_answer plain_next
      accepted =
          let now = held_after base base_shape rec links B.pairs (sizes_of links B) o ok low in
          let M : Memory = record { links = links; pairs = B.pairs; rec = rec } in
          record {
            outcome =
                opened-moved base base_shape rec links B o ok low (says-true base G held rec links B.pairs says)
                ∙ ap₂ (λ (D : ℕ) (N : Network). moved D (diameter N)) says.chain next_is;
            searches = searches_are;
            is_held = subst (IsHeld base) next_is now;
            is_said = subst (λ (N : Network). Says base N (update_given zero base rec links B o).after (update_given zero base rec links B o).links (update_given zero base rec links B o).lent.pairs) next_is
                (subst (λ (A : Memory). Says base (network_after base rec links o) A.rec A.links A.pairs)
                (sym (opened_writes base base_shape rec links B o ok low (says-true base G held rec links B.pairs says)))
                (written_says base (network_after base rec links o) now M));
          }

    refused : (k : ℕ) → IsOpening (update_given (suc k) base rec links B o) (follow_by (suc k) G o)
    unfolding follow_by plain_answer plain_next searches_by update_given
    refused k = record { outcome = refl; searches = refl; is_held = held; is_said = says }

    opening-by : (k : ℕ) → update_refusal base rec links B.pairs (sizes_of links B) o ≡ k → IsOpening (update_given k base rec links B o) (follow_by k G o)
    opening-by zero ok = accepted ok
    opening-by (suc k) ko = refused k

    opening_is : IsOpening (update_call base rec links B o) (follow_by (first_of (update_faults G o)) G o)
    unfolding update_call
    opening_is = subst (λ (k : ℕ). IsOpening (update_given k base rec links B o) (follow_by (first_of (update_faults G o)) G o)) (sym refusal_is) (opening-by (first_of (update_faults G o)) refusal_is)

  -- ---- a line

  -- the answer to the line l of the text, against the network's
  pub record IsLine (l : Line) : Type 0 where
    pub report : (n : ℕ) → report_of n (record { report = (answer_to (frame_in l) rec links B).report; after = (answer_to (frame_in l) rec links B).after }) ≡ report_on n (follow_line G l)
    pub is_held : IsHeld base (follow_line G l).network
    pub is_said : Says base (follow_line G l).network (answer_to (frame_in l) rec links B).after (answer_to (frame_in l) rec links B).links (answer_to (frame_in l) rec links B).lent.pairs
    pub sizes : sizes_of (answer_to (frame_in l) rec links B).links (answer_to (frame_in l) rec links B).lent ≡ sizes_of links B

  report_is : (n : ℕ) (x : UpdateLeft) (y : Followed) → x.report.outcome ≡ y.outcome → x.report.searches ≡ y.searches → IsHeld base y.network → Says base y.network x.after x.links x.lent.pairs
      → report_of n (record { report = x.report; after = x.after }) ≡ report_on n y
  unfolding report_on
  report_is n x y p q h s = λ i. record {
    number = n;
    outcome = p i;
    depots = s.number i;
    chain = s.chain i;
    pairs = (s.count ∙ pairs_counted y.network h) i;
    searches = q i;
  }

  garbled_line_lem : IsLine garbled
  unfolding answer_to follow_line
  garbled_line_lem = record {
    report = λ n. report_is n (answer_to (frame_in garbled) rec links B) (follow_line G garbled) refl refl held says;
    is_held = held;
    is_said = says;
    sizes = refl;
  }

  frame_line : (f : List ℕ) (u : ℕ) → IsWithin base (update_in f) → IsLine (frame f u)
  unfolding answer_to follow_line
  frame_line f u low =
      let x = opening_is (update_in f) low in
      record {
        report = λ n. report_is n (answer_to (frame_in (frame f u)) rec links B) (follow_line G (frame f u)) x.outcome x.searches x.is_held x.is_said;
        is_held = x.is_held;
        is_said = x.is_said;
        sizes = sizes_kept base base_shape rec links B (update_in f);
      }

  pub line_is : (text : List ℕ) (l : Line) → read_line text ≡ l → IsLine l
  line_is text garbled e = garbled_line_lem
  line_is text (frame f u) e = frame_line f u (read-within text f u e)
