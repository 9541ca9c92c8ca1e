-- THE THEOREM: the table of cases holds of the calls on lent memory, carried over from the same cases on networks (graph, Cases.antt).
-- Assumes nothing.
use mathlib.Core.Path.{◌≡◌, refl, sym, ap, ap₂, ◌∙◌, subst}
use mathlib.Core.Logic.{◌⊎◌, inl, inr}
use mathlib.Core.Bool.{Bool, true, false, ◌&&◌, ◌||◌}
use mathlib.Core.List.Memᴰ
use mathlib.Core.List.{List, [], ◌∷◌, map, Memᴰ}
use Prim.Native.Nat.{ℕ, suc, ◌≤◌, zero-le}
use lib.Dec.{eqb, ltb, lit≤}
use lib.ListN.{length}
use borrow.Author.Tests.{le-ltb, le-leb, ltb-true}
use Rattle.std.proofs.lemmas.Bool.{and_parts}
use Rattle.lists.specs.Lists.{range, allb, countb, mapl, overwrite, first_of}
use Rattle.lists.proofs.Members.{filter-ext, filter_none}
use Rattle.rows.specs.Rows.{encode_row, encode_table}
use Rattle.graph.specs.Chart.{chart, count_pairs}
use Rattle.graph.specs.Rounds.{reckon}
use Rattle.graph.specs.Opening.{empty_network}
use Rattle.graph.specs.Updates.{Update, opens, joins}
use Rattle.graph.specs.Cases as Graph
use Rattle.map.specs.Memory.{base, network_of, yard_network, map_network}
use Rattle.std.specs.Prelude.{Ok}
use Rattle.outcome.specs.Answers.{numbered, unless}
use Rattle.map.specs.Empty.{empty_record, empty_refusal, empty_call}
use Rattle.map.specs.declared.Record.{Record}
use Rattle.map.proofs.Theorems.{emptied_is_empty, base_shape}
use Rattle.reckon.specs.ReckonCall.{reckon_call}
use Rattle.outcome.specs.Outcome.{letter_of, refusal_of}
use Rattle.update.specs.UpdateCall.{update_call, IsWithin}
use Rattle.plain_list.specs.PlainList.{moved}
use Rattle.update.specs.Memory.{Memory, empty_memory}
use Rattle.update.proofs.Memories.{network_path, network_read}
use Rattle.update.proofs.Empties.{empty_held, none-diameter, none-farthest, empty_memory_lem}
use Rattle.decimal.specs.Decimal.{spell, decimal, field}
use Rattle.hexadecimal.specs.Hex.{is_digit, digit_value, bytes_of}
use Rattle.notice.specs.Lines.{end_of, spells_frame, is_frame, read_head}
use Rattle.report.specs.Line.{outcome_text, figures_text}
use Rattle.transcript.specs.Transcript.{transcript}
use Rattle.stream.proofs.Theorems.{pieces_alike}
use Rattle.transcript.specs.Texts.{bytes_in}
use Rattle.cases.specs.Results.{LentUpdate, answers_of, updates_of, AllLong}
use Rattle.cases.specs.Table.{empty_result, single_result, seven_result, seven_answers, seven_input, seven_output, Cases}
use Rattle.cases.proofs.Paths.{path_held}
use Rattle.cases.proofs.Reckonings.{path_result, path_result_lem}
use Rattle.cases.proofs.Lines.{figured_for, AreWithin, lines_left, row, rows_are, lines_are}

-- ---- the paths reckoned, by the rules on the network

empty_result_lem : path_result 0 0 ≡ empty_result
unfolding path_result Graph.path chart reckon count_pairs Graph.pair_list mapl
empty_result_lem = refl

single_result_lem : path_result 1 1 ≡ single_result
unfolding path_result Graph.path chart reckon count_pairs Graph.pair_list mapl
single_result_lem = refl

seven_result_lem : path_result 7 7 ≡ seven_result
unfolding path_result Graph.path chart reckon count_pairs Graph.pair_list mapl
seven_result_lem = refl

counted : (countb (Graph.path 0).is_open (range 256) ≡ 0) × (countb (Graph.path 1).is_open (range 256) ≡ 1) × (countb (Graph.path 7).is_open (range 256) ≡ 7)
unfolding Graph.path countb range
counted = (refl, refl, refl)

-- ---- memory that means them

path_written : (k : ℕ) → k ≤ 256 → (members yards links : List ℕ)
    → yard_network 4 (overwrite (encode_row 4 (Graph.path k).is_open) members) (overwrite (encode_row 4 (Graph.path k).is_yard) yards) (overwrite (encode_table 4 (Graph.path k).linked) links)
    ≡ Graph.path k
path_written k low = network_read base (Graph.path k) (path_held k low)

module _ (links pairs : List ℕ) (l : 1024 ≤ length links) (p : 1024 ≤ length pairs) where
  emptied_done : (empty_call base links pairs).answer ≡ Ok (empty_record base.words)
  unfolding empty_call unless numbered empty_refusal first_of
  emptied_done = rw (le-leb 1024 (length links) l, le-leb 1024 (length pairs) p)

  emptied_path : (map_network base (empty_record base.words) (empty_call base links pairs).lent.0 ≡ Graph.path 0) × ((empty_record base.words).number ≡ 0)
  unfolding network_of Graph.path
  emptied_path =
      let e = emptied_is_empty base links pairs (empty_record base.words) emptied_done in (
        network_path
            (filter-ext _ (λ c. false) (range 256) (λ c m. e.closed c) ∙ filter_none (range 256))
            (λ c. e.closed c ∙ sym (none c))
            (λ c. e.yardless c)
            (λ u v. e.unlinked u v ∙ sym (ap (λ (b : Bool). b && ltb v 0 && (eqb (suc u) v || eqb u (suc v))) (none u))),
        e.number,
      )
    where
      none : (c : ℕ) → ltb c 0 ≡ false
      none c = le-ltb c 0 zero-le

-- ---- the seven lines

-- updates that open bytes
unfoldable pub opens_bytes : Update → Bool
opens_bytes (opens o) = ltb o.code 256
opens_bytes (joins a b) = true

within_of : (cs : List LentUpdate) → allb opens_bytes (updates_of cs) ≡ true → AreWithin cs
unfolding updates_of allb opens_bytes
within_of [] h c m = absurd (Memᴰ.not-nil m)
within_of (d ∷ cs) h c m = go (and_parts (opens_bytes d.update) (allb opens_bytes (updates_of cs)) h) (Memᴰ.cases_cons m) (within_of cs)
  where
    low : (u : Update) → opens_bytes u ≡ true → IsWithin base u
    low (opens o) k = ltb-true o.code 256 k
    low (joins a b) k = tt

    go : (opens_bytes d.update ≡ true) × (allb opens_bytes (updates_of cs) ≡ true) → (c ≡ d) ⊎ Memᴰ c cs → (allb opens_bytes (updates_of cs) ≡ true → AreWithin cs) → IsWithin base c.update
    go k (inl q) ih = subst (λ (x : LentUpdate). IsWithin base x.update) (sym q) (low d.update k.0)
    go k (inr n) ih = ih k.1 c n

seven_bytes : allb opens_bytes Graph.seven_lines ≡ true
unfolding allb opens_bytes
seven_bytes = refl

start-figured : figured_for empty_network ≡ Graph.no_depot
unfolding Graph.no_depot
start-figured = λ i. record { net = empty_network; chain = none-diameter base base_shape i; pairs = none-farthest base base_shape i }

-- updates from the empty map give the lines of the network's own
pub opened_lines : (os : List Update) → allb opens_bytes os ≡ true → (cs : List LentUpdate) → updates_of cs ≡ os → AllLong cs
    → answers_of (update_call base) (empty_memory base) cs ≡ map row (Graph.follow_all Graph.no_depot os)
opened_lines os bytes cs e lent =
    let calls = within_of cs (ap (allb opens_bytes) e ∙ bytes) in
    rows_are (empty_memory base) cs
    ∙ ap (map row)
    (ap (λ (M : Memory). lines_left M cs) (empty_memory_lem base base_shape)
    ∙ lines_are empty_network (empty_held base base_shape) cs calls lent
    ∙ ap₂ Graph.follow_all start-figured e)

stream_holds : (cs : List LentUpdate) → updates_of cs ≡ Graph.seven_lines → AllLong cs → answers_of (update_call base) (empty_memory base) cs ≡ seven_answers
stream_holds cs e lent = opened_lines Graph.seven_lines seven_bytes cs e lent ∙ ap (λ (t : Graph.NetworkCases). map row t.stream) Graph.cases

-- ---- the stream's bytes, by computation

text_holds : transcript (bytes_in seven_input) ≡ bytes_in seven_output
unfolding bytes_in transcript moved allb read_head end_of spells_frame is_frame bytes_of is_digit digit_value outcome_text letter_of refusal_of figures_text field decimal spell
text_holds = refl

-- ---- ALL OF IT

pub cases_hold : Cases (empty_call base) (reckon_call base) (update_call base)
cases_hold = record {
  empty = λ rec links B lent. path_result_lem 0 0 (lit≤ tt) (sym counted.0) rec links B lent ∙ ap Ok empty_result_lem;
  single = λ rec links B lent. path_result_lem 1 1 (lit≤ tt) (sym counted.1) rec links B lent ∙ ap Ok single_result_lem;
  seven = λ rec links B lent. path_result_lem 7 7 (lit≤ tt) (sym counted.2) rec links B lent ∙ ap Ok seven_result_lem;
  written = path_written;
  emptied = λ links pairs l p. let e = emptied_path links pairs l p in (empty_record base.words, emptied_done links pairs l p, e.0, e.1);
  stream = stream_holds;
  text = text_holds;
  pieces = λ s is ts out room used. pieces_alike s is ts out room ∙ ap transcript used ∙ text_holds;
}
