-- ONE CALL on the memory of a network: it is refused as the plain list refuses it, answers as the list answers, and leaves the memory of the
-- network that the list then holds. Assumes nothing.
use mathlib.Core.Path.{◌≡◌, refl, sym, ap, ap₂, ◌∙◌, subst}
use mathlib.Core.Bool.{Bool, true, not, ◌&&◌}
use mathlib.Core.List.{List, ◌∷◌}
use Prim.Native.Nat.{ℕ, zero, suc, ◌≤◌}
use lib.Dec.{leb}
use lib.ListN.{length}
use Rattle.std.proofs.lemmas.Bool.{and_parts}
use Rattle.outcome.specs.Numbers.{short_buffer}
use Rattle.lists.specs.Lists.{overwrite, first_of}
use Rattle.lists.proofs.Buffers.{overwrite_all}
use Rattle.lists.proofs.Fills.{overwrite_take}
use Rattle.rows.specs.Rows.{table_bit, encode_row, encode_table}
use Rattle.rows.proofs.Written.{encode_row_length, encode_table_length}
use Rattle.graph.specs.Network.{Network, AreTrue, delivers}
use Rattle.graph.specs.Distance.{vertices}
use Rattle.graph.specs.Chart.{diameter, farthest}
use Rattle.graph.specs.Updates.{Update, update_faults, applied}
use Rattle.graph.specs.Batch.{Batch, batch_of, numbers_of}
use Rattle.map.specs.Memory.{Shape, IsShape, table_words, map_network}
use Rattle.map.specs.Room.{Lent, Sizes, sizes_of, long_enough}
use Rattle.map.proofs.Longs.{are_long_lem}
use Rattle.update.specs.UpdateCall.{update_refusal, network_after, update_given, update_call, references_by, references_of, IsWithin}
use Rattle.update.specs.Memory.{Memory}
use Rattle.update.specs.Represents.{IsMarked}
use Rattle.update.proofs.Memories.{IsHeld, Says, record_path, memory_path, write_map, written_says, memory_for, links_length, pairs_length}
use Rattle.update.proofs.Grants.{after_is, granted_long, held_after, figures_are_sound_lem, lent_alike, refused_alike}
use Rattle.update.proofs.Openings.{opened-moved, opened_writes, says-true}
use Rattle.update.proofs.Marks.{refused_marked, opened_marked}
use Rattle.plain_list.specs.PlainList.{moved, plain_answer, plain_next}
use Rattle.batch.specs.Lines.{batch_limit, entries_of, batch_faults}
use Rattle.batch_update.specs.BatchCall.{batch_refusal, LentMemory, memory_left, batch_on, batch_given, batch_call}
use Rattle.batch_update.specs.Correct.{AreCodes, map_in}
use Rattle.batch_update.specs.Marks.{IsLeftBy}
use Rattle.batch_update.proofs.Refuses.{granted}
use Rattle.batch_update.proofs.Theorems.{IsBatched, given_batched, free_passed, free_held}
use Rattle.batch_update.proofs.Marks.{given_marks}
use Rattle.history.specs.PlainRun.{Ask, update, batch, told, left_over, ask_long, ask_faults, plain_refusal, ask_next, ask_answer}
use Rattle.history.specs.History.{lend, restore, Lending, Call, lent_to, rules_program, batch_answer, ask_left, memory_after, lent_size, lent_sizes, feed_of}
use Rattle.history.specs.HistoriesAgree.{OpensCodes, last_of_batch, last_update}
use Rattle.history.proofs.Lendings.{lent_length, lent-whole, restored_same, restored_new}

-- the map as it stands when a call has left a map in the lent words
abbrev restored_map : Memory → Lending → Memory → Memory
restored_map M c A = record { links = restore c.links M.links A.links; pairs = restore c.pairs M.pairs A.pairs; rec = A.rec }

after_restored : (M : Memory) (c : Lending) (N : LentMemory) → memory_after M c N ≡ restored_map M c (map_in N)
unfolding memory_after
after_restored M c N = refl

module _ (K : Shape) (shape : IsShape K) (G : Network) (held : IsHeld K G) (c : Lending) where
  abbrev M : Memory
  M = memory_for K G

  -- what is lent, and its parts
  abbrev N : LentMemory
  N = lent_to (memory_for K G) c

  abbrev L : List ℕ
  L = lend c.links (memory_for K G).links

  abbrev B : Lent
  B = (lent_to (memory_for K G) c).lent

  -- ---- what is lent

  sizes_are : sizes_of L B ≡ lent_sizes K c
  unfolding sizes_of lent_sizes
  sizes_are = λ i. record {
    links = lent_length (table_words K) c.links M.links (links_length K G) i;
    pairs = lent_length (table_words K) c.pairs M.pairs (pairs_length K G) i;
    hops = length c.searched.hops;
    bounds = length c.bounds;
    skips = length c.skips;
    even = length c.searched.even;
    odd = length c.searched.odd;
  }

  tables-whole : long_enough K (lent_sizes K c) ≡ true → (table_words K ≤ lent_size (table_words K) c.links) × (table_words K ≤ lent_size (table_words K) c.pairs)
  unfolding lent_sizes
  tables-whole long = let fit = are_long_lem K (lent_sizes K c) long in (fit.links, fit.pairs)

  lent_written : long_enough K (lent_sizes K c) ≡ true → map_in N ≡ write_map K G (map_in N)
  unfolding write_map memory_for
  lent_written long =
      memory_path
      (lent-whole (table_words K) c.links M.links (links_length K G) (tables-whole long).0)
      (lent-whole (table_words K) c.pairs M.pairs (pairs_length K G) (tables-whole long).1)
      (record_path (sym (overwrite_all (encode_row K.words G.is_open) (encode_row K.words G.is_open) refl)) refl refl refl
      (sym (overwrite_all (encode_row K.words G.is_yard) (encode_row K.words G.is_yard) refl)))

  pub lent_says : long_enough K (lent_sizes K c) ≡ true → Says K G M.rec L B.pairs
  lent_says long = subst (λ (A : Memory). Says K G A.rec A.links A.pairs) (sym (lent_written long)) (written_says K G held (map_in N))

  -- a row written over a row
  row_over : (new old : ℕ → Bool) → overwrite (encode_row K.words new) (encode_row K.words old) ≡ encode_row K.words new
  row_over new old = overwrite_all (encode_row K.words new) (encode_row K.words old) (encode_row_length K.words new ∙ sym (encode_row_length K.words old))

  -- a new map stands where the old one stood
  restored_written : long_enough K (lent_sizes K c) ≡ true → (H : Network) → restored_map M c (write_map K H (map_in N)) ≡ memory_for K H
  unfolding write_map memory_for
  restored_written long H =
      let whole = tables-whole long in
      memory_path
      (restored_new (table_words K) c.links M.links (encode_table K.words H.linked) (links_length K G) (encode_table_length K.words H.linked) whole.0)
      (restored_new (table_words K) c.pairs M.pairs (encode_table K.words (farthest H)) (pairs_length K G) (encode_table_length K.words (farthest H)) whole.1)
      (record_path (row_over H.is_open G.is_open) refl refl refl (row_over H.is_yard G.is_yard))

  -- what a refused call leaves, the map as it was lent, comes back
  same_memory : memory_after M c N ≡ memory_for K G
  unfolding memory_after
  same_memory = memory_path (restored_same c.links M.links) (restored_same c.pairs M.pairs) refl

  -- ---- WHAT A CALL THAT ASKS FOR a OWES, k being the plain list's refusal

  pub record IsStep (a : Ask) (k : ℕ) : Type 0 where
    pub answer : (ask_left (rules_program K) N c.left a).answer ≡ ask_answer k G a
    pub memory : memory_after M c (ask_left (rules_program K) N c.left a).memory ≡ memory_for K (ask_next k G a)
    pub is_held : IsHeld K (ask_next k G a)
    pub is_marked : IsLeftBy K (update_call K) (ask_next k G a) N (ask_left (rules_program K) N c.left a).memory (last_update K N c.left a)

  -- ---- AN UPDATE

  module _ (u : Update) where
    abbrev refusal : ℕ
    refusal = update_refusal K M.rec L B.pairs (sizes_of L B) u

    pub refusal_is : refusal ≡ first_of ((not (long_enough K (lent_sizes K c)), short_buffer) ∷ update_faults G u)
    refusal_is =
        ap (λ (s : Sizes). update_refusal K M.rec L B.pairs s u) sizes_are
        ∙ refused_alike K shape G held (diameter G) (farthest G) (figures_are_sound_lem K shape G held) M.rec L B.pairs (lent_sizes K c) u lent_says

    module _ (within : IsWithin K u) (ok : refusal ≡ 0) where
      long : long_enough K (lent_sizes K c) ≡ true
      long = ap (long_enough K) (sym sizes_are) ∙ granted_long K shape M.rec L B.pairs (sizes_of L B) u ok

      next_is : network_after K M.rec L u ≡ applied G u
      next_is = after_is K M.rec L u ∙ ap (λ (X : Network). applied X u) (lent_says long).network

      were : AreTrue (map_network K M.rec L) (delivers (map_network K M.rec L)) M.rec.chain (table_bit K.words B.pairs)
      were = says-true K G held M.rec L B.pairs (lent_says long)

      accepted_answer : (update_given zero K M.rec L B u).report.outcome ≡ moved (diameter G) (diameter (applied G u))
      accepted_answer = opened-moved K shape M.rec L B u ok within were ∙ ap₂ (λ (D : ℕ) (X : Network). moved D (diameter X)) (lent_says long).chain next_is

      accepted_memory : memory_after M c (memory_left (update_given zero K M.rec L B u)) ≡ memory_for K (applied G u)
      accepted_memory =
          after_restored M c (memory_left (update_given zero K M.rec L B u))
          ∙ ap (restored_map M c) (opened_writes K shape M.rec L B u ok within were)
          ∙ restored_written long (network_after K M.rec L u)
          ∙ ap (memory_for K) next_is

    -- the call with the refusal j, where the plain list's is k
    pub record IsUpdated (k j : ℕ) : Type 0 where
      pub answer : (update_given j K M.rec L B u).report.outcome ≡ plain_answer k G (plain_next k G u)
      pub memory : memory_after M c (memory_left (update_given j K M.rec L B u)) ≡ memory_for K (plain_next k G u)
      pub is_held : IsHeld K (plain_next k G u)
      pub is_marked : IsMarked K (plain_next k G u) (references_by j K M.rec L B u) (update_given j K M.rec L B u)

    updated_by_lem : IsWithin K u → (k : ℕ) → refusal ≡ k → IsUpdated k k
    unfolding plain_answer plain_next update_given
    updated_by_lem within zero ok = record {
      answer = accepted_answer within ok;
      memory = accepted_memory within ok;
      is_held = subst (IsHeld K) (next_is within ok) (held_after K shape M.rec L B.pairs (sizes_of L B) u ok within);
      is_marked = subst (λ (X : Network). IsMarked K X (references_by zero K M.rec L B u) (update_given zero K M.rec L B u)) (next_is within ok) (opened_marked K shape M.rec L B u ok within);
    }
    updated_by_lem within (suc k) ko = record { answer = refl; memory = same_memory; is_held = held; is_marked = refused_marked k K G M.rec L B u }

    pub updated : IsWithin K u → (k : ℕ) → refusal ≡ k → IsUpdated k refusal
    updated within k e = subst (λ (j : ℕ). IsUpdated k j) (sym e) (updated_by_lem within k e)

    update_step : IsWithin K u → (k : ℕ) → refusal ≡ k → IsStep (update u) k
    unfolding ask_left ask_answer ask_next last_update update_call references_of
    update_step within k e =
        let s = updated within k e in
        record { answer = ap told s.answer; memory = s.memory; is_held = s.is_held; is_marked = (refl, s.is_marked) }

  -- ---- A BATCH

  module _ (lines : List ℕ) where
    abbrev batch_refusal_lem : ℕ
    batch_refusal_lem = batch_refusal K M.rec L B.pairs (sizes_of L B) (length c.left) lines

    batch_refusal_is : batch_refusal_lem ≡ first_of ((not (leb batch_limit (length c.left) && long_enough K (lent_sizes K c)), short_buffer) ∷ batch_faults (length (vertices G)) lines)
    unfolding batch_refusal
    batch_refusal_is =
        ap (λ (s : Sizes). batch_refusal K M.rec L B.pairs s (length c.left) lines) sizes_are
        ∙ lent_alike K shape G held (diameter G) (farthest G) (figures_are_sound_lem K shape G held) M.rec L B.pairs
        (leb batch_limit (length c.left) && long_enough K (lent_sizes K c))
        (λ e. lent_says (and_parts (leb batch_limit (length c.left)) (long_enough K (lent_sizes K c)) e).1)
        (λ X. batch_faults (length (vertices X)) lines)

    module _ (codes : AreCodes K lines) (ok : batch_refusal_lem ≡ 0) where
      abbrev after : LentMemory
      after = (batch_given zero K M.rec L B c.left lines).memory

      opened : IsBatched K N (batch_given zero K M.rec L B c.left lines).memory (batch_on K M.rec L lines).network
      opened = given_batched K shape M.rec L B c.left lines codes (granted K M.rec L B.pairs (sizes_of L B) (length c.left) lines ok).free

      room : long_enough K (lent_sizes K c) ≡ true
      room = ap (long_enough K) (sym sizes_are) ∙ (free_passed K N (granted K M.rec L B.pairs (sizes_of L B) (length c.left) lines ok).free).whole

      batch_is : batch_on K M.rec L lines ≡ batch_of G (entries_of lines)
      unfolding batch_on
      batch_is = ap (λ (X : Network). batch_of X (entries_of lines)) (lent_says room).network

      ends_in : map_network K after.rec after.links ≡ (batch_of G (entries_of lines)).network
      ends_in = opened.network ∙ ap (λ (b : Batch). b.network) batch_is

      batch_answer_lem : batch_answer (batch_given zero K M.rec L B c.left lines).answer (batch_given zero K M.rec L B c.left lines).left ≡ left_over (numbers_of (batch_of G (entries_of lines)).left)
      unfolding batch_given batch_answer
      batch_answer_lem =
          ap left_over (overwrite_take (numbers_of (batch_on K M.rec L lines).left) c.left)
          ∙ ap (λ (b : Batch). left_over (numbers_of b.left)) batch_is

      batch_memory : memory_after M c after ≡ memory_for K (batch_of G (entries_of lines)).network
      batch_memory =
          let were = says-true K G held M.rec L B.pairs (lent_says room) in
          let whole : map_in N ≡ write_map K (map_network K M.rec L) (map_in N) = lent_written room ∙ ap (λ (X : Network). write_map K X (map_in N)) (sym (lent_says room).network) in
          after_restored M c after
          ∙ ap (restored_map M c) (opened.writes were whole)
          ∙ restored_written room (batch_on K M.rec L lines).network
          ∙ ap (λ (b : Batch). memory_for K b.network) batch_is

    -- the call with the refusal j, where the plain list's is k
    record IsBatchStep (k j : ℕ) : Type 0 where
      pub answer : batch_answer (batch_given j K M.rec L B c.left lines).answer (batch_given j K M.rec L B c.left lines).left ≡ ask_answer k G (batch lines)
      pub memory : memory_after M c (batch_given j K M.rec L B c.left lines).memory ≡ memory_for K (ask_next k G (batch lines))
      pub is_held : IsHeld K (ask_next k G (batch lines))
      pub is_marked : IsLeftBy K (update_call K) (ask_next k G (batch lines)) N (batch_given j K M.rec L B c.left lines).memory (last_of_batch j K N lines)

    batched_by : AreCodes K lines → (k : ℕ) → batch_refusal_lem ≡ k → IsBatchStep k k
    unfolding ask_answer ask_next last_of_batch batch_given batch_answer
    batched_by codes zero ok =
        let free = (granted K M.rec L B.pairs (sizes_of L B) (length c.left) lines ok).free in
        record {
          answer = batch_answer_lem codes ok;
          memory = batch_memory codes ok;
          is_held = subst (IsHeld K) (ends_in codes ok) (free_held K shape (after codes ok) (opened codes ok).free);
          is_marked = subst (λ (X : Network). IsLeftBy K (update_call K) X N (after codes ok) (last_of_batch zero K N lines)) (ends_in codes ok) (given_marks K shape M.rec L B c.left lines codes free);
        }
    batched_by codes (suc k) ko = record { answer = refl; memory = same_memory; is_held = held; is_marked = refl }

    batched : AreCodes K lines → (k : ℕ) → batch_refusal_lem ≡ k → IsBatchStep k batch_refusal_lem
    batched codes k e = subst (λ (j : ℕ). IsBatchStep k j) (sym e) (batched_by codes k e)

    batch_step : AreCodes K lines → (k : ℕ) → batch_refusal_lem ≡ k → IsStep (batch lines) k
    unfolding ask_left last_update batch_call
    batch_step codes k e =
        let s = batched codes k e in
        record { answer = s.answer; memory = s.memory; is_held = s.is_held; is_marked = s.is_marked }

  -- ---- THE STEP

  step_for : (a : Ask) → OpensCodes K a → IsStep a (first_of ((not (ask_long K a (lent_sizes K c) (length c.left)), short_buffer) ∷ ask_faults G a))
  unfolding ask_long ask_faults
  step_for (update u) within = update_step u within _ (refusal_is u)
  step_for (batch lines) codes = batch_step lines codes _ (batch_refusal_is lines)

pub one_step : (K : Shape) (shape : IsShape K) (G : Network) (held : IsHeld K G) (c : Call) → OpensCodes K c.ask → IsStep K shape G held c.lending c.ask (plain_refusal K G (feed_of K c))
unfolding plain_refusal feed_of
one_step K shape G held c call = step_for K shape G held c.lending c.ask call
