-- THE THEOREMS of this crate: which refusal a whole reckoning gives, and what it gives else, for every shape of a map. Assumes nothing.
use mathlib.Core.Path.{◌≡◌, refl, sym, ap, ◌∙◌, subst}
use mathlib.Core.Logic.{◌↔◌}
use mathlib.Core.Bool.{Bool, false}
use mathlib.Core.List.{List, []}
use Prim.Native.Nat.{ℕ, zero, suc, ◌<◌}
use native.Mathlib.Omega.{arith}
use lib.Dec.{T}
use lib.ListN.{length}
use Rattle.lists.specs.Lists.{range, allb}
use Rattle.lists.proofs.Conditions.{decides_short}
use Rattle.lists.proofs.Fills.{length_fill}
use Rattle.graph.specs.Network.{Network, IsFarthest, delivers}
use Rattle.graph.specs.Distance.{vertices}
use Rattle.graph.specs.Chart.{chart, count_pairs}
use Rattle.graph.specs.Rounds.{State, reckon}
use Rattle.graph.specs.Correct.{IsNet, IsReckoned}
use Rattle.graph.proofs.Theorems.{reckoning_correct}
use Rattle.graph.proofs.Skipped.{reckoning_skipped}
use Rattle.graph.proofs.Delivers.{delivers_open}
use Rattle.rows.proofs.Written.{table_at, encode_table_length}
use Rattle.map.specs.Room.{Lent, sizes_of, rounds_buffers, long_enough, AreLong}
use Rattle.map.specs.Memory.{Shape, IsShape, places, base, map_network}
use Rattle.map.specs.declared.Record.{Record}
use Rattle.map.proofs.Theorems.{network_open_below, network_length, base_shape}
use Rattle.checks.proofs.Theorems.{sound_links_iff}
use Rattle.search.proofs.Theorems.{over_keeps}
use Rattle.rounds.specs.Leaves.{rounds_leave, search_after}
use Rattle.std.specs.Prelude.{Option, Some, None, Ok}
use Rattle.outcome.specs.Answers.{refusal_in, Left, leaves, unless}
use Rattle.outcome.proofs.Answers.{done_leaves, refuses_by}
use Rattle.reckon.specs.declared.Reckoned.{Reckoned}
use Rattle.reckon.specs.ReckonCall.{reckon_refusal, figured_by, reckon_call}
use Rattle.reckon.specs.Refusals.{reckon_conditions, ReckonRefuses}
use Rattle.reckon.specs.Correct.{IsReckoning, ReckonCorrect}
use Rattle.reckon.proofs.Reckons.{granted_long, granted_tests, granted_net}
use Rattle.rounds.proofs.Reading.{pairs_read, skip_bound, closed_at, skip_marks, skips_counted, bound_ecc, few_searches, last_search}
use Rattle.map.proofs.Longs.{long_is}
use Rattle.lent_map.proofs.Refuses.{lent_tells}
use Rattle.lent_map.specs.Faults.{lent_refusal, lent_faults}

module _ (K : Shape) (shape : IsShape K) (rec : Record) (links : List ℕ) (B : Lent) (ok : None ≡ reckon_refusal K rec links (sizes_of links B)) where
  abbrev G : Network
  G = map_network K rec links

  abbrev S : State
  S = reckon (chart (map_network K rec links))

  net : IsNet G
  net = granted_net K rec links (sizes_of links B) shape ok

  correct : IsReckoned G S
  correct = reckoning_correct G net

  long : AreLong K (sizes_of links B)
  long = granted_long K rec links (sizes_of links B) ok

  below : (v : ℕ) → T (G.is_open v) → v < places K
  below = network_open_below K.words rec.members links

  number_is : rec.number ≡ length (vertices G)
  number_is =
      ((sound_links_iff K.words rec.members rec.yards links rec.number).0 (granted_tests K rec links (sizes_of links B) ok).0).counted
      ∙ sym (network_length K.words rec.members links)

  -- ---- without a search

  no_search : S.references ≡ [] → search_after K.words G S.references B.searched ≡ B.searched
  unfolding search_after
  no_search q = ap (λ (l : List ℕ). search_after K.words G l B.searched) q

  -- ---- AN ACCEPTED RECKONING

  ends : (u v : ℕ) → T (S.pairs u v) → T (G.is_open u) × T (G.is_open v)
  ends u v t = let f = (correct.figures.pairs u v).0 t in (delivers_open G u f.first, delivers_open G v f.second)

  given_reckoning : IsReckoning K G rec B S.references (record { searches = length S.references; after = figured_by K rec S }) (rounds_leave K G S B)
  unfolding figured_by rounds_leave sizes_of
  given_reckoning = record {
    chain = correct.figures.chain;
    pairs = λ u v p q. subst (λ (b : Bool). T b ↔ IsFarthest G (delivers G) u v) (sym (table_at K.words S.pairs B.pairs u v p q)) (correct.figures.pairs u v);
    count = ap (count_pairs (range (places K))) (sym (pairs_read K G below S.pairs ends B.pairs));
    members = refl;
    number = refl;
    yards = refl;
    marked = skips_counted K G S shape below correct.references net.sound B.skips;
    bounded = omega (arith, few_searches G S correct.references, number_is);
    marks = skip_marks K G S shape below correct.references B.skips;
    inside = correct.references.inside;
    cover = correct.cover;
    eccentricity = bound_ecc K G S shape below correct.references B.bounds;
    skipped = λ v o. skip_bound K G S B.skips B.bounds (reckoning_skipped G net) v (below v o) o;
    closed = closed_at K G S B.skips B.bounds;
    searched = last_search K G net below S correct.references links B long;
    unsearched = no_search;
    pairs_kept = over_keeps _ _ B.pairs (encode_table_length K.words S.pairs) long.pairs;
    bounds_kept = over_keeps _ _ B.bounds (length_fill _ (places K)) long.bounds;
    skips_kept = over_keeps _ _ B.skips (length_fill _ (places K)) long.skips;
  }

-- ---- WHICH REFUSAL

pub reckon_refusals : (K : Shape) → IsShape K → ReckonRefuses K (reckon_call K)
unfolding reckon_call reckon_refusal lent_refusal lent_faults allb
reckon_refusals K shape rec links B =
    refuses_by _ (reckon_conditions K rec links B)
    (lent_tells K shape (long_enough K (sizes_of links B)) false (rounds_buffers K links B) (rw (← long_is K links B) at (decides_short (rounds_buffers K links B)))
    rec links [] [] [] tt)
    refl B _ refl

-- ---- WHAT A CALL GIVES

-- the answer's number is the refusal
numbered_as : (r : Option ℕ) {A M : Type 0} (old : M) (x : A) (new : M) → refusal_in (unless r old (leaves (Ok x) new)).answer ≡ r
unfolding unless
numbered_as None old x new = refl
numbered_as (Some k) old x new = refl

pub reckon_correct : (K : Shape) → IsShape K → ReckonCorrect K (reckon_call K)
unfolding reckon_call
reckon_correct K shape = record { numbered = call_numbered; accepted = call_reckoning }
  where
    call_numbered : (rec : Record) (links : List ℕ) (B : Lent)
        → refusal_in (reckon_call K rec links B).answer ≡ reckon_refusal K rec links (sizes_of links B)
    call_numbered rec links B = numbered_as (reckon_refusal K rec links (sizes_of links B)) B _ _

    call_reckoning : (rec : Record) (links : List ℕ) (B : Lent) → reckon_refusal K rec links (sizes_of links B) ≡ None
        → let G = map_network K rec links in
        let left = reckon_call K rec links B in
        (a : Reckoned) × (left.answer ≡ Ok a) × IsReckoning K G rec B (reckon (chart G)).references a left.lent
    call_reckoning rec links B z =
        let G = map_network K rec links in
        let S = reckon (chart G) in
        let a : Reckoned = record { searches = length S.references; after = figured_by K rec S } in
        subst (λ (l : Left Reckoned Lent). (a : Reckoned) × (l.answer ≡ Ok a) × IsReckoning K G rec B S.references a l.lent)
        (done_leaves B (leaves (Ok a) (rounds_leave K G S B)) (sym z))
        (a, refl, given_reckoning K shape rec links B (sym z))

-- of the rules' map
pub reckon_correct_base : ReckonCorrect base (reckon_call base)
reckon_correct_base = reckon_correct base base_shape
