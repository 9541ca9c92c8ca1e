-- WHAT AN ACCEPTED UPDATE LEAVES IN EVERY TABLE, by the published words. Assumes nothing.
use mathlib.Core.Path.{◌≡◌, refl, sym, ap, ◌∙◌, subst}
use mathlib.Core.List.{List, [], ◌∷◌, ◌++◌}
use Prim.Native.Nat.{ℕ, zero, ◌<◌, max, min}
use lib.Dec.{T}
use lib.ListN.{drop}
use Rattle.lists.specs.Lists.{last_or}
use Rattle.lists.proofs.Fills.{length_fill}
use Rattle.graph.specs.Network.{Network}
use Rattle.graph.specs.Rounds.{State}
use Rattle.graph.specs.Opening.{Opened}
use Rattle.graph.specs.Correct.{AreReferences, IsSettled}
use Rattle.graph.specs.Updates.{Update, opens, joins, first_searches}
use Rattle.rows.specs.Rows.{table_bit}
use Rattle.rows.proofs.Written.{encode_table_length}
use Rattle.map.specs.Memory.{Shape, IsShape, places}
use Rattle.map.specs.declared.Record.{Record}
use Rattle.map.specs.Room.{Lent, sizes_of, AreLong}
use Rattle.map.proofs.Longs.{are_long_lem}
use Rattle.search.specs.declared.Reach.{Reach}
use Rattle.search.specs.Correct.{IsSearch}
use Rattle.search.proofs.Theorems.{over_keeps}
use Rattle.rounds.specs.Leaves.{rounds_leave, search_after}
use Rattle.rounds.proofs.Reading.{skip_bound, closed_at, waiting_at, bound_ecc, last_search}
use Rattle.outcome.specs.declared.Outcome.TheVariants.{Accepted}
use Rattle.update.specs.UpdateCall.{update_refusal, network_after, updated_by, update_given, update_call, references_by, references_of, IsWithin}
use Rattle.update.specs.Tables.{AreTables, LeavesTables}
use Rattle.update.proofs.Memories.{IsHeld, open_below}
use Rattle.update.proofs.Grants.{granted_long, granted_lawful, granted_chain, held_after}
use Rattle.update.proofs.Marks.{opened-searched, changed_shrank}

-- nothing follows what is the whole
none_more : (xs later : List ℕ) → xs ++ later ≡ xs → later ≡ []
none_more [] later e = e
none_more (x ∷ xs) later e = none_more xs later (ap (drop 1) e)

-- every update searches
searches_first : (u : Update) → (r : ℕ) × (rs : List ℕ) × (first_searches u ≡ r ∷ rs)
unfolding first_searches
searches_first (opens o) = (o.code, [], refl)
searches_first (joins a b) = (min a b, max a b ∷ [], refl)

module _ (K : Shape) (shape : IsShape K) (rec : Record) (links : List ℕ) (B : Lent) (u : Update) (ok : update_refusal K rec links B.pairs (sizes_of links B) u ≡ 0) (low : IsWithin K u) where
  abbrev H : Network
  H = network_after K rec links u

  abbrev x : Opened
  x = updated_by K rec links B.pairs u

  abbrev S : State
  S = (updated_by K rec links B.pairs u).final

  held : IsHeld K H
  held = held_after K shape rec links B.pairs (sizes_of links B) u ok low

  below : (v : ℕ) → T (H.is_open v) → v < places K
  below = open_below K H held

  long : AreLong K (sizes_of links B)
  long = are_long_lem K (sizes_of links B) (granted_long K shape rec links B.pairs (sizes_of links B) u ok)

  references : AreReferences H S
  references = (opened-searched K shape rec links B u ok low).references

  says : IsSettled H (first_searches u) x
  unfolding network_after updated_by
  says =
      (granted_lawful K shape rec links B.pairs (sizes_of links B) u ok).settled rec.chain (table_bit K.words B.pairs)
      (granted_chain K shape rec links B.pairs (sizes_of links B) u ok)

  last : (r : Reach) × IsSearch K H (last_or 0 S.references) B.searched r (search_after K.words H S.references B.searched)
  unfolding last_or
  last =
      let f = searches_first u in
      let q = says.first ∙ ap (λ (l : List ℕ). l ++ says.later) f.2 in
      let g = last_search K H held.net below S references links B long f.0 (f.1 ++ says.later) q in
      (g.0, subst (λ (l : List ℕ). IsSearch K H (last_or 0 l) B.searched g.0 (search_after K.words H S.references B.searched)) (sym q) g.1)

  given_tables : AreTables K H (first_searches u) S.references links B (update_given zero K rec links B u)
  unfolding update_given rounds_leave sizes_of
  given_tables = record {
    change = x.change;
    accepted = refl;
    later = says.later;
    first = says.first;
    alone = λ n. none_more (first_searches u) says.later (sym says.first ∙ (says.alone (λ q. n (ap Accepted q))).only);
    eccentricity = bound_ecc K H S shape below references B.bounds;
    skipped = λ q v ov. skip_bound K H S B.skips B.bounds (says.skipped (changed_shrank x.change q)) v (below v ov) ov;
    others = λ n v l d. waiting_at K H S B.skips B.bounds v l ((says.alone (λ q. n (ap Accepted q))).others v d);
    closed = closed_at K H S B.skips B.bounds;
    searched = last;
    links_kept = over_keeps _ _ links (encode_table_length K.words H.linked) long.links;
    pairs_kept = over_keeps _ _ B.pairs (encode_table_length K.words S.pairs) long.pairs;
    bounds_kept = over_keeps _ _ B.bounds (length_fill _ (places K)) long.bounds;
    skips_kept = over_keeps _ _ B.skips (length_fill _ (places K)) long.skips;
  }

  call_tables : AreTables K (network_after K rec links u) (first_searches u) (references_of K rec links B u) links B (update_call K rec links B u)
  unfolding update_call references_of references_by
  call_tables = subst (λ (k : ℕ). AreTables K H (first_searches u) (references_by k K rec links B u) links B (update_given k K rec links B u)) (sym ok) given_tables

pub update_tables : (K : Shape) → IsShape K → LeavesTables K (update_call K)
update_tables K shape = call_tables K shape
