-- A CALL KEEPS A MAP THAT NOTHING REFUSES, on any sound stored figures, true or false: sizes stay, the words mean the network after it, and its
-- figures are sound. Assumes nothing.
use mathlib.Core.Path.{◌≡◌, refl, sym, ap, ◌∙◌}
use mathlib.Core.Bool.{Bool, true, cond}
use mathlib.Core.List.{List, [], ◌∷◌}
use Prim.Native.Nat.{ℕ, zero, suc, ◌*◌, ◌≤◌}
use native.Mathlib.Omega.{arith}
use lib.Dec.{T}
use lib.ListN.{length}
use Rattle.lists.specs.Lists.{range, last_or}
use Rattle.lists.proofs.Fills.{overwrite_length, fill_length}
use Rattle.rows.specs.Rows.{table_bit, encode_row, encode_table}
use Rattle.rows.proofs.Written.{encode_row_length, encode_table_length}
use Rattle.graph.specs.Network.{Network}
use Rattle.graph.specs.Distance.{unreached, dist}
use Rattle.graph.specs.Chart.{count_pairs}
use Rattle.graph.specs.Rounds.{mark_of, bound_of}
use Rattle.graph.specs.Opening.{Opened}
use Rattle.graph.specs.Correct.{AreSound}
use Rattle.graph.proofs.Delivers.{delivers_open}
use Rattle.layers.specs.Layers.{layer_bit, depth_from, search_leaves}
use Rattle.map.specs.Room.{Tables, Lent, sizes_of, long_enough}
use Rattle.map.specs.Memory.{Shape, IsShape, places, network_of, map_network}
use Rattle.checks.specs.Sound.{AreFiguresSound}
use Rattle.map.specs.declared.Record.{Record}
use Rattle.map.proofs.Theorems.{network_linked_below}
use Rattle.rounds.specs.Leaves.{search_after, rounds_leave}
use Rattle.map.proofs.Longs.{are_long_lem}
use Rattle.update.specs.UpdateCall.{update_refusal, network_after, updated_by, update_given, update_call, IsWithin}
use Rattle.update.specs.Steps.{map_refusal}
use Rattle.update.proofs.Memories.{IsHeld, Stores, depots_few, open_below, network_read}
use Rattle.rounds.proofs.Reading.{pairs_read}
use Rattle.update.proofs.Grants.{granted_long, granted_figures, granted_lawful, held_after, links_pass, figures_pass, connected_pass}
use Rattle.update.proofs.Openings.{given_number, given_chain, given_members, given_yards, given_count, given_links, given_pairs}
use Rattle.update.proofs.Refuses.{refused_never}
use Rattle.graph.specs.Updates.{Update}

-- ---- SIZES STAY

-- what the last search leaves is as long as what it was lent
searched_lengths : (W : ℕ) (G : Network) (rs : List ℕ) (B : Tables) → 64 * W ≤ length B.hops → W ≤ length B.even → W ≤ length B.odd
    → (length (search_after W G rs B).hops ≡ length B.hops) × (length (search_after W G rs B).even ≡ length B.even) × (length (search_after W G rs B).odd ≡ length B.odd)
unfolding search_after search_leaves
searched_lengths W G [] B h x y = (refl, refl, refl)
searched_lengths W G (r ∷ rs) B h x y =
    let s = last_or r rs in
    let layer : ℕ → ℕ → Bool = λ parity. layer_bit (dist G s) (depth_from G s) parity in (
      fill_length (dist G s) B.hops (64 * W) h,
      overwrite_length (encode_row W (layer 0)) B.even (omega (arith, encode_row_length W (layer 0))),
      overwrite_length (encode_row W (layer 1)) B.odd (omega (arith, encode_row_length W (layer 1))),
    )

module _ (K : Shape) (rec : Record) (links : List ℕ) (B : Lent) (o : Update) where
  abbrev H : Network
  H = network_after K rec links o

  abbrev x : Opened
  x = updated_by K rec links B.pairs o

  given_sizes : long_enough K (sizes_of links B) ≡ true → sizes_of (update_given zero K rec links B o).links (update_given zero K rec links B o).lent ≡ sizes_of links B
  unfolding sizes_of update_given rounds_leave
  given_sizes long =
      let fit = are_long_lem K (sizes_of links B) long in
      let searched = searched_lengths K.words H x.final.references B.searched fit.hops fit.even fit.odd in
      let bounds : ℕ → ℕ = λ v. cond (H.is_open v) (bound_of (x.final.status v)) unreached in
      let skips : ℕ → ℕ = λ v. cond (H.is_open v) (mark_of K.searched_mark K.other_mark (x.final.status v)) K.other_mark in
      λ i. record {
        links = overwrite_length (encode_table K.words H.linked) links (omega (arith, fit.links, encode_table_length K.words H.linked)) i;
        pairs = overwrite_length (encode_table K.words x.final.pairs) B.pairs (omega (arith, fit.pairs, encode_table_length K.words x.final.pairs)) i;
        hops = searched.0 i;
        bounds = fill_length bounds B.bounds (places K) fit.bounds i;
        skips = fill_length skips B.skips (places K) fit.skips i;
        even = searched.1 i;
        odd = searched.2 i;
      }

  -- ---- AN ACCEPTED CALL

  module _ (shape : IsShape K) (ok : update_refusal K rec links B.pairs (sizes_of links B) o ≡ 0) (low : IsWithin K o) where
    abbrev G : Network
    G = map_network K rec links

    held : IsHeld K H
    held = held_after K shape rec links B.pairs (sizes_of links B) o ok low

    stored_sound : AreSound G (places K) rec.chain (table_bit K.words B.pairs)
    unfolding network_of
    stored_sound =
        let f = granted_figures K shape rec links B.pairs (sizes_of links B) o ok in
        record {
          below = f.below;
          pairs = λ u v h.
              let l = network_linked_below K.words rec.members B.pairs u v h in
              let e = f.ends u v l.0 l.1 h in
              (f.rising u v l.0 l.1 h, e.0, e.1);
        }

    left_sound : AreSound H (places K) x.final.candidate x.final.pairs
    unfolding updated_by network_after
    left_sound =
        (granted_lawful K shape rec links B.pairs (sizes_of links B) o ok).sound (places K) rec.chain (table_bit K.words B.pairs) (depots_few K H held) stored_sound

    pub left_ends : (u v : ℕ) → T ((updated_by K rec links B.pairs o).final.pairs u v) → T ((network_after K rec links o).is_open u) × T ((network_after K rec links o).is_open v)
    left_ends u v h = let p = left_sound.pairs u v h in (delivers_open H u p.1, delivers_open H v p.2)

    left_figures : AreFiguresSound (places K) (network_after K rec links o) (updated_by K rec links B.pairs o).final.pairs
        (updated_by K rec links B.pairs o).final.candidate (count_pairs (range (places K)) (updated_by K rec links B.pairs o).final.pairs)
    left_figures = record {
      rising = λ u v l m h. (left_sound.pairs u v h).0;
      ends = λ u v l m h. let p = left_sound.pairs u v h in (p.1, p.2);
      counted = refl;
      below = left_sound.below;
    }

    -- what the call leaves stores the network after it, and the chain and the pairs of its steps
    pub left_stores : Stores K (network_after K rec links o) (updated_by K rec links B.pairs o).final.candidate (updated_by K rec links B.pairs o).final.pairs
        (update_given zero K rec links B o).after (update_given zero K rec links B o).links (update_given zero K rec links B o).lent.pairs
    left_stores = record {
      network = rw (given_members K rec links B o, given_yards K rec links B o, given_links K rec links B o) (network_read K H held rec.members rec.yards links);
      pairs = ap (table_bit K.words) (given_pairs K rec links B o) ∙ pairs_read K H (open_below K H held) x.final.pairs left_ends B.pairs;
      number = given_number K rec links B o;
      chain = given_chain K rec links B o;
      count = given_count K rec links B o;
    }

    accepted_kept : map_refusal K (update_given zero K rec links B o).after (update_given zero K rec links B o).links (update_given zero K rec links B o).lent.pairs
        (sizes_of (update_given zero K rec links B o).links (update_given zero K rec links B o).lent) ≡ 0
    accepted_kept =
        let l = update_given zero K rec links B o in
        let long = granted_long K shape rec links B.pairs (sizes_of links B) o ok in
        sym (refused_never K l.after l.links l.lent.pairs (sizes_of l.links l.lent)
        (ap (long_enough K) (given_sizes long) ∙ long)
        (links_pass K shape H held x.final.candidate x.final.pairs left_figures l.after l.links l.lent.pairs left_stores)
        (figures_pass K shape H held x.final.candidate x.final.pairs left_figures l.after l.links l.lent.pairs left_stores)
        (connected_pass K shape H held x.final.candidate x.final.pairs left_figures l.after l.links l.lent.pairs left_stores))

-- ---- THE THEOREMS

module _ (K : Shape) (shape : IsShape K) (rec : Record) (links : List ℕ) (B : Lent) (o : Update) where
  abbrev refusal : ℕ
  refusal = update_refusal K rec links B.pairs (sizes_of links B) o

  -- a call leaves every buffer as long as it was lent it
  pub sizes_kept : sizes_of (update_call K rec links B o).links (update_call K rec links B o).lent ≡ sizes_of links B
  unfolding update_call update_given
  sizes_kept = go refusal refl
    where
      go : (k : ℕ) → refusal ≡ k → sizes_of (update_given k K rec links B o).links (update_given k K rec links B o).lent ≡ sizes_of links B
      go zero ok = given_sizes K rec links B o (granted_long K shape rec links B.pairs (sizes_of links B) o ok)
      go (suc k) ko = refl

  -- after a call on memory that nothing refuses, nothing refuses it: sizes, soundness of links and figures, connectedness stay
  pub map_kept : IsWithin K o → map_refusal K rec links B.pairs (sizes_of links B) ≡ 0
      → map_refusal K (update_call K rec links B o).after (update_call K rec links B o).links (update_call K rec links B o).lent.pairs (sizes_of (update_call K rec links B o).links (update_call K rec links B o).lent) ≡ 0
  unfolding update_call update_given
  map_kept low free = go refusal refl
    where
      go : (k : ℕ) → refusal ≡ k
          → map_refusal K (update_given k K rec links B o).after (update_given k K rec links B o).links (update_given k K rec links B o).lent.pairs (sizes_of (update_given k K rec links B o).links (update_given k K rec links B o).lent) ≡ 0
      go zero ok = accepted_kept K rec links B o shape ok low
      go (suc k) ko = free
