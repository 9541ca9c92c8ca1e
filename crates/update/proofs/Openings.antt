-- WHAT AN UPDATE LEAVES on true stored figures, whatever words stood there: the map of the network after it, written over them, and how the
-- chain moved. And the call of specs/UpdateCall.antt, opened one step at a time. Assumes nothing.
use mathlib.Core.Path.{◌≡◌, refl, ap, ◌∙◌}
use mathlib.Core.List.{List}
use Prim.Native.Nat.{ℕ, zero}
use native.Mathlib.Nat.{lt_irrefl}
use native.Mathlib.Omega.{arith}
use lib.ListN.{length}
use borrow.Author.Tests.{lt-ltb, le-ltb, eq-eqb, ne_eqb}
use Rattle.outcome.specs.declared.Outcome.TheVariants.{Accepted}
use Rattle.lists.specs.Lists.{range, overwrite}
use Rattle.rows.specs.Rows.{table_bit, encode_row, encode_table}
use Rattle.graph.specs.Network.{Network, AreTrue, delivers}
use Rattle.graph.specs.Chart.{Pairs, diameter, farthest, count_pairs}
use Rattle.graph.specs.Opening.{Opened}
use Rattle.outcome.specs.declared.Change.{Change}
use Rattle.outcome.specs.declared.Change.TheVariants.{Grew, Kept, Shrank}
use Rattle.graph.specs.Correct.{Moved, IsOpened}
use Rattle.graph.proofs.Theorems.{true_chain, true_pairs, figures_are}
use Rattle.map.specs.Memory.{Shape, IsShape, places, map_network}
use Rattle.map.specs.declared.Record.{Record}
use Rattle.map.specs.Room.{Lent, sizes_of}
use Rattle.rounds.specs.Leaves.{rounds_leave}
use Rattle.update.specs.UpdateCall.{update_refusal, network_after, updated_by, update_given, IsWithin}
use Rattle.plain_list.specs.PlainList.{moved}
use Rattle.update.specs.Correct.{map_after}
use Rattle.update.proofs.Memories.{IsHeld, Says, record_path, memory_path, write_map}
use Rattle.update.proofs.Grants.{granted_lawful, held_after}
use Rattle.graph.specs.Updates.{Update}
use Rattle.graph.specs.Distance.{vertices}

-- ---- the call's definitions, one step each

module _ (K : Shape) (rec : Record) (links : List ℕ) (B : Lent) (o : Update) where
  abbrev H : Network
  H = network_after K rec links o

  abbrev x : Opened
  x = updated_by K rec links B.pairs o

  pub given_outcome : (update_given zero K rec links B o).report.outcome ≡ Accepted x.change
  unfolding update_given
  given_outcome = refl

  pub given_searches : (update_given zero K rec links B o).report.searches ≡ length x.final.references
  unfolding update_given
  given_searches = refl

  pub given_number : (update_given zero K rec links B o).after.number ≡ length (vertices H)
  unfolding update_given
  given_number = refl

  pub given_chain : (update_given zero K rec links B o).after.chain ≡ x.final.candidate
  unfolding update_given
  given_chain = refl

  pub given_members : (update_given zero K rec links B o).after.members ≡ overwrite (encode_row K.words H.is_open) rec.members
  unfolding update_given
  given_members = refl

  pub given_yards : (update_given zero K rec links B o).after.yards ≡ overwrite (encode_row K.words H.is_yard) rec.yards
  unfolding update_given
  given_yards = refl

  pub given_count : (update_given zero K rec links B o).after.count ≡ count_pairs (range (places K)) x.final.pairs
  unfolding update_given
  given_count = refl

  pub given_links : (update_given zero K rec links B o).links ≡ overwrite (encode_table K.words H.linked) links
  unfolding update_given
  given_links = refl

  pub given_pairs : (update_given zero K rec links B o).lent.pairs ≡ overwrite (encode_table K.words x.final.pairs) B.pairs
  unfolding update_given rounds_leave
  given_pairs = refl

-- ---- how the chain moved

moved_is : (c : Change) (D E : ℕ) → Moved c D E → Accepted c ≡ moved D E
unfolding moved
moved_is Grew D E l = rw (lt-ltb D E l)
moved_is Kept D E l = rw (le-ltb D E (omega arith), eq-eqb D E l)
moved_is Shrank D E l = rw (le-ltb D E (omega arith), ne_eqb D E (λ q. lt_irrefl D (omega arith)))

-- ---- AN UPDATE THAT IS NOT REFUSED, on true stored figures

module _ (K : Shape) (shape : IsShape K) (rec : Record) (links : List ℕ) (B : Lent) (o : Update) (ok : update_refusal K rec links B.pairs (sizes_of links B) o ≡ 0) (low : IsWithin K o)
    (were : AreTrue (map_network K rec links) (delivers (map_network K rec links)) rec.chain (table_bit K.words B.pairs)) where
  opened_correct : IsOpened (network_after K rec links o) rec.chain (updated_by K rec links B.pairs o)
  unfolding network_after updated_by
  opened_correct = (granted_lawful K shape rec links B.pairs (sizes_of links B) o ok).correct rec.chain (table_bit K.words B.pairs) were

  chain_is : (updated_by K rec links B.pairs o).final.candidate ≡ diameter (network_after K rec links o)
  chain_is =
      true_chain (network_after K rec links o) (held_after K shape rec links B.pairs (sizes_of links B) o ok low).net
      (updated_by K rec links B.pairs o).final.candidate (updated_by K rec links B.pairs o).final.pairs opened_correct.figures

  pairs_are_lem : (updated_by K rec links B.pairs o).final.pairs ≡ farthest (network_after K rec links o)
  pairs_are_lem =
      true_pairs (network_after K rec links o) (held_after K shape rec links B.pairs (sizes_of links B) o ok low).net
      (updated_by K rec links B.pairs o).final.candidate (updated_by K rec links B.pairs o).final.pairs opened_correct.figures

  pub opened-moved : (update_given zero K rec links B o).report.outcome ≡ moved rec.chain (diameter (network_after K rec links o))
  opened-moved =
      given_outcome K rec links B o
      ∙ moved_is (updated_by K rec links B.pairs o).change rec.chain (updated_by K rec links B.pairs o).final.candidate opened_correct.change
      ∙ ap (moved rec.chain) chain_is

  pub opened_writes : map_after (update_given zero K rec links B o) ≡ write_map K (network_after K rec links o) (record { links = links; pairs = B.pairs; rec = rec })
  unfolding write_map
  opened_writes =
      memory_path
      (given_links K rec links B o)
      (given_pairs K rec links B o ∙ ap (λ (P : Pairs). overwrite (encode_table K.words P) B.pairs) pairs_are_lem)
      (record_path (given_members K rec links B o)
      (given_number K rec links B o)
      (given_chain K rec links B o ∙ chain_is)
      (given_count K rec links B o ∙ ap (count_pairs (range (places K))) pairs_are_lem)
      (given_yards K rec links B o))

-- a memory that says a network's figures stores true ones
pub says-true : (K : Shape) (G : Network) → IsHeld K G → (rec : Record) (links pairs : List ℕ) → Says K G rec links pairs
    → AreTrue (map_network K rec links) (delivers (map_network K rec links)) rec.chain (table_bit K.words pairs)
says-true K G held rec links pairs s = rw (s.network, s.pairs, s.chain) (figures_are G held.net)
