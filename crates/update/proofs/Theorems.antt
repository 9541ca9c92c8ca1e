-- THE THEOREMS of this crate: what an update gives, by the published words, for every shape of a map. Assumes nothing.
use mathlib.Core.Path.{◌≡◌, sym, ap, ◌∙◌, subst}
use mathlib.Core.List.{List}
use Prim.Native.Nat.{ℕ}
use Rattle.rows.specs.Rows.{table_bit}
use Rattle.graph.specs.Network.{AreTrue, delivers}
use Rattle.map.specs.Memory.{Shape, IsShape, base, map_network}
use Rattle.map.specs.declared.Record.{Record}
use Rattle.map.specs.Room.{Lent, sizes_of}
use Rattle.update.specs.UpdateCall.{update_refusal, network_after, update_given, update_call, references_by, references_of, IsWithin}
use Rattle.update.specs.Memory.{Memory}
use Rattle.update.specs.Represents.{Represents, IsMarked}
use Rattle.update.specs.Correct.{map_after, UpdateCorrect}
use Rattle.update.proofs.Memories.{written_represents}
use Rattle.update.proofs.Grants.{held_after}
use Rattle.update.proofs.Openings.{opened_writes}
use Rattle.update.proofs.Marks.{opened_marked}
use Rattle.map.proofs.Theorems.{base_shape}
use Rattle.graph.specs.Updates.{Update}

-- ---- WHAT AN UPDATE GIVES, on any lent memory

module _ (K : Shape) (shape : IsShape K) (rec : Record) (links : List ℕ) (B : Lent) (o : Update) (ok : update_refusal K rec links B.pairs (sizes_of links B) o ≡ 0) (low : IsWithin K o) where
  -- on true stored figures the map afterwards is that of the network after it
  opened_represents : AreTrue (map_network K rec links) (delivers (map_network K rec links)) rec.chain (table_bit K.words B.pairs)
      → Represents K (map_after (update_call K rec links B o)) (network_after K rec links o)
  unfolding update_call
  opened_represents were =
      subst (λ (M : Memory). Represents K M (network_after K rec links o))
      (sym (ap (λ (k : ℕ). map_after (update_given k K rec links B o)) ok ∙ opened_writes K shape rec links B o ok low were))
      (written_represents K (network_after K rec links o) (held_after K shape rec links B.pairs (sizes_of links B) o ok low) (record { links = links; pairs = B.pairs; rec = rec }))

  -- on any stored figures: marks, number of searches, bound and cover
  accepted_marked : IsMarked K (network_after K rec links o) (references_of K rec links B o) (update_call K rec links B o)
  unfolding update_call references_of
  accepted_marked =
      subst (λ (k : ℕ). IsMarked K (network_after K rec links o) (references_by k K rec links B o) (update_given k K rec links B o)) (sym ok)
      (opened_marked K shape rec links B o ok low)

pub update_correct : (K : Shape) → IsShape K → UpdateCorrect K (update_call K)
update_correct K shape = record { figures = opened_represents K shape; marks = accepted_marked K shape }

-- ---- the rules' map

pub update_correct_base : UpdateCorrect base (update_call base)
update_correct_base = update_correct base base_shape
