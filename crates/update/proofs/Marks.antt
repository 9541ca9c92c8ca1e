-- A CALL'S MARKS, its number of searches, and the cover of what it did not search: on any lent memory, the stored figures true or false.
-- Assumes nothing.
use mathlib.Core.Path.{◌≡◌, refl}
use mathlib.Core.List.{List}
use Prim.Native.Nat.{ℕ, zero, suc, zero-le}
use native.Mathlib.Nat.{lt_irrefl}
use native.Mathlib.Omega.{arith}
use Rattle.lists.specs.Lists.{anyb, memb}
use Rattle.rows.specs.Rows.{table_bit}
use Rattle.graph.specs.Network.{Network}
use Rattle.graph.specs.Opening.{Opened}
use Rattle.outcome.specs.declared.Change.{Change}
use Rattle.graph.specs.Correct.{IsSearched}
use Rattle.map.specs.Memory.{Shape, IsShape}
use Rattle.map.specs.declared.Record.{Record}
use Rattle.map.specs.Room.{Lent, sizes_of}
use Rattle.outcome.specs.declared.Change.TheVariants.{Shrank}
use Rattle.outcome.specs.declared.Outcome.TheVariants.{Accepted, Refused}
use Rattle.update.specs.UpdateCall.{update_refusal, network_after, updated_by, update_given, references_by, IsWithin}
use Rattle.update.specs.Represents.{IsMarked}
use Rattle.update.proofs.Memories.{IsHeld, open_below}
use Rattle.update.proofs.Grants.{granted_lawful, granted_chain, held_after}
use Rattle.rounds.specs.Leaves.{rounds_leave}
use Rattle.rounds.proofs.Reading.{skip_marks, skips_counted, few_searches}
use Rattle.graph.specs.Updates.{Update}

-- ---- A REFUSED CALL searches nothing

pub refused_marked : (k : ℕ) (K : Shape) (H : Network) (rec : Record) (links : List ℕ) (B : Lent) (o : Update) → IsMarked K H (references_by (suc k) K rec links B o) (update_given (suc k) K rec links B o)
unfolding update_given references_by memb anyb
refused_marked k K H rec links B o = record {
  none_refused = λ j p. refl;
  marks = λ a p. absurd (let z : ◌≡◌ {A = ℕ} 0 1 = cc in lt_irrefl 0 (omega arith));
  searches = λ a p. absurd (let z : ◌≡◌ {A = ℕ} 0 1 = cc in lt_irrefl 0 (omega arith));
  inside = λ v h. absurd h;
  bounded = zero-le;
  cover = λ p. absurd (let z : ◌≡◌ {A = ℕ} 0 1 = cc in lt_irrefl 0 (omega arith));
}

-- ---- AN UPDATE THAT IS NOT REFUSED

changed_not : (c : Change) (k : ℕ) → Accepted c ≡ Refused k → ⊥
changed_not c k p = let z : ◌≡◌ {A = ℕ} 0 1 = cc in lt_irrefl 0 (omega arith)

pub changed_shrank : (c : Change) → Accepted c ≡ Accepted Shrank → c ≡ Shrank
changed_shrank c p = cc

module _ (K : Shape) (shape : IsShape K) (rec : Record) (links : List ℕ) (B : Lent) (o : Update) (ok : update_refusal K rec links B.pairs (sizes_of links B) o ≡ 0) (low : IsWithin K o) where
  abbrev H : Network
  H = network_after K rec links o

  abbrev x : Opened
  x = updated_by K rec links B.pairs o

  held : IsHeld K (network_after K rec links o)
  held = held_after K shape rec links B.pairs (sizes_of links B) o ok low

  pub opened-searched : IsSearched (network_after K rec links o) (updated_by K rec links B.pairs o)
  unfolding network_after updated_by
  opened-searched =
      (granted_lawful K shape rec links B.pairs (sizes_of links B) o ok).covered rec.chain (table_bit K.words B.pairs)
      (granted_chain K shape rec links B.pairs (sizes_of links B) o ok)

  pub opened_marked : IsMarked K (network_after K rec links o) (references_by zero K rec links B o) (update_given zero K rec links B o)
  unfolding update_given references_by rounds_leave
  opened_marked =
      let R = opened-searched.references in
      record {
        none_refused = λ k p. absurd (changed_not x.change k p);
        marks = λ a p. skip_marks K H x.final shape (open_below K H held) R B.skips;
        searches = λ a p. skips_counted K H x.final shape (open_below K H held) R held.net.sound B.skips;
        inside = R.inside;
        bounded = few_searches H x.final R;
        cover = λ p. opened-searched.cover (changed_shrank x.change p);
      }
