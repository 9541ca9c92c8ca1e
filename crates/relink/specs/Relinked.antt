-- THE FIGURES AFTER A LINK between two open depots, once it is in place: what the code's step from the searches of both ends to the last round leaves.
-- Assumes nothing.
use Rattle.std.specs.Prelude.{◌≡◌, List, ℕ, T}
use Rattle.graph.specs.Network.{Network, delivers}
use Rattle.graph.specs.Chart.{chart}
use Rattle.graph.specs.Linking.{linking}
use Rattle.graph.specs.Correct.{IsNet}
use Rattle.rows.specs.Rows.{table_bit}
use Rattle.map.specs.Memory.{Shape}
use Rattle.map.specs.Room.{Lent}
use Rattle.rounds.specs.Leaves.{ran_by}
use Rattle.rounds.specs.Targets.{target_network, AreTargets}
use Rattle.insertion.specs.Figured.{Figured, figured}

-- H is the network with the link of lo and hi in place, D the stored chain, B the lent tables with the stored pairs
unfoldable pub relinked_by : Shape → Network → ℕ → ℕ → ℕ → Lent → Figured
relinked_by K H lo hi D B =
    let x = linking (chart H) lo hi D (table_bit K.words B.pairs) in
    figured x.change (ran_by K H x.final B)

-- what the step asks beside long tables: the open set and its targets, a row each; a sound, connected network with the two open depots lo and hi;
-- stored pairs that join targets
pub record IsRelinkable (K : Shape) (members targets links : List ℕ) (B : Lent) (lo hi : ℕ) : Type 0 where
  pub are : AreTargets K.words members targets
  pub net : IsNet (target_network K.words members targets links)
  pub lower : T ((target_network K.words members targets links).is_open lo)
  pub higher : T ((target_network K.words members targets links).is_open hi)
  pub apart : lo ≡ hi → ⊥
  pub ends : (u v : ℕ) → T (table_bit K.words B.pairs u v)
      → T (delivers (target_network K.words members targets links) u) × T (delivers (target_network K.words members targets links) v)
