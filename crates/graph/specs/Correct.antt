-- WHAT IS PROVED of the steps above, by the published words of Network.antt. The theorems stand in proofs/Theorems.antt:
-- `reckoning_correct`, `opening_correct` (on true stored figures), `opening_covered` and `opening-says` (on any stored figures); those of links in
-- proofs/LinkTheorems.antt. Updates.antt joins what every kind of update owes.
-- Assumes nothing.
use Rattle.std.specs.Prelude.{◌≡◌, not, List, ◌++◌, ℕ, ◌+◌, ◌<◌, T, length}
use Rattle.lists.specs.Lists.{countb, memb}
use Rattle.graph.specs.Network.{Network, IsSound, IsConnected, IsDist, delivers, IsEcc, AreTrue}
use Rattle.graph.specs.Distance.{vertices, unreached}
use Rattle.graph.specs.Chart.{chart, Pairs}
use Rattle.graph.specs.Rounds.{Status, waiting, skipped, searched, is_waiting, State, reckon}
use Rattle.graph.specs.Opening.{Opened}
use Rattle.outcome.specs.declared.Change.{Change}
use Rattle.outcome.specs.declared.Change.TheVariants.{Grew, Kept, Shrank}

-- A network that a map can hold. It has so few depots that every distance is below the mark of a closed code.
pub record IsNet (G : Network) : Type 0 where
  pub sound : IsSound G
  pub connected : IsConnected G
  pub small : length (vertices G) < unreached

-- v is covered (rule 9.6): from some searched depot, eccentricity and distance to v add up to less than the chain
pub record IsCovered (G : Network) (references : List ℕ) (chain v : ℕ) : Type 0 where
  pub reference : ℕ
  pub is_reference : T (memb reference references)
  pub ecc : ℕ
  pub is_ecc : IsEcc G (delivers G) reference ecc
  pub distance : ℕ
  pub is_dist : IsDist G reference v distance
  pub below : ecc + distance < chain

-- where the depot v stands, against the references: the searched have their eccentricity; a skipped one has a bound that a reference gave
abbrev pub Stands : Network → List ℕ → ℕ → Status → Type 0
Stands G references v (waiting b g) = T (not (memb v references))
Stands G references v (skipped b g) =
    T (not (memb v references)) × T (memb g references) × ((e : ℕ) × (d : ℕ) × IsEcc G (delivers G) g e × IsDist G g v d × (b ≡ e + d))
Stands G references v (searched e) = T (memb v references) × IsEcc G (delivers G) v e

-- the references of a state: open depots, none twice, marked exactly as searched
pub record AreReferences (G : Network) (S : State) : Type 0 where
  pub inside : (v : ℕ) → T (memb v S.references) → T (G.is_open v)
  pub distinct : length S.references ≡ countb (λ v. memb v S.references) (vertices G)
  pub stands : (v : ℕ) → T (G.is_open v) → Stands G S.references v (S.status v)

-- every depot that delivers and was not searched is covered; of yards no cover is claimed
abbrev pub AllCovered : Network → State → Type 0
AllCovered G S = (v : ℕ) → T (delivers G v) → T (not (memb v S.references)) → IsCovered G S.references S.candidate v

-- The depot v was skipped by right: its bound is the reference's eccentricity and the distance to v, added, and that is below the chain.
pub record IsSkipped (G : Network) (references : List ℕ) (chain v reference bound : ℕ) : Type 0 where
  pub is_reference : T (memb reference references)
  pub ecc : ℕ
  pub is_ecc : IsEcc G (delivers G) reference ecc
  pub distance : ℕ
  pub is_dist : IsDist G reference v distance
  pub is_bound : bound ≡ ecc + distance
  pub below : bound < chain

-- every depot that was not searched was skipped by right, and stands so in the state
abbrev pub AllSkipped : Network → State → Type 0
AllSkipped G S =
    (v : ℕ) → T (G.is_open v) → T (not (memb v S.references))
    → (g : ℕ) × (b : ℕ) × (S.status v ≡ skipped b g) × IsSkipped G S.references S.candidate v g b

-- searches from these depots alone, in this order: no other depot has a bound
pub record AreAlone (firsts : List ℕ) (S : State) : Type 0 where
  pub only : S.references ≡ firsts
  pub others : (v : ℕ) → T (not (memb v firsts)) → T (is_waiting (S.status v))

-- a whole reckoning
pub record IsReckoned (G : Network) (S : State) : Type 0 where
  pub figures : AreTrue G (delivers G) S.candidate S.pairs
  pub references : AreReferences G S
  pub cover : AllCovered G S

-- of every network that a map can hold
abbrev pub ReckonsRight : Type 0
ReckonsRight = (G : Network) → IsNet G → IsReckoned G (reckon (chart G))

-- how the letter says that the chain moved from D to E
abbrev pub Moved : Change → ℕ → ℕ → Type 0
Moved Grew D E = D < E
Moved Kept D E = D ≡ E
Moved Shrank D E = E < D

-- an update, H being the network after it: its references, and the cover after a shrink (whatever figures were stored)
pub record IsSearched (H : Network) (o : Opened) : Type 0 where
  pub references : AreReferences H o.final
  pub cover : o.change ≡ Shrank → AllCovered H o.final

-- what an update says of each depot, whatever figures were stored: the searches from `firsts` come first, in this order, and no other unless the
-- chain shrank
pub record IsSettled (H : Network) (firsts : List ℕ) (o : Opened) : Type 0 where
  pub later : List ℕ
  pub first : o.final.references ≡ firsts ++ later
  pub alone : (o.change ≡ Shrank → ⊥) → AreAlone firsts o.final
  pub skipped : o.change ≡ Shrank → AllSkipped H o.final

-- an update of a map whose chain D was true
pub record IsOpened (H : Network) (D : ℕ) (o : Opened) : Type 0 where
  pub figures : AreTrue H (delivers H) o.final.candidate o.final.pairs
  pub change : Moved o.change D o.final.candidate
  pub searched : IsSearched H o

-- Stored figures are sound, true or not: the chain is below the limit, and every pair joins two destinations u < v.
pub record AreSound (G : Network) (limit D : ℕ) (P : Pairs) : Type 0 where
  pub below : D < limit
  pub pairs : (u v : ℕ) → T (P u v) → (u < v) × T (delivers G u) × T (delivers G v)
