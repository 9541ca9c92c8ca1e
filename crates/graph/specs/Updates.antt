-- WHAT A CALL ASKS OF THE NETWORK, as one type: the opening of a depot, or a link between two. What stands above the network (calls, histories, the
-- stream) is stated over it, once. Each kind of update owes the five promises of `Owes`, and nothing else. `update_lawful` (proofs/Lawful) has them.
-- Assumes nothing.
use Rattle.std.specs.Prelude.{◌≡◌, Bool, List, [], ◌∷◌, ℕ, suc, ◌≤◌, ◌<◌, max, min, length}
use Rattle.lists.specs.Lists.{first_of}
use Rattle.graph.specs.Network.{Network, delivers, AreTrue}
use Rattle.graph.specs.Distance.{vertices, unreached}
use Rattle.graph.specs.Chart.{Chart, chart, Pairs}
use Rattle.graph.specs.Opening.{Notice, with_depot, open_faults, Opened, opening}
use Rattle.graph.specs.Linking.{add_link, link_faults, linking_codes}
use Rattle.graph.specs.Correct.{IsNet, IsSearched, IsSettled, IsOpened, AreSound}

-- a link is told by its two codes, in either order
pub data Update : Type 0 where
  opens : Notice → Update
  joins : ℕ → ℕ → Update

-- the same update as its notice tells it: a link with its lower code first
unfoldable pub told_as : Update → Update
told_as (opens o) = opens o
told_as (joins a b) = joins (min a b) (max a b)

-- the conditions under which it is refused, each with its number, in the order in which they are looked at
unfoldable pub update_faults : Network → Update → List (Bool × ℕ)
unfolding open_faults link_faults
update_faults G (opens o) = open_faults G o
update_faults G (joins a b) = link_faults G a b

-- the network after it
unfoldable pub applied : Network → Update → Network
unfolding with_depot add_link
applied G (opens o) = with_depot G o
applied G (joins a b) = add_link G a b

-- what is searched and how the figures move: C is the chart of the network after it, D and P the chain and the pairs that were stored
unfoldable pub steps : Chart → Update → ℕ → Pairs → Opened
unfolding opening linking_codes
steps C (opens o) D P = opening C o.code D P
steps C (joins a b) D P = linking_codes C a b D P

-- the depots that it searches from first, in this order
unfoldable pub first_searches : Update → List ℕ
first_searches (opens o) = o.code ∷ []
first_searches (joins a b) = min a b ∷ max a b ∷ []

-- What an update of G owes, H being the network after it, `firsts` the depots that it searches from first, and `step` what it makes of the stored chain
-- and pairs: H is one that a map can hold; on true figures it leaves true ones, and the letter says how the chain moved; on any figures its references
-- and marks are right, and after a shrink all others are covered; on any figures its first searches are those named, and the only ones unless the chain
-- shrank; sound figures stay sound.
pub record Owes (G H : Network) (firsts : List ℕ) (step : ℕ → Pairs → Opened) : Type 0 where
  pub net : IsNet H
  pub correct : (D : ℕ) (P : Pairs) → AreTrue G (delivers G) D P → IsOpened H D (step D P)
  pub covered : (D : ℕ) (P : Pairs) → D ≤ unreached → IsSearched H (step D P)
  pub settled : (D : ℕ) (P : Pairs) → D ≤ unreached → IsSettled H firsts (step D P)
  pub sound : (limit D : ℕ) (P : Pairs) → length (vertices H) ≤ limit → AreSound G limit D P
      → AreSound H limit (step D P).final.candidate (step D P).final.pairs

-- the update u of G keeps these promises
abbrev pub IsLawful : Network → Update → Type 0
IsLawful G u = Owes G (applied G u) (first_searches u) (λ D P. steps (chart (applied G u)) u D P)

-- every update that is not refused does, with room for one depot more
abbrev pub UpdatesLawful : Type 0
UpdatesLawful = (G : Network) → IsNet G → (u : Update) → suc (length (vertices G)) < unreached → first_of (update_faults G u) ≡ 0 → IsLawful G u
