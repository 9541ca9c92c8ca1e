-- WHAT THE TWO CALLS GIVE (rule 11.2), by the published words (graph's Network and Nearby): what every accepted call
-- answers and leaves, on any lent memory. `within_correct` and `nearest_correct` (proofs/Theorems) prove it for every shape.
-- Assumes nothing.
use Rattle.std.specs.Prelude.{◌≡◌, List, ℕ, take, None, Ok}
use Rattle.graph.specs.Nearby.{AreWithin, IsNearest}
use Rattle.map.specs.Memory.{Shape, map_network}
use Rattle.map.specs.Room.{Tables}
use Rattle.map.specs.declared.Record.{Record}
use Rattle.search.specs.declared.Reach.{Reach}
use Rattle.search.specs.Correct.{KeepsPast, IsSearch}
use Rattle.nearby.specs.declared.NearestDepot.{NearestDepot}
use Rattle.nearby.specs.WithinCall.{within_refusal, within_call}
use Rattle.nearby.specs.NearestCall.{nearest_refusal, nearest_call}

-- The depots at most k handovers from a code: the first `count` places hold them, and the others keep their values. Hop
-- table and layer rows are as a search from the code leaves them.
abbrev pub WithinCorrect : Shape → Type 0
WithinCorrect K =
    (rec : Record) (links : List ℕ) (B : Tables) (codes : List ℕ) (code k : ℕ)
    → within_refusal K rec links B codes code ≡ None
    → let left = within_call K rec links B codes code k in
    let G = map_network K rec links in
    (count : ℕ)
    × (left.answer ≡ Ok count)
    × AreWithin G code k (take count left.lent.1)
    × KeepsPast count codes left.lent.1
    × ((r : Reach) × IsSearch K G code B r left.lent.0)

-- The nearest open depot of a list, with its distance.
abbrev pub NearestCorrect : Shape → Type 0
NearestCorrect K =
    (rec : Record) (links : List ℕ) (B : Tables) (code : ℕ) (listed : List ℕ)
    → nearest_refusal K rec links B code listed ≡ None
    → let left = nearest_call K rec links B code listed in
    let G = map_network K rec links in
    (n : NearestDepot)
    × (left.answer ≡ Ok n)
    × IsNearest G code listed n.code n.distance
    × ((r : Reach) × IsSearch K G code B r left.lent)
