-- THE CALL THAT FINDS THE NEAREST DEPOT OF A LIST (rule 13.2) on lent memory, whole: its answer and every place that it
-- leaves. The code's contract is one equation with `nearest_call`.
-- Assumes nothing.
use Rattle.std.specs.Prelude.{false, not, List, [], ◌∷◌, ◌++◌, ℕ, length, Option, Ok}
use Rattle.lists.specs.Lists.{anyb, first_of}
use Rattle.outcome.specs.Numbers.{absent_code, nobody_open}
use Rattle.outcome.specs.Answers.{numbered, Left, leaves, unless}
use Rattle.graph.specs.Distance.{dist}
use Rattle.graph.specs.Nearby.{nearest_listed}
use Rattle.map.specs.Memory.{Shape, map_network}
use Rattle.map.specs.Room.{Tables, long_enough}
use Rattle.map.specs.declared.Record.{Record}
use Rattle.layers.specs.Layers.{search_leaves}
use Rattle.lent_map.specs.Faults.{lent_faults}
use Rattle.search.specs.SearchCall.{search_sizes}
use Rattle.nearby.specs.declared.NearestDepot.{NearestDepot}

-- the first refusal that holds: short, spoilt (links alone), apart, absent, nobody (no listed code is open). The list has
-- no size.
unfoldable pub nearest_refusal : Shape → Record → List ℕ → Tables → ℕ → List ℕ → Option ℕ
nearest_refusal K rec links B code listed =
    let G = map_network K rec links in
    let sizes = search_sizes K (length links) (length B.hops) (length B.even) (length B.odd) in
    numbered
    (first_of
    (lent_faults K (long_enough K sizes) false rec links []
    ++ (not (G.is_open code), absent_code)
    ∷ (not (anyb G.is_open listed), nobody_open)
    ∷ []))

-- what a choice gives that nothing refuses: the code with its distance
abbrev pub nearest_depot : ℕ → ℕ → NearestDepot
nearest_depot v d = record { code = v; distance = d }

-- what the call leaves: its answer, hop table and layer rows
unfoldable pub nearest_call : Shape → Record → List ℕ → Tables → ℕ → List ℕ → Left NearestDepot Tables
nearest_call K rec links B code listed =
    let G = map_network K rec links in
    let v = nearest_listed G code listed in
    unless (nearest_refusal K rec links B code listed) B
    (leaves (Ok (nearest_depot v (dist G code v))) (search_leaves K.words G code B))
