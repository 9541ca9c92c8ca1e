-- THE CALL THAT LISTS THE DEPOTS WITHIN k HANDOVERS (rule 13.1) on lent memory, whole: its answer and every place that it
-- leaves. The code's contract is one equation with `within_call`.
-- Assumes nothing.
use Rattle.std.specs.Prelude.{false, not, ◌&&◌, List, [], ◌∷◌, ◌++◌, ℕ, leb, length, Option, Ok}
use Rattle.lists.specs.Lists.{overwrite, first_of}
use Rattle.outcome.specs.Numbers.{absent_code}
use Rattle.outcome.specs.Answers.{numbered, Left, leaves, unless}
use Rattle.graph.specs.Nearby.{within_list}
use Rattle.map.specs.Memory.{Shape, places, map_network}
use Rattle.map.specs.Room.{Tables, long_enough}
use Rattle.map.specs.declared.Record.{Record}
use Rattle.layers.specs.Layers.{search_leaves}
use Rattle.lent_map.specs.Faults.{lent_faults}
use Rattle.search.specs.SearchCall.{search_sizes}

-- the first refusal that holds: short (the tables of a search, or the places for the codes), spoilt (links alone), apart,
-- absent
unfoldable pub within_refusal : Shape → Record → List ℕ → Tables → List ℕ → ℕ → Option ℕ
within_refusal K rec links B codes code =
    let sizes = search_sizes K (length links) (length B.hops) (length B.even) (length B.odd) in
    numbered
    (first_of
    (lent_faults K (long_enough K sizes && leb (places K) (length codes)) false rec links []
    ++ (not ((map_network K rec links).is_open code), absent_code)
    ∷ []))

-- what the call leaves: how many codes are listed; hop table and layer rows, and the places for the codes
unfoldable pub within_call : Shape → Record → List ℕ → Tables → List ℕ → ℕ → ℕ → Left ℕ (Tables × List ℕ)
within_call K rec links B codes code k =
    let G = map_network K rec links in
    let found = within_list G code k in
    unless (within_refusal K rec links B codes code) (B, codes)
    (leaves (Ok (length found)) (search_leaves K.words G code B, overwrite found codes))
