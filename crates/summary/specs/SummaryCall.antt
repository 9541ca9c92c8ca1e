-- THE CALL OF THE NETWORK REPORT on lent memory, whole: its answer and every place that it leaves. The code's contract is
-- one equation with `summary_call`.
-- Assumes nothing.
use Rattle.std.specs.Prelude.{false, ◌&&◌, List, [], ◌∷◌, ◌++◌, ℕ, ◌/◌, ◌%◌, leb, ltb, length, Option, Ok}
use Rattle.lists.specs.Lists.{range, countb, last_or, mapl, overwrite, first_of}
use Rattle.outcome.specs.Numbers.{too_few}
use Rattle.outcome.specs.Answers.{numbered, Left, leaves, unless}
use Rattle.graph.specs.Network.{delivers}
use Rattle.graph.specs.Distance.{vertices}
use Rattle.graph.specs.Chart.{chart, destinations}
use Rattle.graph.specs.Summary.{distance_sum, pair_number, ecc_count}
use Rattle.map.specs.Memory.{Shape, places, map_network}
use Rattle.map.specs.Room.{Tables, long_enough}
use Rattle.map.specs.declared.Record.{Record}
use Rattle.layers.specs.Layers.{search_leaves}
use Rattle.lent_map.specs.Faults.{lent_faults}
use Rattle.search.specs.SearchCall.{search_sizes}
use Rattle.summary.specs.declared.Summary.{Summary}

-- the first refusal that holds, by the lengths of what is lent: short (the tables of a search, or the counts), spoilt
-- (links alone), apart, too few (fewer than two destinations)
unfoldable pub summary_refusal : Shape → Record → List ℕ → ℕ → ℕ → ℕ → ℕ → Option ℕ
summary_refusal K rec links hops even odd counts =
    let G = map_network K rec links in
    let sizes = search_sizes K (length links) hops even odd in
    numbered
    (first_of
    (lent_faults K (long_enough K sizes && leb (places K) counts) false rec links []
    ++ (ltb (countb (delivers G) (vertices G)) 2, too_few)
    ∷ []))

-- what a report gives that nothing refuses: sum and pairs, and of their mean quotient and remainder
abbrev pub summed : ℕ → ℕ → Summary
summed s p = record { sum = s; pairs = p; quotient = s / p; remainder = s % p }

-- what the call leaves: its answer, hop table and layer rows, and the counts. The searches are from the destinations in
-- their order: the tables are as the last leaves them, and all counts are written
unfoldable pub summary_call : Shape → Record → List ℕ → Tables → List ℕ → Left Summary (Tables × List ℕ)
summary_call K rec links B counts =
    let G = map_network K rec links in
    let C = chart G in
    unless (summary_refusal K rec links (length B.hops) (length B.even) (length B.odd) (length counts)) (B, counts)
    (leaves
    (Ok (summed (distance_sum C) (pair_number C)))
    (search_leaves K.words G (last_or 0 (destinations C)) B, overwrite (mapl (ecc_count C) (range (places K))) counts))
