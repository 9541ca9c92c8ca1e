-- THE WHOLE RECKONING (rule 5.5) on lent memory: its answer and every place that it leaves. The code's contract is one
-- equation with `reckon_call`.
-- Assumes nothing.
use Rattle.std.specs.Prelude.{false, List, [], ℕ, length, Option, Ok}
use Rattle.lists.specs.Lists.{range}
use Rattle.graph.specs.Chart.{chart, count_pairs}
use Rattle.graph.specs.Rounds.{State, reckon}
use Rattle.map.specs.Memory.{Shape, places, map_network}
use Rattle.map.specs.declared.Record.{Record}
use Rattle.map.specs.Room.{Lent, Sizes, sizes_of, long_enough}
use Rattle.rounds.specs.Leaves.{rounds_leave}
use Rattle.outcome.specs.Answers.{numbered, Left, leaves, unless}
use Rattle.reckon.specs.declared.Reckoned.{Reckoned}
use Rattle.lent_map.specs.Faults.{lent_refusal}

-- the first refusal that holds: short, spoilt (links alone: a reckoning repairs figures), apart
unfoldable pub reckon_refusal : Shape → Record → List ℕ → Sizes → Option ℕ
reckon_refusal K rec links sizes = numbered (lent_refusal K (long_enough K sizes) false rec links [])

-- the record with the figures of a state
unfoldable pub figured_by : Shape → Record → State → Record
figured_by K rec S = record {
  members = rec.members;
  number = rec.number;
  chain = S.candidate;
  count = count_pairs (range (places K)) S.pairs;
  yards = rec.yards;
}

-- what the call leaves: its answer, which is the number of searches with the record, and the lent tables
unfoldable pub reckon_call : Shape → Record → List ℕ → Lent → Left Reckoned Lent
reckon_call K rec links B =
    let G = map_network K rec links in
    let S = reckon (chart G) in
    unless (reckon_refusal K rec links (sizes_of links B)) B
    (leaves (Ok (record { searches = length S.references; after = figured_by K rec S })) (rounds_leave K G S B))
