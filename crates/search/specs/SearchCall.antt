-- THE SEARCH CALL (rules 3.1 to 3.3) on lent memory, whole: its answer and every place that it leaves. The code's
-- contract is one equation with `search_call`.
-- Assumes nothing.
use Rattle.std.specs.Prelude.{false, not, List, [], ◌∷◌, ◌++◌, ℕ, length, Option, Result, Ok, Err}
use Rattle.lists.specs.Lists.{first_of}
use Rattle.outcome.specs.Numbers.{absent_code}
use Rattle.outcome.specs.Answers.{numbered, Left, leaves, unless}
use Rattle.graph.specs.Chart.{chart, ecc}
use Rattle.map.specs.Room.{Tables, Sizes, sizes, long_enough}
use Rattle.layers.specs.Layers.{depth_from, search_leaves, last_layer}
use Rattle.map.specs.Memory.{Shape, places, table_words, map_network}
use Rattle.map.specs.declared.Record.{Record}
use Rattle.search.specs.declared.Reach.{Reach}
use Rattle.lent_map.specs.Faults.{lent_faults}

-- the sizes of what a search is lent; the tables that it is not lent count as whole
abbrev pub search_sizes : Shape → ℕ → ℕ → ℕ → ℕ → Sizes
search_sizes K links hops even odd = sizes links (table_words K) hops (places K) (places K) even odd

-- the first refusal that holds, by the lengths of the lent tables: short, spoilt (links alone), apart, absent
unfoldable pub search_refusal : Shape → Record → List ℕ → ℕ → ℕ → ℕ → ℕ → Option ℕ
search_refusal K rec links hops even odd code =
    numbered
    (first_of
    (lent_faults K (long_enough K (search_sizes K (length links) hops even odd)) false rec links []
    ++ (not ((map_network K rec links).is_open code), absent_code)
    ∷ []))

-- what a search gives that nothing refuses: the eccentricity, which is to depots that deliver, and the distance of the
-- last layer, which is of all open depots
abbrev pub reach : ℕ → ℕ → Reach
reach e d = record { ecc = e; depth = d }

-- what the call leaves: its answer, and the hop table and the two layer rows
unfoldable pub search_call : Shape → Record → List ℕ → Tables → ℕ → Left Reach Tables
search_call K rec links B code =
    let G = map_network K rec links in
    unless (search_refusal K rec links (length B.hops) (length B.even) (length B.odd) code) B
    (leaves (Ok (reach (ecc (chart G) code) (depth_from G code))) (search_leaves K.words G code B))

-- the part handed back (rule 3.3), the last layer; nothing for a refusal
abbrev pub last_of : ℕ → Result Reach ℕ → List ℕ → List ℕ → List ℕ
last_of W (Ok r) even odd = last_layer W r.depth even odd
last_of W (Err k) even odd = []
