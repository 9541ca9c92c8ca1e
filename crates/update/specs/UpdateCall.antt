-- A CALL THAT CHANGES THE NETWORK, on lent memory, whole: its answer and every place that it leaves, for every kind of update. The opening call
-- (section 4 of the rules) is that of `opens`: the code's contract is one equation with `update_call`.
-- Assumes nothing.
use Rattle.std.specs.Prelude.{true, List, [], ◌++◌, ℕ, zero, suc, ◌<◌, length}
use Rattle.lists.specs.Lists.{range, overwrite, first_of}
use Rattle.graph.specs.Network.{Network}
use Rattle.graph.specs.Distance.{vertices}
use Rattle.graph.specs.Chart.{chart, count_pairs}
use Rattle.graph.specs.Opening.{Opened}
use Rattle.graph.specs.Updates.{Update, opens, joins, update_faults, applied, steps}
use Rattle.rows.specs.Rows.{table_bit, encode_row, encode_table}
use Rattle.map.specs.Memory.{Shape, places, map_network}
use Rattle.map.specs.declared.Record.{Record}
use Rattle.map.specs.Room.{Lent, Sizes, sizes_of, long_enough}
use Rattle.rounds.specs.Leaves.{rounds_leave}
use Rattle.outcome.specs.declared.Outcome.TheVariants.{Accepted, Refused}
use Rattle.update.specs.declared.Report.{Report}
use Rattle.update.specs.declared.Returned.{Returned}
use Rattle.lent_map.specs.Faults.{lent_faults}

-- the first refusal that holds: 1 short, 2 spoilt (links or figures), 3 apart, then the update's own; 0: none
unfoldable pub update_refusal : Shape → Record → List ℕ → List ℕ → Sizes → Update → ℕ
update_refusal K rec links pairs sizes o = first_of (lent_faults K (long_enough K sizes) true rec links pairs ++ update_faults (map_network K rec links) o)

-- the network after the update, and what it does
unfoldable pub network_after : Shape → Record → List ℕ → Update → Network
network_after K rec links o = applied (map_network K rec links) o

unfoldable pub updated_by : Shape → Record → List ℕ → List ℕ → Update → Opened
updated_by K rec links pairs o = steps (chart (network_after K rec links o)) o rec.chain (table_bit K.words pairs)

-- what the call leaves: its report with the record, the link table, and the other lent tables
pub record UpdateLeft : Type 0 where
  pub report : Report
  pub after : Record
  pub links : List ℕ
  pub lent : Lent

abbrev pub left_of : Report → Record → List ℕ → Lent → UpdateLeft
left_of report after links B = record { report = report; after = after; links = links; lent = B }

abbrev pub update_left : Returned → List ℕ → Lent → UpdateLeft
update_left r links B = left_of r.report r.after links B

unfoldable pub update_given : ℕ → Shape → Record → List ℕ → Lent → Update → UpdateLeft
update_given zero K rec links B o =
    let H = network_after K rec links o in
    let x = updated_by K rec links B.pairs o in
    let S = x.final in
    record {
      report = record { outcome = Accepted x.change; searches = length S.references };
      after = record {
        members = overwrite (encode_row K.words H.is_open) rec.members;
        number = length (vertices H);
        chain = S.candidate;
        count = count_pairs (range (places K)) S.pairs;
        yards = overwrite (encode_row K.words H.is_yard) rec.yards;
      };
      links = overwrite (encode_table K.words H.linked) links;
      lent = rounds_leave K H S B;
    }
update_given (suc k) K rec links B o = record { report = record { outcome = Refused (suc k); searches = 0 }; after = rec; links = links; lent = B }

unfoldable pub update_call : Shape → Record → List ℕ → Lent → Update → UpdateLeft
update_call K rec links B o = update_given (update_refusal K rec links B.pairs (sizes_of links B) o) K rec links B o

-- the depots that the rules search from in the call, in order: none in a refused one
unfoldable pub references_by : ℕ → Shape → Record → List ℕ → Lent → Update → List ℕ
references_by zero K rec links B o = (updated_by K rec links B.pairs o).final.references
references_by (suc k) K rec links B o = []

unfoldable pub references_of : Shape → Record → List ℕ → Lent → Update → List ℕ
references_of K rec links B o = references_by (update_refusal K rec links B.pairs (sizes_of links B) o) K rec links B o

-- a call of one shape: record, link table, other tables and update in
abbrev pub Step : Type 0
Step = Record → List ℕ → Lent → Update → UpdateLeft

-- the codes that an update opens are codes of the map: bytes where it has 256. A link opens none
abbrev pub IsWithin : Shape → Update → Type 0
IsWithin K (opens o) = o.code < places K
IsWithin K (joins a b) = Unit {0}
