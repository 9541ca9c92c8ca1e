-- THE TRANSCRIPT: what a whole input of the stream gives as whole output (section 10 of the rules),
-- over bytes and networks. No word and no table is in it.
-- Assumes nothing.
use Rattle.std.specs.Prelude.{cond, List, [], ◌∷◌, ◌++◌, ℕ, zero, suc, ◌+◌, eqb, length, get_or, take, drop, flat_map, Option, Some, None}
use Rattle.lists.specs.Lists.{first_of}
use Rattle.graph.specs.Network.{Network}
use Rattle.graph.specs.Distance.{vertices}
use Rattle.graph.specs.Chart.{chart, diameter, farthest, count_pairs}
use Rattle.graph.specs.Opening.{notice_of, empty_network}
use Rattle.graph.specs.Updates.{Update, opens, joins, update_faults, steps}
use Rattle.outcome.specs.Numbers.{garbled_line}
use Rattle.outcome.specs.declared.Outcome.{Outcome}
use Rattle.outcome.specs.declared.Outcome.TheVariants.{Refused}
use Rattle.plain_list.specs.PlainList.{plain_answer, plain_next}
use Rattle.notice.specs.Lines.{yard_kind, opens_depot, lines_of, Line, garbled, frame, read_line}
use Rattle.report.specs.Line.{report_line}
use Rattle.report.specs.declared.ReportFields.{ReportFields}

-- the most lines that are read
abbrev pub lines_limit : ℕ
lines_limit = 1000000

-- ---- a line's answer

-- the update that a frame asks for, by its kind: the opening of a depot that delivers or of a yard,
-- by its code and, behind their number, its neighbours; or the link of two codes
unfoldable pub update_in : List ℕ → Update
unfolding opens_depot
update_in f =
    let kind = get_or f 0 0 in
    cond (opens_depot kind)
    (opens (notice_of (eqb kind yard_kind) (get_or f 1 0) (drop 3 f)))
    (joins (get_or f 1 0) (get_or f 2 0))

-- what a line gives: its outcome, the network after it, and the searches of its call
pub record Followed : Type 0 where
  pub outcome : Outcome
  pub network : Network
  pub searches : ℕ

-- the searches of an update that is not refused are those of its steps, on the true figures of the
-- network before it
unfoldable pub searches_by : ℕ → Network → Network → Update → ℕ
unfolding chart diameter farthest steps
searches_by zero G H o = length (steps (chart H) o (diameter G) (farthest G)).final.references
searches_by (suc k) G H o = 0

-- an update whose refusal is k, 0 for none: the plain list's answer
unfoldable pub follow_by : ℕ → Network → Update → Followed
unfolding plain_next plain_answer searches_by
follow_by k G o =
    let H = plain_next k G o in
    record { outcome = plain_answer k G H; network = H; searches = searches_by k G H o }

-- a line as the reader takes it: to the reader a blank line, an overlong one and a last stretch
-- without 0A are garbled (rule 10.3)
unfoldable pub follow_line : Network → Line → Followed
unfolding update_in follow_by first_of update_faults
follow_line G garbled = record { outcome = Refused garbled_line; network = G; searches = 0 }
follow_line G (frame f used) = let o = update_in f in follow_by (first_of (update_faults G o)) G o

-- ---- the output

-- the report of line n (rule 10.1)
unfoldable pub report_on : ℕ → Followed → ReportFields
unfolding diameter farthest count_pairs
report_on n x =
    let H = x.network in
    record {
      number = n;
      outcome = x.outcome;
      depots = length (vertices H);
      chain = diameter H;
      pairs = count_pairs (vertices H) (farthest H);
      searches = x.searches;
    }

-- the answer of a line: the frame that it spells, if any, and what its report has
pub record Answer : Type 0 where
  pub read : Option (List ℕ)
  pub report : ReportFields

-- the frame that a line spells
abbrev pub frame_in : Line → Option (List ℕ)
frame_in garbled = None
frame_in (frame f used) = Some f

-- those of the lines behind the first n, on the map of the network G
unfoldable pub answers_from : ℕ → Network → List (List ℕ) → List Answer
unfolding follow_line read_line report_on
answers_from n G [] = []
answers_from n G (l ∷ ls) =
    let x = follow_line G (read_line l) in
    record { read = frame_in (read_line l); report = report_on (n + 1) x }
    ∷ answers_from (n + 1) x.network ls

-- and of an input, from an empty map
unfoldable pub answers_in : List ℕ → List Answer
unfolding answers_from empty_network lines_of
answers_in input = answers_from 0 empty_network (take lines_limit (lines_of input))

-- the whole output of an input: the report of each answer
unfoldable pub transcript : List ℕ → List ℕ
unfolding answers_in report_line
transcript input = flat_map (λ a. report_line a.report) (answers_in input)

-- ---- the network after

-- the network after some lines
unfoldable pub network_after : Network → List (List ℕ) → Network
unfolding follow_line read_line
network_after G [] = G
network_after G (l ∷ ls) = network_after (follow_line G (read_line l)).network ls

-- the network after an input, from an empty map
unfoldable pub network_in : List ℕ → Network
unfolding network_after empty_network lines_of
network_in input = network_after empty_network (take lines_limit (lines_of input))
