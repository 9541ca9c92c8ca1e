-- THE TABLE OF CASES (rule 11.6): the empty map, the single map and the path of seven reckoned, and
-- the seven stream lines, on any lent memory that is long enough, whatever scratch and longer
-- buffers hold. `cases_hold` (proofs) says it of `empty_call base`, `reckon_call base` and
-- `update_call base`, which the contracts cite, and of the stream's own calls. Assumes nothing.
use Rattle.std.specs.Prelude.{◌≡◌, List, [], ◌∷◌, ◌++◌, ℕ, ◌≤◌, length, Ok}
use Prim.Native.String.{String}
use Rattle.lists.specs.Lists.{overwrite}
use Rattle.rows.specs.Rows.{encode_row, encode_table}
use Rattle.graph.specs.Cases.{path, seven_lines}
use Rattle.map.specs.Memory.{base, places, table_words, yard_network, map_network}
use Rattle.outcome.specs.Answers.{Left}
use Rattle.map.specs.declared.Record.{Record}
use Rattle.map.specs.Room.{Lent}
use Rattle.reckon.specs.declared.Reckoned.{Reckoned}
use Rattle.update.specs.Memory.{empty_memory}
use Rattle.update.specs.UpdateCall.{Step}
use Rattle.report.specs.Line.{buffer_limit}
use Rattle.transcript.specs.Transcript.{transcript}
use Rattle.transcript.specs.Manner.{as_reports}
use Rattle.stream.specs.Pieces.{Standing, Turn, stands_told, used_told, written_told, last_told, HasBegun}
use Rattle.transcript.specs.Texts.{bytes_in}
use Rattle.cases.specs.Results.{repeated, IsMapOf, Result, result_of, Line, LentUpdate, answers_of, updates_of, AllLong}

-- ---- the numbers

-- the empty map, and the map of one depot
abbrev pub empty_result : Result
empty_result = (0, [], (0, 0, 0), repeated 256 257, repeated 256 65535, [])

abbrev pub single_result : Result
single_result =
    (1, 0 ∷ [], (1, 0, 0), 256 ∷ repeated 255 257, 0 ∷ repeated 255 65535, [])

-- the path of seven (rule 5.6)
abbrev pub seven_result : Result
seven_result = (
  6,
  1 ∷ 2 ∷ 3 ∷ 5 ∷ 0 ∷ 6 ∷ [],
  (7, 6, 1),
  256 ∷ 256 ∷ 256 ∷ 256 ∷ 3 ∷ 256 ∷ 256 ∷ repeated 249 257,
  6 ∷ 5 ∷ 4 ∷ 3 ∷ 4 ∷ 5 ∷ 6 ∷ repeated 249 65535,
  (0, 6) ∷ [],
)

-- the seven lines of the stream (rule 10.5): letter (75 K, 71 G, 83 S, 82 R) and refusal; depots,
-- chain and pair count; searches; and the pairs
abbrev pub seven_answers : List Line
seven_answers =
    ((75, 0), (1, 0, 0), 1, [])
    ∷ ((71, 0), (2, 1, 1), 1, (0, 1) ∷ [])
    ∷ ((71, 0), (3, 2, 1), 1, (0, 2) ∷ [])
    ∷ ((71, 0), (4, 3, 1), 1, (0, 3) ∷ [])
    ∷ ((71, 0), (5, 4, 1), 1, (0, 4) ∷ [])
    ∷ ((83, 0), (6, 3, 2), 6, (0, 3) ∷ (1, 4) ∷ [])
    ∷ ((82, 5), (6, 3, 2), 0, (0, 3) ∷ (1, 4) ∷ [])
    ∷ []

-- the same lines as whole input and whole output
abbrev pub seven_input : String
seven_input =
    "010000\n01010100\n01020101\n01030102\n01040103\n010503000204\n010503000204\n"

abbrev pub seven_output : String
seven_output =
    "1 K 1 0 0 1\n2 G 2 1 1 1\n3 G 3 2 1 1\n4 G 4 3 1 1\n5 G 5 4 1 1\n6 S 6 3 2 6\n7 R5 6 3 2 0\n"

-- ---- THE TABLE, of a program with these three calls

pub record Cases (emptying : List ℕ → List ℕ → Left Record (List ℕ × List ℕ))
    (reckoning : Record → List ℕ → Lent → Left Reckoned Lent) (opening : Step) : Type 0 where
  -- reckoned, on any memory that means the map
  pub empty : (rec : Record) (links : List ℕ) (B : Lent)
      → IsMapOf (path 0) 0 rec links B → result_of reckoning rec links B ≡ Ok empty_result
  pub single : (rec : Record) (links : List ℕ) (B : Lent)
      → IsMapOf (path 1) 1 rec links B → result_of reckoning rec links B ≡ Ok single_result
  pub seven : (rec : Record) (links : List ℕ) (B : Lent)
      → IsMapOf (path 7) 7 rec links B → result_of reckoning rec links B ≡ Ok seven_result
  -- there is such memory: a path's words over whatever stood there; for the empty map, what an
  -- emptying leaves
  pub written : (k : ℕ) → k ≤ places base → (members yards links : List ℕ)
      → yard_network base.words (overwrite (encode_row base.words (path k).is_open) members)
      (overwrite (encode_row base.words (path k).is_yard) yards)
      (overwrite (encode_table base.words (path k).linked) links)
      ≡ path k
  pub emptied : (links pairs : List ℕ)
      → table_words base ≤ length links → table_words base ≤ length pairs
      → let left = emptying links pairs in
      (rec : Record) × (left.answer ≡ Ok rec) × (map_network base rec left.lent.0 ≡ path 0)
      × (rec.number ≡ 0)
  -- opened from the empty map, each call lent the map as it stands after the one before, and any
  -- other memory that is long enough
  pub stream : (cs : List LentUpdate) → updates_of cs ≡ seven_lines → AllLong cs
      → answers_of opening (empty_memory base) cs ≡ seven_answers
  -- the stream's bytes: the whole output of the whole input; and on lent memory, however the input
  -- is cut into pieces
  pub text : transcript (bytes_in seven_input) ≡ bytes_in seven_output
  pub pieces : (s : Standing) → HasBegun s → (ts : List Turn) (out : List ℕ)
      → buffer_limit ≤ length out → used_told as_reports s ts ≡ bytes_in seven_input
      → written_told as_reports s ts ++ last_told as_reports (stands_told as_reports s ts) out
      ≡ bytes_in seven_output
