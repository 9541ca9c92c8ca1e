-- WHAT A CALL LEFT in lent memory, read as numbers and pairs: a reckoning's `Result`, and an
-- opening's `Line`. Assumes nothing.
use Rattle.std.specs.Prelude.{◌≡◌, true, ℕ, take, Result as Answer, Ok, Err}
use mathlib.Core.List.{List, [], ◌∷◌, Memᴰ}
use Rattle.lists.specs.Lists.{range, mapl}
use Rattle.rows.specs.Rows.{table_bit}
use Rattle.graph.specs.Network.{Network}
use Rattle.graph.specs.Chart.{chart}
use Rattle.graph.specs.Rounds.{reckon}
use Rattle.graph.specs.Cases.{pair_list}
use Rattle.map.specs.Memory.{base, places, map_network}
use Rattle.map.specs.declared.Record.{Record}
use Rattle.map.specs.Room.{Lent, sizes_of, long_enough}
use Rattle.outcome.specs.Answers.{Left}
use Rattle.reckon.specs.declared.Reckoned.{Reckoned}
use Rattle.outcome.specs.Outcome as Outcome
use Rattle.update.specs.UpdateCall.{UpdateLeft, Step}
use Rattle.update.specs.Memory.{Memory}
use Rattle.graph.specs.Updates.{Update}
use Rattle.batch_update.specs.BatchCall.{memory_left}
use Rattle.history.specs.History.{Lending, lent_to, memory_after, lent_sizes}

-- the pairs whose bits stand in a pair table
unfoldable pub pairs_in : List ℕ → List (ℕ × ℕ)
pairs_in table = pair_list (range (places base)) (table_bit base.words table)

-- a number in each of n places
abbrev pub repeated : ℕ → ℕ → List ℕ
repeated n x = mapl (λ i. x) (range n)

-- ---- the whole reckoning

-- a memory that means the network G with so many depots open, its buffers long enough, whatever
-- else they hold
pub record IsMapOf (G : Network) (number : ℕ) (rec : Record) (links : List ℕ) (B : Lent)
    : Type 0 where
  pub network : map_network base rec links ≡ G
  pub counted : rec.number ≡ number
  pub long : long_enough base (sizes_of links B) ≡ true

-- the searches; the references, in order, by the rules; number, chain and pair count of the record;
-- the places of the skip table and of the bound table; the pairs
abbrev pub Result : Type 0
Result = ℕ × List ℕ × (ℕ × ℕ × ℕ) × List ℕ × List ℕ × List (ℕ × ℕ)

-- of what a reckoning of the network G answered and left; or the number of its refusal
unfoldable pub result_in : Network → Lent → Answer Reckoned ℕ → Answer Result ℕ
result_in G B (Err k) = Err k
result_in G B (Ok a) =
    let references = (reckon (chart G)).references in
    let skips = take (places base) B.skips in
    let bounds = take (places base) B.bounds in
    let figures : ℕ × ℕ × ℕ = (a.after.number, a.after.chain, a.after.count) in
    Ok (a.searches, references, figures, skips, bounds, pairs_in B.pairs)

-- of a program whose reckoning call is `step`
unfoldable pub result_of : (Record → List ℕ → Lent → Left Reckoned Lent)
    → Record → List ℕ → Lent → Answer Result ℕ
unfolding result_in
result_of step rec links B =
    let l = step rec links B in
    result_in (map_network base rec links) l.lent l.answer

-- ---- the stream's openings

-- letter and refusal; depots, chain and pair count after it; the searches; the pairs
abbrev pub Line : Type 0
Line = (ℕ × ℕ) × (ℕ × ℕ × ℕ) × ℕ × List (ℕ × ℕ)

unfoldable pub answer_of : UpdateLeft → Line
answer_of l = (
  (Outcome.letter_of l.report.outcome, Outcome.refusal_of l.report.outcome),
  (l.after.number, l.after.chain, l.after.count),
  l.report.searches,
  pairs_in l.lent.pairs,
)

-- an update with what its call is lent
pub record LentUpdate : Type 0 where
  pub update : Update
  pub lending : Lending

-- what it leaves, of a program whose update call is `step`, on the map M
unfoldable pub left_on : Step → Memory → LentUpdate → UpdateLeft
left_on step M c = let N = lent_to M c.lending in step N.rec N.links N.lent c.update

-- the lines of a list of updates, each lent the map as it stands after the one before
unfoldable pub answers_of : Step → Memory → List LentUpdate → List Line
answers_of step M [] = []
answers_of step M (c ∷ cs) =
    let l = left_on step M c in
    answer_of l ∷ answers_of step (memory_after M c.lending (memory_left l)) cs

unfoldable pub updates_of : List LentUpdate → List Update
updates_of [] = []
updates_of (c ∷ cs) = c.update ∷ updates_of cs

-- every buffer that an update is lent has its named size
abbrev pub AllLong : List LentUpdate → Type 0
AllLong cs =
    (c : LentUpdate) → Memᴰ c cs → long_enough base (lent_sizes base c.lending) ≡ true
