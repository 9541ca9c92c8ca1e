-- WHAT THE REPORT GIVES (rule 11.2), by the published words (graph's Network and Summary): what every accepted report
-- answers and leaves, on any lent memory. `summary_correct` (proofs/Theorems) proves it for every shape.
-- Assumes nothing.
use Rattle.std.specs.Prelude.{◌≡◌, List, ℕ, ◌-◌, ◌*◌, ◌≤◌, T, length, get_or, None, Ok}
use Rattle.graph.specs.Network.{Network, delivers}
use Rattle.graph.specs.Summary.{IsSummary}
use Rattle.map.specs.Memory.{Shape, places, map_network}
use Rattle.map.specs.Room.{Tables}
use Rattle.map.specs.declared.Record.{Record}
use Rattle.search.specs.declared.Reach.{Reach}
use Rattle.search.specs.Correct.{KeepsPast, IsSearch}
use Rattle.summary.specs.declared.Summary.{Summary}
use Rattle.summary.specs.SummaryCall.{summary_refusal, summary_call}

-- A report s of the network G, lent the tables B and the places counts: it is one by the published words, its counts stand
-- in their places, and the tables are as the search from the highest destination leaves them. No pair is as far apart as
-- there are places.
pub record IsSummaryLeft (K : Shape) (G : Network) (B : Tables) (counts : List ℕ) (s : Summary) (left : Tables)
    (new : List ℕ) : Type 0 where
  pub is_summary : IsSummary G (delivers G) (places K) s.sum s.pairs s.quotient s.remainder (λ e. get_or new e 0)
  pub most : s.sum ≤ (places K - 1) * s.pairs
  pub kept : KeepsPast (places K) counts new
  pub last : ℕ
  pub is_last : T (delivers G last) × ((v : ℕ) → T (delivers G v) → v ≤ last)
  pub searched : (r : Reach) × IsSearch K G last B r left

abbrev pub SummaryCorrect : Shape → Type 0
SummaryCorrect K =
    (rec : Record) (links : List ℕ) (B : Tables) (counts : List ℕ)
    → summary_refusal K rec links (length B.hops) (length B.even) (length B.odd) (length counts) ≡ None
    → let left = summary_call K rec links B counts in
    (s : Summary)
    × (left.answer ≡ Ok s)
    × IsSummaryLeft K (map_network K rec links) B counts s left.lent.0 left.lent.1
