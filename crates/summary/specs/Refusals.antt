-- WHICH REFUSALS THE REPORT GIVES (rule 8.1), in the published words (rule 11.1).
-- `summary_refusals` (proofs/Theorems) proves it of `summary_call` for every shape.
-- Assumes nothing.
use Rattle.std.specs.Prelude.{false, List, [], ◌∷◌, ◌++◌, ℕ, ◌<◌, length}
use Rattle.lists.specs.Lists.{countb}
use Rattle.outcome.specs.Numbers.{too_few}
use Rattle.outcome.specs.Answers.{Left, Refuses}
use Rattle.graph.specs.Network.{Network, delivers}
use Rattle.map.specs.Memory.{Shape, places, map_network}
use Rattle.map.specs.Room.{Tables}
use Rattle.map.specs.declared.Record.{Record}
use Rattle.lent_map.specs.Faults.{lent_conditions}
use Rattle.search.specs.Refusals.{search_buffers}
use Rattle.summary.specs.declared.Summary.{Summary}

-- 15, too few: fewer than two destinations
abbrev pub AreTooFew : Network → Type 0
AreTooFew G = countb (delivers G) G.depots < 2

-- 1 short (the counts too), 2 spoilt (links alone), 3 apart, 15 too few
abbrev pub summary_conditions : Shape → Record → List ℕ → Tables → List ℕ → List (Type 0 × ℕ)
summary_conditions K rec links B counts =
    lent_conditions K (search_buffers K links B ++ (places K, length counts) ∷ []) false rec links []
    ++ (AreTooFew (map_network K rec links), too_few)
    ∷ []

-- Of a program whose call is `step`: refused with the first that holds, and then nothing changes
abbrev pub SummaryRefuses : Shape → (Record → List ℕ → Tables → List ℕ → Left Summary (Tables × List ℕ)) → Type 0
SummaryRefuses K step =
    (rec : Record) (links : List ℕ) (B : Tables) (counts : List ℕ)
    → Refuses (summary_conditions K rec links B counts) (B, counts) (step rec links B counts)
