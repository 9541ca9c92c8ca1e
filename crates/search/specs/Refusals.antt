-- WHICH REFUSAL A SEARCH GIVES (rule 8.1), in the published words (rule 11.1).
-- `search_refusals` (proofs/Theorems) proves it of `search_call` for every shape.
-- Assumes nothing.
use Rattle.std.specs.Prelude.{List, [], ◌∷◌, ◌++◌, ℕ, length, false}
use Rattle.outcome.specs.Numbers.{absent_code}
use Rattle.outcome.specs.Answers.{Left, Refuses}
use Rattle.graph.specs.Refusals.{IsAbsent}
use Rattle.map.specs.Room.{Tables}
use Rattle.map.specs.Memory.{Shape, places, table_words, map_network}
use Rattle.map.specs.declared.Record.{Record}
use Rattle.search.specs.declared.Reach.{Reach}
use Rattle.lent_map.specs.Faults.{lent_conditions}

-- the buffers that a search is lent, each its named size with its length: link table, hop table, two layer rows
abbrev pub search_buffers : Shape → List ℕ → Tables → List (ℕ × ℕ)
search_buffers K links B =
    (table_words K, length links) ∷ (places K, length B.hops) ∷ (K.words, length B.even) ∷ (K.words, length B.odd) ∷ []

-- 1 short, 2 spoilt (links alone), 3 apart, 4 absent
abbrev pub search_conditions : Shape → Record → List ℕ → Tables → ℕ → List (Type 0 × ℕ)
search_conditions K rec links B code =
    lent_conditions K (search_buffers K links B) false rec links [] ++ (IsAbsent (map_network K rec links) code, absent_code) ∷ []

-- Of a program whose search call is `step`: refused with the first that holds, and then nothing changes
abbrev pub SearchRefuses : Shape → (Record → List ℕ → Tables → ℕ → Left Reach Tables) → Type 0
SearchRefuses K step =
    (rec : Record) (links : List ℕ) (B : Tables) (code : ℕ)
    → Refuses (search_conditions K rec links B code) B (step rec links B code)
