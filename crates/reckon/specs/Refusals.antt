-- WHICH REFUSAL A RECKONING GIVES (rule 8.1), in the published words (rule 11.1).
-- `reckon_refusals` (proofs/Theorems) proves it of `reckon_call` for every shape.
-- Assumes nothing.
use Rattle.std.specs.Prelude.{List, [], ℕ, false}
use Rattle.outcome.specs.Answers.{Left, Refuses}
use Rattle.map.specs.Memory.{Shape}
use Rattle.map.specs.declared.Record.{Record}
use Rattle.map.specs.Room.{Lent, rounds_buffers}
use Rattle.reckon.specs.declared.Reckoned.{Reckoned}
use Rattle.lent_map.specs.Faults.{lent_conditions}

-- 1 short, 2 spoilt (links alone: whatever figures are stored), 3 apart
abbrev pub reckon_conditions : Shape → Record → List ℕ → Lent → List (Type 0 × ℕ)
reckon_conditions K rec links B = lent_conditions K (rounds_buffers K links B) false rec links []

-- Of a program whose reckoning call is `step`: refused with the first that holds, and then nothing changes
abbrev pub ReckonRefuses : Shape → (Record → List ℕ → Lent → Left Reckoned Lent) → Type 0
ReckonRefuses K step =
    (rec : Record) (links : List ℕ) (B : Lent) → Refuses (reckon_conditions K rec links B) B (step rec links B)
