-- WHICH REFUSAL A CALL GIVES (rule 8.1), in the published words (rule 11.1).
-- `update_refusals` (proofs/Refusals) proves it of `update_call` for every shape.
-- Assumes nothing.
use Rattle.std.specs.Prelude.{List, ◌++◌, ℕ, true}
use Rattle.lists.specs.Conditions.{Refuses}
use Rattle.graph.specs.Updates.{Update}
use Rattle.graph.specs.Refusals.{own_conditions}
use Rattle.map.specs.Memory.{Shape, map_network}
use Rattle.map.specs.declared.Record.{Record}
use Rattle.map.specs.Room.{Lent, rounds_buffers}
use Rattle.outcome.specs.Outcome.{refusal_of}
use Rattle.outcome.specs.declared.Outcome.TheVariants.{Refused}
use Rattle.update.specs.UpdateCall.{UpdateLeft, left_of}
use Rattle.lent_map.specs.Faults.{lent_conditions}

-- 1 short, 2 spoilt (links or figures), 3 apart, then the update's own: of an opening 5 taken, 6 lonely, 7 unsorted, 8 unknown
abbrev pub update_conditions : Shape → Record → List ℕ → Lent → Update → List (Type 0 × ℕ)
update_conditions K rec links B o = lent_conditions K (rounds_buffers K links B) true rec links B.pairs ++ own_conditions (map_network K rec links) o

-- Of a program whose update call is `step`: refused with the first that holds, and then nothing changes
abbrev pub UpdateRefuses : Shape → (Record → List ℕ → Lent → Update → UpdateLeft) → Type 0
UpdateRefuses K step =
    (rec : Record) (links : List ℕ) (B : Lent) (o : Update)
    → Refuses
    (update_conditions K rec links B o)
    (refusal_of (step rec links B o).report.outcome)
    (λ k. left_of (record { outcome = Refused k; searches = 0 }) rec links B)
    (step rec links B o)
