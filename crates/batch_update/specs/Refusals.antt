-- WHICH REFUSAL A BATCH GIVES, in the published words (rule 11.1). `batch_refusals` (proofs/Refusals) proves it of `batch_call`
-- for every shape.
-- Assumes nothing.
use Rattle.std.specs.Prelude.{true, ℕ, ◌<◌, T, length}
use mathlib.Core.List.{List, [], ◌∷◌, ◌++◌, Memᴰ}
use Rattle.lists.specs.Conditions.{Refuses}
use Rattle.outcome.specs.Numbers.{overfull_batch, bare_map, garbled_line}
use Rattle.graph.specs.Network.{Network}
use Rattle.map.specs.Memory.{Shape, map_network}
use Rattle.map.specs.declared.Record.{Record}
use Rattle.map.specs.Room.{Lent, rounds_buffers}
use Rattle.lent_map.specs.Faults.{lent_conditions}
use Rattle.notice.specs.Lines.{lines_of}
use Rattle.batch.specs.Lines.{batch_limit, is_opening}
use Rattle.batch_update.specs.BatchCall.{lent_memory, BatchLeft, BatchAnswer, Opened, Refused}

-- 11, overfull: more than 64 lines
abbrev pub IsOverfull : List ℕ → Type 0
IsOverfull input = batch_limit < length (lines_of input)

-- 12, bare: no depot is open, no yard either
abbrev pub IsBare : Network → Type 0
IsBare G = ((u : ℕ) × T (G.is_open u)) → ⊥

-- 9, garbled: some line does not read as a frame that opens a depot or a yard
abbrev pub IsGarbled : List ℕ → Type 0
IsGarbled input = (l : List ℕ) × Memᴰ l (lines_of input) × (T (is_opening l) → ⊥)

-- the refusals of the lines, in their order
abbrev pub lines_conditions : Network → List ℕ → List (Type 0 × ℕ)
lines_conditions G input = (IsOverfull input, overfull_batch) ∷ (IsBare G, bare_map) ∷ (IsGarbled input, garbled_line) ∷ []

-- 1 short (64 places, and the buffers of an opening), 2 spoilt (links or figures), 3 apart, then those of the lines
abbrev pub batch_conditions : Shape → Record → List ℕ → Lent → List ℕ → List ℕ → List (Type 0 × ℕ)
batch_conditions K rec links B places input =
    lent_conditions K ((batch_limit, length places) ∷ rounds_buffers K links B) true rec links B.pairs ++ lines_conditions (map_network K rec links) input

-- the number of a refusal, 0 for none
unfoldable pub batch_number : BatchAnswer → ℕ
batch_number (Opened n) = 0
batch_number (Refused n) = n

-- a batch of one shape: record, link table, other tables, places and lines in
abbrev pub BatchStep : Type 0
BatchStep = Record → List ℕ → Lent → List ℕ → List ℕ → BatchLeft

-- Of a program whose batch call is `step`: refused with the first that holds, and then nothing changes
abbrev pub BatchRefuses : Shape → BatchStep → Type 0
BatchRefuses K step =
    (rec : Record) (links : List ℕ) (B : Lent) (places input : List ℕ)
    → Refuses
    (batch_conditions K rec links B places input)
    (batch_number (step rec links B places input).answer)
    (λ k. record { answer = Refused k; memory = lent_memory rec links B; left = places })
    (step rec links B places input)
