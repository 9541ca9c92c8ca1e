-- THE REFUSAL OF A STREAM'S STEP on lent memory. Assumes nothing.
use Rattle.std.specs.Prelude.{cond, ◌||◌, List, ℕ, ltb, length}
use Rattle.map.specs.Memory.{base}
use Rattle.map.specs.Room.{Sizes}
use Rattle.outcome.specs.Numbers.{short_buffer}
use Rattle.notice.specs.Lines.{line_limit}
use Rattle.report.specs.Line.{buffer_limit}
use Rattle.update.specs.Steps.{map_refusal}
use Rattle.c_values.specs.Words.{record_words, record_of}

-- the first refusal of a step: a buffer is short (more held than a line has is short too); then
-- those of the lent map
unfoldable pub step_refusal : List ℕ → List ℕ → List ℕ → Sizes → ℕ → ℕ → ℕ → ℕ
step_refusal words links pairs sizes line out held =
    cond (ltb (length words) record_words || ltb line line_limit || ltb out buffer_limit
    || ltb line_limit held) short_buffer
    (map_refusal base (record_of words) links pairs sizes)
