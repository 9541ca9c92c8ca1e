-- THE STEP OF THE STREAM for other languages: the step of crate stream on the record in the lent
-- words; a refused call changes nothing. Assumes nothing.
use Rattle.std.specs.Prelude.{List, ℕ, ◌==◌, if◌then◌else◌, length}
use Rattle.lists.specs.Lists.{overwrite}
use Rattle.map.specs.Room.{Lent, sizes_of}
use Rattle.transcript.specs.Manner.{as_reports}
use Rattle.stream.specs.declared.Progress.{Progress}
use Rattle.stream.specs.Feeding.{Feeding, progress_of, feed_call, finish_call}
use Rattle.c_values.specs.Words.{record_of, words_of}
use Rattle.c_values.specs.Refusal.{step_refusal}

-- the lent values: the record's words, the lines, and the bytes held, used and written
abbrev pub FedValues : Type 0
FedValues = List ℕ × ℕ × ℕ × ℕ × ℕ

-- the rest of what is lent: link table, the map's tables, line buffer, and the buffer for answers
abbrev pub FedMemory : Type 0
FedMemory = List ℕ × Lent × List ℕ × List ℕ

-- what a step of the stream leaves, with the refusal's number
unfoldable pub step_out : (Progress → Feeding) → FedValues → FedMemory → ℕ × FedValues × FedMemory
step_out step (words, lines, held, used, written) (links, B, line, out) =
    let k = step_refusal words links B.pairs (sizes_of links B) (length line) (length out) held in
    let F = step (progress_of (record_of words) lines held) in
    let p = F.fed.progress in
    let w = overwrite (words_of p.rec) words in
    if k == 0
    then (0, (w, p.lines, p.held, F.fed.used, F.fed.written), (F.links, F.lent, F.line, F.out))
    else (k, (words, lines, held, used, written), (links, B, line, out))

-- a piece is fed
unfoldable pub feed_out : FedValues → FedMemory → List ℕ → ℕ × FedValues × FedMemory
feed_out v m piece = step_out (λ p. feed_call as_reports p m.0 m.1 m.2 m.3 piece) v m

-- the input has ended. A step that ends it uses no bytes
unfoldable pub finish_out : FedValues → FedMemory → ℕ × FedValues × FedMemory
finish_out v m = step_out (λ p. finish_call as_reports p m.0 m.1 m.2 m.3) v m
