-- The writer's call on lent memory: one definition from what was lent to the answer and every byte.
-- Assumes nothing.
use Rattle.std.specs.Prelude.{List, ℕ, length, Result, Ok, Err, nat_lt, if◌then◌else◌}
use Rattle.lists.specs.Lists.{overwrite}
use Rattle.outcome.specs.declared.Refusal.{Refusal}
use Rattle.outcome.specs.declared.Refusal.TheVariants.{Short}
use Rattle.sentences.specs.Sentence.{sentence_of}
use Rattle.sentences.specs.declared.Said.{Said}

-- the size of the caller's buffer
abbrev pub buffer_limit : ℕ
buffer_limit = 160

-- the answer, and the lent buffer: the sentence over its first bytes; bytes past it stay
unfoldable pub write_call : Said → List ℕ → Result ℕ Refusal × List ℕ
write_call s buffer =
    if nat_lt (length buffer) buffer_limit then (Err Short, buffer)
    else (Ok (length (sentence_of s)), overwrite (sentence_of s) buffer)
