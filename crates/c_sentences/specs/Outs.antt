-- THE CALLS ON SENTENCES for other languages: the answer, the lent numbers and every byte of the
-- lent buffer. Assumes nothing.
use Rattle.std.specs.Prelude.{List, ℕ, length, nat_lt, if◌then◌else◌, Result, Ok, Err, Option, Some, None}
use Rattle.lists.specs.Lists.{overwrite}
use Rattle.outcome.specs.Numbers.{short_buffer, garbled_line}
use Rattle.outcome.specs.Refusals.{number_of}
use Rattle.outcome.specs.declared.Refusal.{Refusal}
use Rattle.sentences.specs.Sentence.{sentence_of}
use Rattle.sentences.specs.Calls.{buffer_limit}
use Rattle.sentences.specs.Reading.{read_sentence}
use Rattle.sentences.specs.declared.Said.{Said}
use Rattle.c_sentences.specs.declared.Numbers.{Numbers}
use Rattle.c_sentences.specs.Numbers.{said_of, numbers_of}

-- the writer: the answer, the lent length and the lent buffer. Numbers of nothing are garbled, and
-- a refused call changes nothing
abbrev pub said_out : Option Said → List ℕ → ℕ → ℕ × ℕ × List ℕ
said_out None line l = (garbled_line, l, line)
said_out (Some s) line l = (0, length (sentence_of s), overwrite (sentence_of s) line)

-- that the buffer is short is told first
unfoldable pub write_out : Numbers → List ℕ → ℕ → ℕ × ℕ × List ℕ
write_out n line l =
    if nat_lt (length line) buffer_limit then (short_buffer, l, line)
    else said_out (said_of n) line l

-- the reader: the answer, and the numbers of what is said, or the lent ones as they were
abbrev pub numbers_out : Result Said Refusal → Numbers → ℕ × Numbers
numbers_out (Ok s) before = (0, numbers_of s)
numbers_out (Err k) before = (number_of k, before)

unfoldable pub read_out : List ℕ → Numbers → ℕ × Numbers
read_out text before = numbers_out (read_sentence text) before
