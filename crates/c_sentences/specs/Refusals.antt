-- WHICH REFUSAL THE CALLS ON SENTENCES GIVE (rule 8.1), in words: `write_refusals` and
-- `read_refusals` (proofs/Theorems) prove that it is the first that holds. Assumes nothing.
use Rattle.std.specs.Prelude.{◌≡◌, ◌≢◌, ◌∷◌, List, [], ℕ, length, ◌<◌}
use Rattle.outcome.specs.Numbers.{short_buffer, garbled_line}
use Rattle.sentences.specs.Sentence.{sentence_of, IsWithin}
use Rattle.sentences.specs.Calls.{buffer_limit}
use Rattle.sentences.specs.declared.Said.{Said}
use Rattle.c_sentences.specs.declared.Numbers.{Numbers}
use Rattle.c_sentences.specs.Numbers.{numbers_of}

-- 1 short, 9 garbled: nothing that can be said has these numbers
abbrev pub write_conditions : Numbers → List ℕ → List (Type 0 × ℕ)
write_conditions n line =
    (length line < buffer_limit, short_buffer) ∷ ((s : Said) → numbers_of s ≢ n, garbled_line) ∷ []

-- 9 garbled: the text is the sentence of nothing
abbrev pub read_conditions : List ℕ → List (Type 0 × ℕ)
read_conditions text = ((s : Said) → IsWithin s → text ≡ sentence_of s → ⊥, garbled_line) ∷ []
