-- THE CALL OF THE NETWORK REPORT for other languages. It is the call that it wraps, on the record
-- in the lent words: the answer's number, the four lent numbers, and the rest of what is lent. A
-- refused one changes nothing. Assumes nothing.
use Rattle.std.specs.Prelude.{List, ℕ}
use Rattle.map.specs.Room.{Tables}
use Rattle.map.specs.Memory.{base}
use Rattle.summary.specs.declared.Summary.{Summary}
use Rattle.summary.specs.SummaryCall.{summary_call}
use Rattle.c_values.specs.Outs.{on_words}

-- the lent numbers are sum, pairs, quotient and remainder; the rest is the tables and the counts
unfoldable pub summary_out : List ℕ → List ℕ → Tables → List ℕ → ℕ × ℕ × ℕ × ℕ
    → ℕ × (ℕ × ℕ × ℕ × ℕ) × (Tables × List ℕ)
summary_out words links B counts old =
    on_words words (λ (s : Summary). (s.sum, s.pairs, s.quotient, s.remainder)) old (B, counts)
    (λ rec. summary_call base rec links B counts)
