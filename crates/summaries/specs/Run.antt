-- A RUN OVER NOTICE FILES: what the bytes of the files give as whole text, over bytes and networks.
-- No word and no table is in it. Assumes nothing.
use Rattle.std.specs.Prelude.{cond, List, [], ◌∷◌, ◌++◌, ℕ, ◌+◌, ◌/◌, ◌%◌, eqb, ltb, length, take, Result, Ok, Err, fold, flat_map}
use Rattle.outcome.specs.Numbers.{too_few}
use Rattle.graph.specs.Network.{Network}
use Rattle.graph.specs.Chart.{chart, destinations}
use Rattle.graph.specs.Summary.{distance_sum, pair_number}
use Rattle.decimal.specs.Decimal.{decimal, field}
use Rattle.transcript.specs.Transcript.{network_in}
use Rattle.summary.specs.declared.Summary.{Summary}
use Rattle.summary.specs.SummaryCall.{summed}
use Rattle.summaries.specs.declared.Totals.{Totals}

-- the most files that are read
abbrev pub files_limit : ℕ
files_limit = 1000

-- the bytes that a line is lent: four numbers of at most 20 digits, three spaces and 0A
abbrev pub room : ℕ
room = 84

-- ---- a file

-- the network report of a network: sum, pairs, quotient and remainder; too few for fewer than two
-- destinations
unfoldable pub summing_of : Network → Result Summary ℕ
unfolding chart destinations distance_sum pair_number
summing_of G =
    let C = chart G in
    cond (ltb (length (destinations C)) 2) (Err too_few)
    (Ok (summed (distance_sum C) (pair_number C)))

-- four numbers with one space between, or R with the refusal's number directly behind it; and the
-- ending 0A
unfoldable pub summing_text : Result Summary ℕ → List ℕ
unfolding decimal field
summing_text (Ok s) =
    decimal s.sum ++ field (decimal s.pairs) ++ field (decimal s.quotient)
    ++ field (decimal s.remainder) ++ 10 ∷ []
summing_text (Err n) = 82 ∷ decimal n ++ 10 ∷ []

-- the line of a file: it is followed from an empty map, as the stream follows it
unfoldable pub file_line : List ℕ → List ℕ
unfolding network_in summing_of summing_text
file_line bytes = summing_text (summing_of (network_in bytes))

-- ---- the total

unfoldable pub no_totals : Totals
no_totals = record { sum = 0; pairs = 0; files = 0 }

-- sums and pairs are added up; a refused map adds nothing
unfoldable pub with_file : Result Summary ℕ → Totals → Totals
with_file (Ok s) t = record { sum = t.sum + s.sum; pairs = t.pairs + s.pairs; files = t.files + 1 }
with_file (Err n) t = record { sum = t.sum; pairs = t.pairs; files = t.files + 1 }

-- the mean is that of all pairs, not one of means; with 0 pairs in all, quotient and remainder are
-- 0
unfoldable pub total_of : Totals → Summary
total_of t =
    cond (eqb t.pairs 0) (record { sum = t.sum; pairs = 0; quotient = 0; remainder = 0 })
    (summed t.sum t.pairs)

unfoldable pub total_line : Totals → List ℕ
unfolding total_of summing_text
total_line t = summing_text (Ok (total_of t))

-- ---- the run

-- the lines of the first 1,000 files, and the total
unfoldable pub run_text : List (List ℕ) → List ℕ
unfolding file_line total_line with_file summing_of network_in no_totals
run_text files =
    let fs = take files_limit files in
    let totals = fold (λ t f. with_file (summing_of (network_in f)) t) no_totals fs in
    flat_map file_line fs ++ total_line totals
