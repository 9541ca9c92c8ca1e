-- TABLES OF WORDS AS FLAGS, 64 to a word, the lowest bit first. Assumes nothing.
use Rattle.std.specs.Prelude.{◌≡◌, ℕ, ◌*◌, ◌/◌, ◌%◌, ◌^◌, Bool, false, eqb, bit_xor, List, length, slice_index, slice_index_or, slice_set, EachIndex}

-- flag i of a table of words: bit i % 64 of word i / 64
abbrev pub flag_in : List ℕ → ℕ → Bool
flag_in words i = eqb (slice_index words (i / 64) / 2 ^ (i % 64) % 2) 1

-- the words with flag i turned over; the same words where they have no such flag
abbrev pub turned : List ℕ → ℕ → List ℕ
turned words i = slice_set words (i / 64) (bit_xor (slice_index words (i / 64)) (2 ^ (i % 64)))

-- each flag of the words is that of a list
abbrev pub HasFlags : List ℕ → List Bool → Type 0
HasFlags words flags = EachIndex flags (λ k. slice_index_or flags k false ≡ flag_in words k)

-- the words are these flags
abbrev pub AreFlags : List ℕ → List Bool → Type 0
AreFlags words flags = (length flags ≡ 64 * length words) × HasFlags words flags
