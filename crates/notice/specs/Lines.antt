-- Notice lines (rules 7.1 and 7.2): frames, and the lines that spell them. Assumes nothing.
use Rattle.std.specs.Prelude.{Bool, cond, ◌&&◌, ◌||◌, List, [], ◌∷◌, ◌++◌, ℕ, suc, ◌+◌, ◌%◌, eqb, leb, ltb, length, get_or, take}
use Rattle.lists.specs.Lists.{allb}
use Rattle.hexadecimal.specs.Hex.{is_digit, digits_of, bytes_of}

-- the most bytes that a line has, its ending counted: 2 digits for each of 258 bytes, and 0A
abbrev pub line_limit : ℕ
line_limit = 517

-- the byte that ends a line, 0A
abbrev pub line_end : ℕ
line_end = 10

-- THE KINDS OF FRAMES. One opens a depot that delivers: kind, code, number of neighbours, and that many neighbours
abbrev pub opening_kind : ℕ
opening_kind = 1

-- one links two depots: kind and two codes
abbrev pub link_kind : ℕ
link_kind = 2

-- one opens a yard, and is laid out as the first
abbrev pub yard_kind : ℕ
yard_kind = 4

-- the kinds that open a depot, one that delivers or a yard
unfoldable pub opens_depot : ℕ → Bool
opens_depot kind = eqb kind opening_kind || eqb kind yard_kind

-- how many bytes a frame of a kind has, by its third byte; 0 for a byte that is no kind
unfoldable pub frame_length : ℕ → ℕ → ℕ
unfolding opens_depot
frame_length kind third = cond (opens_depot kind) (3 + third) (cond (eqb kind link_kind) 3 0)

unfoldable pub is_frame : List ℕ → Bool
unfolding frame_length
is_frame f = leb 3 (length f) && eqb (length f) (frame_length (get_or f 0 0) (get_or f 2 0))

-- the line of a frame
unfoldable pub line_of : List ℕ → List ℕ
line_of f = digits_of f ++ line_end ∷ []

-- how many bytes stand before the first 0A; all of them where there is none
unfoldable pub end_of : List ℕ → ℕ
end_of [] = 0
end_of (c ∷ cs) = cond (eqb c line_end) 0 (suc (end_of cs))

-- only digits, an even number of them, that spell a frame
unfoldable pub spells_frame : List ℕ → Bool
spells_frame ds = allb is_digit ds && (eqb (length ds % 2) 0 && is_frame (bytes_of ds))

-- ---- the lines of an input, each with its ending

-- a byte before the first of some lines; a line of its own where there is none
unfoldable pub onto : ℕ → List (List ℕ) → List (List ℕ)
onto b [] = (b ∷ []) ∷ []
onto b (l ∷ ls) = (b ∷ l) ∷ ls

-- 0A ends a line; what is left behind the last 0A is a line too, unless nothing is left (rule 10.3)
unfoldable pub lines_of : List ℕ → List (List ℕ)
unfolding onto
lines_of [] = []
lines_of (b ∷ bs) = let ls = lines_of bs in cond (eqb b line_end) ((b ∷ []) ∷ ls) (onto b ls)

-- ---- a line read

-- what stands at the start of the input: a frame with the number of bytes that its line takes, or nothing that reads
pub data Line : Type 0 where
  garbled : Line
  frame : List ℕ → ℕ → Line

-- a line that ends within these bytes and spells a frame before its end. The ending counts as used
unfoldable pub read_head : List ℕ → Line
read_head head =
    let n = end_of head in
    cond (ltb n (length head) && spells_frame (take n head)) (frame (bytes_of (take n head)) (n + 1)) garbled

-- the line that the input begins with (rule 7.3): its end has to stand among the first 517 bytes
unfoldable pub read_line : List ℕ → Line
read_line input = read_head (take line_limit input)
