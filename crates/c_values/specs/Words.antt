-- THE RECORD AS ELEVEN LENT WORDS: the open set (four words), the number open, the longest chain,
-- the pair count, and the yard set (four words). Assumes nothing.
use Rattle.std.specs.Prelude.{List, ◌∷◌, ◌++◌, ℕ, ◌+◌, ◌*◌, min, get_or, take, drop}
use Rattle.map.specs.Memory.{base}
use Rattle.map.specs.declared.Record.{Record}

abbrev pub record_words : ℕ
record_words = 2 * base.words + 3

unfoldable pub record_of : List ℕ → Record
record_of words = record {
  members = take base.words words;
  number = get_or words base.words 0;
  chain = get_or words (base.words + 1) 0;
  count = get_or words (base.words + 2) 0;
  yards = take base.words (drop (base.words + 3) words);
}

unfoldable pub words_of : Record → List ℕ
words_of rec = rec.members ++ (rec.number ∷ rec.chain ∷ rec.count ∷ rec.yards)

-- ---- a step of the code: nobody has to believe it

-- the largest numbers of 16 and of 32 bits
abbrev pub most16 : ℕ
most16 = 65535

abbrev pub most32 : ℕ
most32 = 4294967295

-- The record at the widths of its fields. `map_clamp` and `clamped_is` (proofs/Clamps) say that no
-- call can tell the difference.
unfoldable pub clamped_of : List ℕ → Record
clamped_of words = record {
  members = take base.words words;
  number = min (get_or words base.words 0) most16;
  chain = min (get_or words (base.words + 1) 0) most16;
  count = min (get_or words (base.words + 2) 0) most32;
  yards = take base.words (drop (base.words + 3) words);
}
