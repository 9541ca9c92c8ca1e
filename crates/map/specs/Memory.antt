-- THE MEMORY OF ONE MAP (rules 1.1 to 1.5): its shape, and the network that its words mean. A row of a map has 4 words; every definition takes the
-- number of words.
-- Assumes nothing.
use Rattle.std.specs.Prelude.{◌≡◌, false, List, ℕ, ◌*◌, ◌≤◌, ◌<◌, ltb}
use Rattle.lists.specs.Lists.{range, filterb}
use Rattle.graph.specs.Network.{Network, with_yards}
use Rattle.rows.specs.Rows.{row_bit, table_bit}
use Rattle.map.specs.declared.Record.{Record}

-- The shape of a map: words per row, and the skip table's marks of a searched depot and of any other.
pub record Shape : Type 0 where
  pub words : ℕ
  pub searched_mark : ℕ
  pub other_mark : ℕ

-- the codes of a map are 0 to places - 1: so many rows a table has, and so many numbers the hop, bound and skip tables
abbrev pub places : Shape → ℕ
places K = 64 * K.words

-- the words of a table
abbrev pub table_words : Shape → ℕ
table_words K = K.words * (64 * K.words)

-- A row has 1 to 512 words, and no depot's code is a mark.
pub record IsShape (K : Shape) : Type 0 where
  pub positive : 0 < K.words
  pub most : K.words < 513
  pub searched_free : places K ≤ K.searched_mark
  pub other_free : places K ≤ K.other_mark
  pub marks_differ : K.searched_mark ≡ K.other_mark → ⊥

-- the shape of the rules: 4 words, 256 codes, marks 256 and 257
abbrev pub base : Shape
base = record { words = 4; searched_mark = 256; other_mark = 257 }

-- the network that an open set (one row) and a link table mean, its depots in rising order; no depot is a yard
unfoldable pub network_of : ℕ → List ℕ → List ℕ → Network
network_of W members links = record {
  depots = filterb (row_bit W members) (range (64 * W));
  is_open = row_bit W members;
  is_yard = λ v. false;
  linked = table_bit W links;
}

-- the same with a yard set (one row)
abbrev pub yard_network : ℕ → List ℕ → List ℕ → List ℕ → Network
yard_network W members yards links = with_yards (row_bit W yards) (network_of W members links)

-- what a record and a link table mean as a network
abbrev pub map_network : Shape → Record → List ℕ → Network
map_network K rec links = yard_network K.words rec.members rec.yards links

-- the links of a table alone, every code open: what a search walks over
unfoldable pub table_network : ℕ → List ℕ → Network
table_network W links = record { depots = range (64 * W); is_open = λ v. ltb v (64 * W); is_yard = λ v. false; linked = table_bit W links }
