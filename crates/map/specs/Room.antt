-- THE ROOM that calls are lent beside the record and the link table: tables, and the sizes of buffers (rules 1.4, 1.5 and 8.3, refusal 1). In every list
-- of buffers they stand in one order: links, pairs, hops, bounds, skips, even, odd.
-- Assumes nothing.
use Rattle.std.specs.Prelude.{Bool, ◌&&◌, List, [], ◌∷◌, ℕ, ◌≤◌, leb, length}
use Rattle.map.specs.Memory.{Shape, places, table_words}

-- the hop table and the two layer rows
pub record Tables : Type 0 where
  pub hops : List ℕ
  pub even : List ℕ
  pub odd : List ℕ

abbrev pub tables : List ℕ → List ℕ → List ℕ → Tables
tables h x y = record { hops = h; even = x; odd = y }

-- the tables of a reckoning or opening, the link table apart
pub record Lent : Type 0 where
  pub pairs : List ℕ
  pub searched : Tables
  pub bounds : List ℕ
  pub skips : List ℕ

abbrev pub lent : List ℕ → Tables → List ℕ → List ℕ → Lent
lent p T b s = record { pairs = p; searched = T; bounds = b; skips = s }

-- the lengths of the seven buffers
pub record Sizes : Type 0 where
  pub links : ℕ
  pub pairs : ℕ
  pub hops : ℕ
  pub bounds : ℕ
  pub skips : ℕ
  pub even : ℕ
  pub odd : ℕ

abbrev pub sizes : ℕ → ℕ → ℕ → ℕ → ℕ → ℕ → ℕ → Sizes
sizes l p h b s e o = record { links = l; pairs = p; hops = h; bounds = b; skips = s; even = e; odd = o }

unfoldable pub sizes_of : List ℕ → Lent → Sizes
sizes_of links B = record {
  links = length links;
  pairs = length B.pairs;
  hops = length B.searched.hops;
  bounds = length B.bounds;
  skips = length B.skips;
  even = length B.searched.even;
  odd = length B.searched.odd;
}

-- every buffer has its named size: as a fact, and as a test
pub record AreLong (K : Shape) (z : Sizes) : Type 0 where
  pub links : table_words K ≤ z.links
  pub pairs : table_words K ≤ z.pairs
  pub hops : places K ≤ z.hops
  pub bounds : places K ≤ z.bounds
  pub skips : places K ≤ z.skips
  pub even : K.words ≤ z.even
  pub odd : K.words ≤ z.odd

unfoldable pub long_enough : Shape → Sizes → Bool
long_enough K s =
    leb (table_words K) s.links
    && leb (table_words K) s.pairs
    && leb (places K) s.hops
    && leb (places K) s.bounds
    && leb (places K) s.skips
    && leb K.words s.even
    && leb K.words s.odd

-- the buffers that a reckoning or an opening is lent, each its named size with its length: link, pair, hop, bound and skip table, two layer rows
abbrev pub rounds_buffers : Shape → List ℕ → Lent → List (ℕ × ℕ)
rounds_buffers K links B =
    (table_words K, length links)
    ∷ (table_words K, length B.pairs)
    ∷ (places K, length B.searched.hops)
    ∷ (places K, length B.bounds)
    ∷ (places K, length B.skips)
    ∷ (K.words, length B.searched.even)
    ∷ (K.words, length B.searched.odd)
    ∷ []
