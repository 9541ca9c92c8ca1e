-- THE LENT SLICES AS ONE VALUE: what stands in those that travel together in a struct, and that it lends the same ones after a call; and of slices that a
-- call is lent one by one, so that a contract names them once: by the references that a `requires` sees, and by those of an `ensures`, each
-- at both moments of the call.
-- Assumes nothing.
use Rattle.std.specs.Prelude.{◌≡◌, List, ℕ, length}
use Rattle.std.specs.Borrow.{MutBor}
use denote.Triple.Both.{Both}
use Rattle.map.specs.Memory.{base, places, table_words}
use Rattle.map.specs.Room.{Tables, tables, Lent, lent, Sizes, sizes}
use Rattle.map.specs.declared.Lengths.{Lengths}
use Rattle.map.specs.declared.Room.{Room}
use Rattle.map.specs.declared.Scratch.{Scratch}

-- a slice of numbers
abbrev pub Slice : Type 0
Slice = MutBor (List ℕ)

-- ---- the slices of a struct

-- what stands in the tables of a search, and in the lent tables
abbrev pub tables_in : Scratch → Tables
tables_in s = tables s.hops.now s.even.now s.odd.now

abbrev pub lent_in : Room → Lent
lent_in r = lent r.pairs.now (tables r.hops.now r.even.now r.odd.now) r.bounds.now r.skips.now

-- the seven lengths: those of link and pair table, and the code's five
abbrev pub sizes_with : ℕ → ℕ → Lengths → Sizes
sizes_with links pairs z = sizes links pairs z.hops z.bounds z.skips z.even z.odd

-- the code's five, of a room
abbrev pub lengths_in : Room → Lengths
lengths_in r = record {
  hops = length r.hops.now;
  bounds = length r.bounds.now;
  skips = length r.skips.now;
  even = length r.even.now;
  odd = length r.odd.now;
}

-- their lengths, behind a link table of so many words; what a search is not lent counts as whole
abbrev pub scratch_sizes : ℕ → Scratch → Sizes
scratch_sizes links s =
    sizes links (table_words base) (length s.hops.now) (places base) (places base) (length s.even.now) (length s.odd.now)

abbrev pub room_sizes : ℕ → Room → Sizes
room_sizes links r = sizes_with links (length r.pairs.now) (lengths_in r)

-- it is the same buffer, of the same length
pub record IsSameSlice (s t : Slice) : Type 0 where
  pub name : s.ghost_name ≡ t.ghost_name
  pub long : length s.now ≡ length t.now

-- each field lends the buffer that it lent
pub record IsSameScratch (s t : Scratch) : Type 0 where
  pub hops : IsSameSlice s.hops t.hops
  pub even : IsSameSlice s.even t.even
  pub odd : IsSameSlice s.odd t.odd

pub record IsSameRoom (r q : Room) : Type 0 where
  pub pairs : IsSameSlice r.pairs q.pairs
  pub hops : IsSameSlice r.hops q.hops
  pub bounds : IsSameSlice r.bounds q.bounds
  pub skips : IsSameSlice r.skips q.skips
  pub even : IsSameSlice r.even q.even
  pub odd : IsSameSlice r.odd q.odd

-- ---- slices one by one

-- a slice at both moments
abbrev pub Moments : Type 0
Moments = Both Slice Slice

-- ---- the tables of a search: hops, even, odd

abbrev pub tables_at : Slice → Slice → Slice → Tables
tables_at hops even odd = tables hops.now even.now odd.now

abbrev pub tables_before : Moments → Moments → Moments → Tables
tables_before hops even odd = tables_at hops.entry even.entry odd.entry

abbrev pub tables_after : Moments → Moments → Moments → Tables
tables_after hops even odd = tables_at hops.exit even.exit odd.exit

-- ---- the lent tables: pairs, hops, bounds, skips, even, odd

abbrev pub lent_at : Slice → Slice → Slice → Slice → Slice → Slice → Lent
lent_at pairs hops bounds skips even odd = lent pairs.now (tables_at hops even odd) bounds.now skips.now

abbrev pub lent_before : Moments → Moments → Moments → Moments → Moments → Moments → Lent
lent_before pairs hops bounds skips even odd =
    lent_at pairs.entry hops.entry bounds.entry skips.entry even.entry odd.entry

abbrev pub lent_after : Moments → Moments → Moments → Moments → Moments → Moments → Lent
lent_after pairs hops bounds skips even odd =
    lent_at pairs.exit hops.exit bounds.exit skips.exit even.exit odd.exit

-- ---- the lengths: links, which is lent either way, so its list; pairs, hops, bounds, skips, even, odd

abbrev pub sizes_at : List ℕ → Slice → Slice → Slice → Slice → Slice → Slice → Sizes
sizes_at links pairs hops bounds skips even odd =
    sizes
    (length links)
    (length pairs.now)
    (length hops.now)
    (length bounds.now)
    (length skips.now)
    (length even.now)
    (length odd.now)
