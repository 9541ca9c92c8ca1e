-- THE MEMORY OF A NETWORK: its map written over a memory, read back and representing it; and the whole memory that a history leaves.
-- Assumes nothing.
use mathlib.Core.Path.{◌≡◌, refl, sym, ap, ◌∙◌, subst}
use mathlib.Core.Logic.{◌↔◌}
use mathlib.Core.Bool.{Bool}
use mathlib.Core.List.{List, Memᴰ}
use Prim.Native.Nat.{ℕ, ◌≤◌, ◌<◌}
use native.Mathlib.Omega.{arith}
use lib.Dec.{T}
use lib.ListN.{length}
use Rattle.lists.specs.Lists.{range, filterb, countb, overwrite}
use Rattle.lists.proofs.Members.{filter-ext, filter_out, range_out, length-range}
use Rattle.lists.proofs.Counts.{count_le_length, length_count}
use Rattle.rows.specs.Rows.{row_bit, table_bit, encode_row, encode_table}
use Rattle.rows.proofs.Written.{row_at, row_within, table_at, table_within, encode_row_length, encode_table_length}
use Rattle.graph.specs.Network.{Network, IsFarthest, delivers}
use Rattle.graph.specs.Distance.{vertices}
use Rattle.graph.specs.Chart.{diameter, Pairs, farthest, count_pairs}
use Rattle.graph.specs.Correct.{IsNet}
use Rattle.graph.proofs.Distances.{vertices_in}
use Rattle.graph.proofs.Theorems.{diameter_is, farthest_is}
use Rattle.map.specs.Memory.{Shape, places, table_words, network_of, yard_network, map_network}
use Rattle.map.specs.declared.Record.{Record}
use Rattle.rounds.proofs.Reading.{pairs_read}
use Rattle.update.specs.Memory.{Memory}
use Rattle.update.specs.Represents.{Represents}
use Rattle.lists.proofs.Buffers.{overwrite_all}
use Rattle.lists.proofs.Fills.{overwrite_twice}
use Rattle.graph.proofs.Delivers.{delivers_open}

-- ---- networks and memories are equal by their fields

pub network_path : {A B : Network} → A.depots ≡ B.depots → ((c : ℕ) → A.is_open c ≡ B.is_open c) → ((c : ℕ) → A.is_yard c ≡ B.is_yard c) → ((u v : ℕ) → A.linked u v ≡ B.linked u v) → A ≡ B
network_path p q y r = λ i. record { depots = p i; is_open = λ c. q c i; is_yard = λ c. y c i; linked = λ u v. r u v i }

pub record_path : {A B : Record} → A.members ≡ B.members → A.number ≡ B.number → A.chain ≡ B.chain → A.count ≡ B.count → A.yards ≡ B.yards → A ≡ B
record_path p q r s y = λ i. record { members = p i; number = q i; chain = r i; count = s i; yards = y i }

pub memory_path : {A B : Memory} → A.links ≡ B.links → A.pairs ≡ B.pairs → A.rec ≡ B.rec → A ≡ B
memory_path p q r = λ i. record { links = p i; pairs = q i; rec = r i }

-- ---- a network that a map of this shape can hold: its depots are codes of the map, in rising order

pub record IsHeld (K : Shape) (G : Network) : Type 0 where
  pub net : IsNet G
  pub depots : vertices G ≡ filterb G.is_open (range (places K))

-- the map of a network written over a memory's tables, open set and yard set
unfoldable pub write_map : Shape → Network → Memory → Memory
write_map K G M = record {
  links = overwrite (encode_table K.words G.linked) M.links;
  pairs = overwrite (encode_table K.words (farthest G)) M.pairs;
  rec = record {
    members = overwrite (encode_row K.words G.is_open) M.rec.members;
    number = length (vertices G);
    chain = diameter G;
    count = count_pairs (range (places K)) (farthest G);
    yards = overwrite (encode_row K.words G.is_yard) M.rec.yards;
  };
}

-- the same alone: the whole memory of the network
unfoldable pub memory_for : Shape → Network → Memory
memory_for K G = record {
  links = encode_table K.words G.linked;
  pairs = encode_table K.words (farthest G);
  rec = record {
    members = encode_row K.words G.is_open;
    number = length (vertices G);
    chain = diameter G;
    count = count_pairs (range (places K)) (farthest G);
    yards = encode_row K.words G.is_yard;
  };
}

-- a record and tables store a network with the chain D and the pairs P
pub record Stores (K : Shape) (G : Network) (D : ℕ) (P : Pairs) (rec : Record) (links stored : List ℕ) : Type 0 where
  pub network : map_network K rec links ≡ G
  pub pairs : table_bit K.words stored ≡ P
  pub number : rec.number ≡ length (vertices G)
  pub chain : rec.chain ≡ D
  pub count : rec.count ≡ count_pairs (range (places K)) P

-- they say a network, with its own figures
abbrev pub Says : Shape → Network → Record → List ℕ → List ℕ → Type 0
Says K G rec links stored = Stores K G (diameter G) (farthest G) rec links stored

module _ (K : Shape) (G : Network) (held : IsHeld K G) where
  -- ---- codes, links and pairs lie below the places

  pub open_below : (v : ℕ) → T (G.is_open v) → v < places K
  open_below v o =
      let m = subst (λ (l : List ℕ). Memᴰ v l) held.depots (vertices_in G held.net.sound v o) in
      range_out (places K) (filter_out G.is_open (range (places K)) m).0

  linked_open : (u v : ℕ) → T (G.linked u v) → T (G.is_open u) × T (G.is_open v)
  linked_open u v l = (held.net.sound.ends v u (held.net.sound.symmetric u v l), held.net.sound.ends u v l)

  farthest_open : (u v : ℕ) → T (farthest G u v) → T (G.is_open u) × T (G.is_open v)
  farthest_open u v h = let p = (farthest_is G held.net u v).0 h in (delivers_open G u p.first, delivers_open G v p.second)

  pub number_is : length (vertices G) ≡ countb G.is_open (range (places K))
  number_is = ap length held.depots ∙ length_count G.is_open (range (places K))

  pub depots_few : length (vertices G) ≤ places K
  depots_few = omega (arith, number_is, count_le_length G.is_open (range (places K)), length-range (places K))

  -- ---- WHAT IS WRITTEN IS READ

  pub network_read : (members yards links : List ℕ)
      → yard_network K.words (overwrite (encode_row K.words G.is_open) members) (overwrite (encode_row K.words G.is_yard) yards) (overwrite (encode_table K.words G.linked) links)
      ≡ G
  unfolding network_of
  network_read members yards links =
      network_path (filter-ext _ G.is_open (range (places K)) (λ c m. opens c) ∙ sym held.depots)
      opens
      (row_within K.words G.is_yard yards (λ c y. open_below c (held.net.sound.yards c y)))
      (table_within K.words G.linked links (λ u v l. let o = linked_open u v l in (open_below u o.0, open_below v o.1)))
    where
      opens : (c : ℕ) → row_bit K.words (overwrite (encode_row K.words G.is_open) members) c ≡ G.is_open c
      opens = row_within K.words G.is_open members open_below

  pub written_says : (M : Memory) → Says K G (write_map K G M).rec (write_map K G M).links (write_map K G M).pairs
  unfolding write_map
  written_says M = record {
    network = network_read M.rec.members M.rec.yards M.links;
    pairs = pairs_read K G open_below (farthest G) farthest_open M.pairs;
    number = refl;
    chain = refl;
    count = refl;
  }

  -- a written map represents the network
  pub written_represents : (M : Memory) → Represents K (write_map K G M) G
  unfolding write_map
  written_represents M = record {
    members = λ c l. row_at K.words G.is_open M.rec.members c l;
    number = refl;
    links = λ u v p q. table_at K.words G.linked M.links u v p q;
    chain = diameter_is G held.net;
    pairs = λ u v p q. subst (λ (b : Bool). T b ↔ IsFarthest G (delivers G) u v) (sym (table_at K.words (farthest G) M.pairs u v p q)) (farthest_is G held.net u v);
    count = ap (count_pairs (range (places K))) (sym (pairs_read K G open_below (farthest G) farthest_open M.pairs));
    yards = λ c l. row_at K.words G.is_yard M.rec.yards c l;
  }

-- ---- the memory of a network is its map written over itself

pub links_length : (K : Shape) (G : Network) → length (memory_for K G).links ≡ table_words K
unfolding memory_for
links_length K G = encode_table_length K.words G.linked

pub pairs_length : (K : Shape) (G : Network) → length (memory_for K G).pairs ≡ table_words K
unfolding memory_for
pairs_length K G = encode_table_length K.words (farthest G)

pub memory_written : (K : Shape) (G : Network) → memory_for K G ≡ write_map K G (memory_for K G)
unfolding memory_for write_map
memory_written K G =
    memory_path
    (sym (overwrite_all (encode_table K.words G.linked) (encode_table K.words G.linked) refl))
    (sym (overwrite_all (encode_table K.words (farthest G)) (encode_table K.words (farthest G)) refl))
    (record_path (sym (overwrite_all (encode_row K.words G.is_open) (encode_row K.words G.is_open) refl)) refl refl refl
    (sym (overwrite_all (encode_row K.words G.is_yard) (encode_row K.words G.is_yard) refl)))

-- a map written over a map
table_twice : (W : ℕ) (f g : ℕ → ℕ → Bool) (old : List ℕ) → overwrite (encode_table W f) (overwrite (encode_table W g) old) ≡ overwrite (encode_table W f) old
table_twice W f g old = overwrite_twice (encode_table W f) (encode_table W g) old (omega (arith, encode_table_length W f, encode_table_length W g))

row_twice : (W : ℕ) (f g : ℕ → Bool) (old : List ℕ) → overwrite (encode_row W f) (overwrite (encode_row W g) old) ≡ overwrite (encode_row W f) old
row_twice W f g old = overwrite_twice (encode_row W f) (encode_row W g) old (omega (arith, encode_row_length W f, encode_row_length W g))

pub written_twice : (K : Shape) (G H : Network) (M : Memory) → write_map K H (write_map K G M) ≡ write_map K H M
unfolding write_map
written_twice K G H M =
    memory_path
    (table_twice K.words H.linked G.linked M.links)
    (table_twice K.words (farthest H) (farthest G) M.pairs)
    (record_path (row_twice K.words H.is_open G.is_open M.rec.members) refl refl refl (row_twice K.words H.is_yard G.is_yard M.rec.yards))
