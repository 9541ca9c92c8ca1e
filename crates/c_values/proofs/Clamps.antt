-- NO CALL CAN TELL A FIGURE THAT IS TOO LARGE FROM THE LARGEST OF ITS WIDTH: both are spoilt. So the code reads words of 64 bits into the
-- record's narrower fields. Assumes nothing.
use mathlib.Core.Path.{◌≡◌, refl, sym, ap, ap₂, ◌∙◌}
use mathlib.Core.Bool.{Bool, true, false, not, ◌&&◌}
use mathlib.Core.List.{List, [], ◌∷◌, ◌++◌}
use Prim.Native.Nat.{ℕ, ◌≤◌, ◌<◌, min}
use native.Mathlib.Nat.{lt_irrefl}
use native.Mathlib.Omega.{arith}
use lib.Dec.{eqb, ltb, leb}
use lib.ListN.{get_or, take, drop}
use borrow.Author.Tests.{leb-true, leb-false, eqb-true, ltb-true, ne_eqb, le-ltb, not-false}
use Rattle.std.proofs.lemmas.Bool.{and_parts}
use Rattle.lists.specs.Lists.{range, countb, first_of}
use Rattle.lists.proofs.Counts.{count_le_length}
use Rattle.lists.proofs.Members.{length-range, first_zero}
use Rattle.graph.specs.Network.{Network}
use Rattle.graph.specs.Distance.{connected}
use Rattle.graph.specs.Chart.{Pairs, count_pairs}
use Rattle.rows.specs.Rows.{table_bit}
use Rattle.map.specs.Memory.{base, yard_network}
use Rattle.checks.specs.Sound.{all_set, sound_links, sound_figures}
use Rattle.map.specs.Bits.{sound_link, sound_yards, sound_pair}
use Rattle.pairs.proofs.PairCounts.{pairs_few}
use Rattle.map.specs.Room.{Sizes, long_enough}
use Rattle.update.specs.Steps.{map_refusal}
use Rattle.c_values.specs.Words.{record_of, clamped_of}
use Rattle.lent_map.specs.Faults.{lent_faults, lent_refusal}

-- ---- tests against a number below the largest

module _ (n m k : ℕ) where
  eqb_clamp : k < m → eqb (min n m) k ≡ eqb n k
  eqb_clamp l = go (leb n m) refl
    where
      go : (t : Bool) → leb n m ≡ t → eqb (min n m) k ≡ eqb n k
      go true q = let x = leb-true n m q in let e : min n m ≡ n = omega (arith, x) in ap (λ (y : ℕ). eqb y k) e
      go false q =
          let x = leb-false n m q in
          ne_eqb (min n m) k (λ e. lt_irrefl 0 (omega (arith, x, l, e))) ∙ sym (ne_eqb n k (λ e. lt_irrefl 0 (omega (arith, x, l, e))))

  ltb_clamp : k ≤ m → ltb (min n m) k ≡ ltb n k
  ltb_clamp l = go (leb n m) refl
    where
      go : (t : Bool) → leb n m ≡ t → ltb (min n m) k ≡ ltb n k
      go true q = let x = leb-true n m q in let e : min n m ≡ n = omega (arith, x) in ap (λ (y : ℕ). ltb y k) e
      go false q = let x = leb-false n m q in le-ltb (min n m) k (omega (arith, x, l)) ∙ sym (le-ltb n k (omega (arith, x, l)))

-- ---- links and figures

module _ (G : Network) where
  few_open : countb G.is_open (range 256) ≤ 256
  few_open = omega (arith, count_le_length G.is_open (range 256), length-range 256)

  few_pairs : (P : Pairs) → count_pairs (range 256) P ≤ 65536
  few_pairs P = pairs_few 256 P

  pub links_clamp : (n : ℕ) → sound_links 256 G (min n 65535) ≡ sound_links 256 G n
  unfolding sound_links
  links_clamp n =
      ap (λ (t : Bool). t && sound_yards 256 G && all_set 256 G.linked (sound_link G))
      (eqb_clamp n 65535 (countb G.is_open (range 256)) (omega (arith, few_open)))

  pub figures_clamp : (P : Pairs) (c k : ℕ) → sound_figures 256 G P (min c 65535) (min k 4294967295) ≡ sound_figures 256 G P c k
  unfolding sound_figures
  figures_clamp P c k =
      ap₂ (λ (t u : Bool). all_set 256 P (sound_pair G) && t && u)
      (eqb_clamp k 4294967295 (count_pairs (range 256) P) (omega (arith, few_pairs P)))
      (ltb_clamp c 65535 256 (omega arith))

  -- a figure that passes is below the largest
  pub number_fits : (n : ℕ) → sound_links 256 G n ≡ true → min n 65535 ≡ n
  unfolding sound_links
  number_fits n e =
      let opened = countb G.is_open (range 256) in
      let a = and_parts (eqb n opened && sound_yards 256 G) (all_set 256 G.linked (sound_link G)) e in
      let q = eqb-true n opened (and_parts (eqb n opened) (sound_yards 256 G) a.0).0 in
      omega (arith, q, few_open)

  pub figures-fit : (P : Pairs) (c k : ℕ) → sound_figures 256 G P c k ≡ true → (min c 65535 ≡ c) × (min k 4294967295 ≡ k)
  unfolding sound_figures
  figures-fit P c k e =
      let a = and_parts (all_set 256 P (sound_pair G) && eqb k (count_pairs (range 256) P)) (ltb c 256) e in
      let b = and_parts (all_set 256 P (sound_pair G)) (eqb k (count_pairs (range 256) P)) a.0 in
      let q = eqb-true k (count_pairs (range 256) P) b.1 in
      let r = ltb-true c 256 a.1 in
      (omega (arith, r), omega (arith, q, few_pairs P))

-- ---- the refusals of a lent map

-- what the words mean as a network
abbrev pub network_in : List ℕ → List ℕ → Network
network_in l links = yard_network 4 (take 4 l) (take 4 (drop 7 l)) links

-- where the call looks at the links alone, before whatever it looks at besides
pub links_first_clamp : (l links : List ℕ) (long : Bool) (tests : List (Bool × ℕ))
    → first_of (lent_faults base long false (clamped_of l) links [] ++ tests) ≡ first_of (lent_faults base long false (record_of l) links [] ++ tests)
unfolding lent_faults clamped_of record_of
links_first_clamp l links long tests =
    ap (λ (t : Bool). first_of ((not long, 1) ∷ (not t, 2) ∷ (not (connected (network_in l links)), 3) ∷ tests)) (links_clamp (network_in l links) (get_or l 4 0))

module _ (l links pairs : List ℕ) (z : Sizes) where
  abbrev N : Network
  N = network_in l links

  abbrev P : Pairs
  P = table_bit 4 pairs

  pub map_clamp : map_refusal base (clamped_of l) links pairs z ≡ map_refusal base (record_of l) links pairs z
  unfolding map_refusal lent_refusal lent_faults clamped_of record_of
  map_clamp =
      ap₂
      (λ (t u : Bool). first_of ((not (long_enough base z), 1) ∷ (not (t && u), 2) ∷ (not (connected N), 3) ∷ []))
      (links_clamp N (get_or l 4 0))
      (figures_clamp N P (get_or l 5 0) (get_or l 6 0))

  -- where nothing refuses the map, the record read is the record lent
  pub clamped_is : map_refusal base (record_of l) links pairs z ≡ 0 → clamped_of l ≡ record_of l
  unfolding map_refusal lent_refusal lent_faults clamped_of record_of
  clamped_is e =
      let links-sound = sound_links 256 N (get_or l 4 0) in
      let figures-sound = sound_figures 256 N P (get_or l 5 0) (get_or l 6 0) in
      let a = first_zero (not (long_enough base z)) 0 ((not (links-sound && figures-sound), 2) ∷ (not (connected N), 3) ∷ []) e in
      let b = first_zero (not (links-sound && figures-sound)) 1 ((not (connected N), 3) ∷ []) a.1 in
      let c = and_parts links-sound figures-sound (not-false _ b.0) in
      let f = figures-fit N P (get_or l 5 0) (get_or l 6 0) c.1 in
      rw (number_fits N (get_or l 4 0) c.0, f.0, f.1)
