-- The refusals 4, 13 and 14 of a link one by one, by the answers of the code's tests; and the network with the link. Assumes nothing.
use mathlib.Core.Path.{◌≡◌, refl}
use mathlib.Core.Bool.{true, false, ◌&&◌, ◌||◌}
use mathlib.Core.List.{List}
use Prim.Native.Nat.{ℕ}
use lib.Dec.{eqb}
use borrow.Author.Tests.{eq-eqb, ne_eqb}
use Rattle.lists.specs.Lists.{first_of}
use Rattle.rows.specs.Rows.{row_bit, table_bit}
use Rattle.graph.specs.Network.{Network}
use Rattle.graph.specs.Linking.{add_link, link_faults}
use Rattle.map.specs.Memory.{network_of, yard_network}

module _ (W : ℕ) (members links : List ℕ) (a b : ℕ) where
  abbrev G : Network
  G = network_of W members links

  pub refused_first : row_bit W members a ≡ false → 4 ≡ first_of (link_faults G a b)
  unfolding link_faults first_of network_of
  refused_first p = rw p

  pub refused_second : row_bit W members a ≡ true → row_bit W members b ≡ false → 4 ≡ first_of (link_faults G a b)
  unfolding link_faults first_of network_of
  refused_second p q = rw (p, q)

  pub refused_itself : row_bit W members a ≡ true → row_bit W members b ≡ true → a ≡ b → 13 ≡ first_of (link_faults G a b)
  unfolding link_faults first_of network_of
  refused_itself p q e = rw (p, q, eq-eqb a b e)

  pub refused_linked : row_bit W members a ≡ true → row_bit W members b ≡ true → (a ≡ b → ⊥) → table_bit W links a b ≡ true → 14 ≡ first_of (link_faults G a b)
  unfolding link_faults first_of network_of
  refused_linked p q n h = rw (p, q, ne_eqb a b n, h)

  pub refused_neither : row_bit W members a ≡ true → row_bit W members b ≡ true → (a ≡ b → ⊥) → table_bit W links a b ≡ false → 0 ≡ first_of (link_faults G a b)
  unfolding link_faults first_of network_of
  refused_neither p q n h = rw (p, q, ne_eqb a b n, h)

-- the first test that fails is the answer
pub ruleset refusals = (refused_first, refused_second, refused_itself, refused_linked, refused_neither)

-- ---- what a caller has

module _ (W : ℕ) (members yards links : List ℕ) (a b : ℕ) where
  -- `link_refusal` is lent no yards, and its answer is that of the map with any
  pub link_faults_any : link_faults (network_of W members links) a b ≡ link_faults (yard_network W members yards links) a b
  unfolding link_faults network_of
  link_faults_any = refl

  -- what `link_codes` encodes is the links of the network with the link
  pub link_is : (add_link (yard_network W members yards links) a b).linked ≡ (λ u v. (eqb u a && eqb v b) || (eqb v a && eqb u b) || table_bit W links u v)
  unfolding add_link network_of
  link_is = refl
