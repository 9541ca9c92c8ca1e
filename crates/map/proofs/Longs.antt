-- The seven sizes, by the code's seven tests. Assumes nothing.
use mathlib.Core.Path.{◌≡◌}
use mathlib.Core.Bool.{true, false, ◌&&◌, and_assoc, and-true as and-with-true}
use mathlib.Core.List.{List}
use Prim.Native.Nat.{ℕ, ◌≤◌, ◌<◌}
use lib.Dec.{leb}
use borrow.Author.Tests.{leb-true, le-leb, lt-leb}
use Rattle.std.proofs.lemmas.Bool.{and_parts}
use Rattle.lists.specs.Lists.{allb}
use Rattle.lists.proofs.Conditions.{all_fit}
use Rattle.map.specs.Memory.{Shape, places, table_words}
use Rattle.map.specs.Room.{Lent, Sizes, sizes, sizes_of, AreLong, long_enough, rounds_buffers}

pub are_long_lem : (K : Shape) (z : Sizes) → long_enough K z ≡ true → AreLong K z
unfolding long_enough
are_long_lem K z h =
    let a = leb (table_words K) z.links in
    let b = leb (table_words K) z.pairs in
    let c = leb (places K) z.hops in
    let d = leb (places K) z.bounds in
    let e = leb (places K) z.skips in
    let f = leb K.words z.even in
    let g = leb K.words z.odd in
    let g6 = and_parts (a && b && c && d && e && f) g h in
    let g5 = and_parts (a && b && c && d && e) f g6.0 in
    let g4 = and_parts (a && b && c && d) e g5.0 in
    let g3 = and_parts (a && b && c) d g4.0 in
    let g2 = and_parts (a && b) c g3.0 in
    let g1 = and_parts a b g2.0 in
    record {
      links = leb-true (table_words K) z.links g1.0;
      pairs = leb-true (table_words K) z.pairs g1.1;
      hops = leb-true (places K) z.hops g2.1;
      bounds = leb-true (places K) z.bounds g3.1;
      skips = leb-true (places K) z.skips g4.1;
      even = leb-true K.words z.even g5.1;
      odd = leb-true K.words z.odd g6.1;
    }

module _ (K : Shape) (l p h b s e o : ℕ) where
  abbrev z : Sizes
  z = sizes l p h b s e o

  pub short_links : l < table_words K → false ≡ long_enough K (sizes l p h b s e o)
  unfolding long_enough
  short_links a = rw (lt-leb (table_words K) l a)

  module _ (a : table_words K ≤ l) where
    pub short_pairs : p < table_words K → false ≡ long_enough K (sizes l p h b s e o)
    unfolding long_enough
    short_pairs x = rw (le-leb (table_words K) l a, lt-leb (table_words K) p x)

    module _ (c : table_words K ≤ p) where
      pub short_hops : h < places K → false ≡ long_enough K (sizes l p h b s e o)
      unfolding long_enough
      short_hops x = rw (le-leb (table_words K) l a, le-leb (table_words K) p c, lt-leb (places K) h x)

      module _ (d : places K ≤ h) where
        pub short_bounds : b < places K → false ≡ long_enough K (sizes l p h b s e o)
        unfolding long_enough
        short_bounds x = rw (le-leb (table_words K) l a, le-leb (table_words K) p c, le-leb (places K) h d, lt-leb (places K) b x)

        module _ (f : places K ≤ b) where
          pub short_skips : s < places K → false ≡ long_enough K (sizes l p h b s e o)
          unfolding long_enough
          short_skips x = rw (le-leb (table_words K) l a, le-leb (table_words K) p c, le-leb (places K) h d, le-leb (places K) b f, lt-leb (places K) s x)

          module _ (g : places K ≤ s) where
            pub short_even : e < K.words → false ≡ long_enough K (sizes l p h b s e o)
            unfolding long_enough
            short_even x = rw (le-leb (table_words K) l a, le-leb (table_words K) p c, le-leb (places K) h d, le-leb (places K) b f, le-leb (places K) s g, lt-leb K.words e x)

            pub long_odd : K.words ≤ e → leb K.words o ≡ long_enough K (sizes l p h b s e o)
            unfolding long_enough
            long_odd x = rw (le-leb (table_words K) l a, le-leb (table_words K) p c, le-leb (places K) h d, le-leb (places K) b f, le-leb (places K) s g, le-leb K.words e x)

-- the tests in the code's order: each that fails is the answer, and the last is
pub ruleset size_tests = (short_links, short_pairs, short_hops, short_bounds, short_skips, short_even, long_odd)

-- the code's test of the sizes, and the condition's
pub long_is : (K : Shape) (links : List ℕ) (B : Lent) → long_enough K (sizes_of links B) ≡ all_fit (rounds_buffers K links B)
unfolding long_enough sizes_of allb
long_is K links B = simp (and_assoc, and-with-true)
