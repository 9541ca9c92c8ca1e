-- A search from any open code tells whether a sound network is connected. Assumes nothing.
use mathlib.Core.Path.{◌≡◌, refl, sym, ap, ◌∙◌}
use mathlib.Core.Logic.{◌⊎◌, inl, inr}
use mathlib.Core.Bool.{Bool, true, false, not, ◌||◌}
use mathlib.Core.List.{List}
use Prim.Native.Nat.{ℕ, ◌+◌, ◌*◌, ◌≤◌, ◌<◌}
use native.Mathlib.Nat.{lt_of_le_of_lt}
use native.Mathlib.Omega.{arith}
use lib.Dec.{T, ltb}
use lib.ListN.{length, get_or}
use borrow.Author.Tests.{ltb-true, lt-ltb, not-true, not-false}
use Rattle.std.proofs.lemmas.Bool.{cases_Bool, or_cases, or_right}
use Rattle.lists.specs.Lists.{range, allb}
use Rattle.lists.proofs.Tests.{t→true, true→t, clash, same_test}
use Rattle.lists.proofs.Members.{all_intro, all_elim, range_in, range_out}
use Rattle.lists.proofs.Fills.{fill_at}
use Rattle.graph.specs.Network.{Network, IsSound, Walk}
use Rattle.graph.specs.Distance.{vertices, unreached, dist, connected}
use Rattle.graph.proofs.Walks.{append, reverse}
use Rattle.graph.proofs.Distances.{dist_is, dist-reached, dist_below}
use Rattle.graph.proofs.Connected.{connected_iff}
use Rattle.rows.specs.Rows.{row_bit, table_bit}
use Rattle.layers.specs.Layers.{Searched, searched, search_leaves, search_table}
use Rattle.map.specs.Memory.{table_network, network_of}
use Rattle.map.specs.Room.{Tables, tables}
use Rattle.layers.proofs.Theorems.{table_search}
use Rattle.map.proofs.Theorems.{network_open_below, network_most}

-- ---- the two cases of `is_reached`

pub reached_closed : {r a : Bool} (b : Bool) → r ≡ a → not r ≡ true → true ≡ (not a || b)
reached_closed {r} {a} b e t = rw (← e, not-true r t)

pub reached_open : {r a b : Bool} → r ≡ a → not r ≡ false → b ≡ (not a || b)
reached_open {r} {a} {b} e t = rw (← e, not-false r t)

-- ---- the search

module _ (W : ℕ) (members links : List ℕ) (positive : 0 < W) (most : W < 513) (sound : IsSound (network_of W members links)) where
  abbrev G : Network
  G = network_of W members links

  inside : (v : ℕ) → T (G.is_open v) → v < 64 * W
  inside = network_open_below W members links

  few : 64 * W < unreached
  few = omega arith

  small : length (vertices G) < unreached
  small = lt_of_le_of_lt (network_most W members links) few

  -- no code is open
  pub none_open : ((v : ℕ) → 0 ≤ v → row_bit W members v ≡ false) → true ≡ connected (network_of W members links)
  unfolding network_of
  none_open h = sym ((connected_iff G sound small).1 (λ u v ou ov. absurd (clash (t→true (G.is_open u) ou) (h u (omega arith)))))

  -- every open code has a hop after a search from an open one
  module _ (s : ℕ) (o : row_bit W members s ≡ true) (hops : List ℕ) (is : (v : ℕ) → v < 64 * W → get_or hops v 0 ≡ dist G s v) where
    abbrev test : ℕ → Bool
    test v = not (row_bit W members v) || ltb (get_or hops v 0) unreached

    pub all_reached_is : allb (λ v. not (row_bit W members v) || ltb (get_or hops v 0) unreached) (range (64 * W)) ≡ connected (network_of W members links)
    unfolding network_of
    all_reached_is = same_test (allb test (range (64 * W))) (connected G) to from
      where
        reach : allb test (range (64 * W)) ≡ true → (v : ℕ) → T (G.is_open v) → (k : ℕ) × Walk G k s v
        reach h v ov =
            let l : v < 64 * W = inside v ov in
            let t = all_elim test (range (64 * W)) h (range_in (64 * W) l) in
            let r : ltb (dist G s v) unreached ≡ true = pick (or_cases (not (row_bit W members v)) (ltb (get_or hops v 0) unreached) t) (t→true (G.is_open v) ov) (is v l) in
            (dist G s v, (dist-reached G sound small s (true→t o) v (ltb-true (dist G s v) unreached r)).walk)
          where
            pick : (not (row_bit W members v) ≡ true) ⊎ (ltb (get_or hops v 0) unreached ≡ true) → row_bit W members v ≡ true → get_or hops v 0 ≡ dist G s v → ltb (dist G s v) unreached ≡ true
            pick (inl n) e q = absurd (clash e (not-true (row_bit W members v) n))
            pick (inr n) e q = ap (λ (x : ℕ). ltb x unreached) (sym q) ∙ n

        to : allb test (range (64 * W)) ≡ true → connected G ≡ true
        to h =
            (connected_iff G sound small).1
            (λ u v ou ov. let p = reach h u ou in let q = reach h v ov in (p.0 + q.0, append (reverse sound p.1) q.1))

        from : connected G ≡ true → allb test (range (64 * W)) ≡ true
        from h = all_intro test (range (64 * W)) (λ v m. at v (range_out (64 * W) m) (cases_Bool (row_bit W members v)))
          where
            at : (v : ℕ) → v < 64 * W → (row_bit W members v ≡ true) ⊎ (row_bit W members v ≡ false) → test v ≡ true
            at v l (inr e) = rw e
            at v l (inl e) =
                let w = (connected_iff G sound small).0 h s v (true→t o) (true→t e) in
                let d : dist G s v < length (vertices G) = dist_below G sound small s (true→t o) (dist G s v) v (dist_is G sound small s (true→t o) w.0 v w.1) in
                or_right (not (row_bit W members v)) _ (ap (λ (x : ℕ). ltb x unreached) (is v l) ∙ lt-ltb (dist G s v) unreached (omega (arith, small)))

  -- the hop table that a search over the table leaves
  pub hops_of : (s : ℕ) → row_bit W members s ≡ true → (B : Tables) (e : ℕ) (hops even odd : List ℕ) → searched e (tables hops even odd) ≡ search_table W links s B
      → (v : ℕ) → v < 64 * W → get_or hops v 0 ≡ dist (network_of W members links) s v
  unfolding search_table search_leaves network_of
  hops_of s o B e hops even odd is v l =
      ap (λ (x : Searched). get_or x.left.hops v 0) is ∙ fill_at (dist (table_network W links) s) B.hops (64 * W) v 0 l
      ∙ ap (λ (h : ℕ → ℕ). h v) (table_search G sound (64 * W) inside few s (open_is s o) W links refl links_are_lem)
    where
      open_is : (s : ℕ) → row_bit W members s ≡ true → T (G.is_open s)
      open_is s o = true→t o

      links_are_lem : G.linked ≡ table_bit W links
      links_are_lem = refl
