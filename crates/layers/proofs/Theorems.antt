-- THE THEOREMS of this crate: a search over a table finds the distances of the network that the table means, its last layer lies at the greatest
-- distance of an open depot (without yards the eccentricity), and the layer rows hold exactly the depots at their distance. Assumes nothing.
use mathlib.Core.Path.{◌≡◌, refl, sym, ap, ap₂, ◌∙◌, subst, fun_ext}
use mathlib.Core.Logic.{◌⊎◌, inl, inr, ◌↔◌}
use mathlib.Core.Bool.{Bool, true, false, cond, ◌&&◌}
use mathlib.Core.List.{List, Memᴰ}
use Prim.Native.Nat.{ℕ, zero, suc, ◌*◌, ◌≤◌, ◌<◌, zero-le}
use native.Mathlib.Nat.{le_antisymm, lt_irrefl, lt_of_le_of_lt}
use native.Mathlib.Omega.{arith}
use lib.Dec.{T, eqb, ltb}
use lib.ListN.{length}
use borrow.Author.Tests.{ltb-true, lt-ltb, eqb-true, eq-eqb}
use Rattle.std.proofs.lemmas.Bool.{cases_Bool, and_parts}
use Rattle.lists.specs.Lists.{range, anyb, max_of, overwrite}
use Rattle.lists.proofs.Tests.{t→true, true→t, clash, same_test}
use Rattle.lists.proofs.Members.{any_intro, any_elim, range_in}
use Rattle.lists.proofs.Counts.{max_ge, max_le_of, max_at}
use Rattle.lists.proofs.Distinct.{distinct-length}
use Rattle.graph.specs.Network.{Network, IsSound, IsDist, IsEcc, HasNoYard}
use Rattle.graph.specs.Distance.{vertices, unreached, next_hop, hops, dist}
use Rattle.graph.specs.Chart.{chart, ecc}
use Rattle.graph.specs.Correct.{IsNet}
use Rattle.graph.proofs.Walks.{dist_unique, walk_open}
use Rattle.graph.proofs.Distances.{layers, hops-dist, vertices_in, vertices_out, dist_is, dist-reached, dist_below}
use Rattle.graph.proofs.Layers.{hops-range}
use Rattle.graph.proofs.Connected.{hop_open, hop_closed}
use Rattle.graph.proofs.Charts.{greatest_unique}
use Rattle.graph.proofs.Yards.{no_yard_delivers}
use Rattle.graph.proofs.Theorems.{eccentricity_is}
use Rattle.rows.specs.Rows.{row_bit, table_bit, encode_row}
use Rattle.rows.proofs.Written.{row_at}
use Rattle.layers.specs.Layers.{depth_from, search_leaves}
use Rattle.map.specs.Memory.{table_network}
use Rattle.map.specs.Room.{Tables}
use Rattle.layers.proofs.Turning.{table_vertices, table_dist}

-- ---- the network of a table alone, and one with the same links

module _ (G : Network) (sound : IsSound G) (n : ℕ) (inside : (v : ℕ) → T (G.is_open v) → v < n) (few : n < unreached) (s : ℕ) (o : T (G.is_open s)) where
  abbrev vs : List ℕ
  vs = vertices G

  -- there are no more depots than codes
  enough : length (vertices G) ≤ n
  enough = distinct-length (vertices G) n sound.once (λ v h. inside v (true→t (sound.listed v ∙ h)))

  small : length (vertices G) < unreached
  small = lt_of_le_of_lt enough few

  -- closed codes have no links, so that it is the same to look for neighbours among all codes or among the open ones
  near_same : (h : ℕ → ℕ) (k v : ℕ) → anyb (λ w. eqb (h w) k && G.linked w v) (range n) ≡ anyb (λ w. eqb (h w) k && G.linked w v) (vertices G)
  near_same h k v = same_test (anyb p (range n)) (anyb p (vertices G)) to from
    where
      p : ℕ → Bool
      p w = eqb (h w) k && G.linked w v

      to : anyb p (range n) ≡ true → anyb p (vertices G) ≡ true
      to e =
          let x = any_elim p (range n) e in
          let l = true→t (and_parts (eqb (h x.0) k) (G.linked x.0 v) x.2).1 in
          any_intro p (vertices G) (vertices_in G sound x.0 (sound.ends v x.0 (sound.symmetric x.0 v l))) x.2

      from : anyb p (vertices G) ≡ true → anyb p (range n) ≡ true
      from e = let x = any_elim p (vertices G) e in any_intro p (range n) (range_in n (inside x.0 (vertices_out G sound x.1))) x.2

  hops_same : (k : ℕ) → hops (range n) G.linked s k ≡ hops (vertices G) G.linked s k
  unfolding hops next_hop
  hops_same zero = refl
  hops_same (suc k) =
      fun_ext (λ v.
      ap (λ (h : ℕ → ℕ). cond (ltb (h v) unreached) (h v) (cond (anyb (λ w. eqb (h w) k && G.linked w v) (range n)) (suc k) unreached)) (hops_same k)
      ∙ ap (λ (b : Bool). cond (ltb (hops (vertices G) G.linked s k v) unreached) (hops (vertices G) G.linked s k v) (cond b (suc k) unreached)) (near_same (hops (vertices G) G.linked s k) k v))

  -- as many layers as codes, or as depots
  hops_enough : (v : ℕ) → hops (vertices G) G.linked s n v ≡ dist G s v
  unfolding dist
  hops_enough v = go (hops-range (vertices G) G.linked s n v) (hops-range (vertices G) G.linked s (length (vertices G)) v)
    where
      long : hops (vertices G) G.linked s n v < unreached → hops (vertices G) G.linked s n v ≡ dist G s v
      long l =
          let d = ((layers G sound (vertices G) (vertices_in G sound) s n few).reached v l).1 in
          dist_unique d (dist_is G sound small s o (hops (vertices G) G.linked s n v) v d.walk)

      short : dist G s v < unreached → hops (vertices G) G.linked s n v ≡ dist G s v
      short l =
          let d = dist-reached G sound small s o v l in
          dist_unique (hops-dist G sound (vertices G) (vertices_in G sound) s o n enough few (dist G s v) v d.walk) d

      go : (hops (vertices G) G.linked s n v ≤ n) ⊎ (hops (vertices G) G.linked s n v ≡ unreached)
          → (hops (vertices G) G.linked s (length (vertices G)) v ≤ length (vertices G)) ⊎ (hops (vertices G) G.linked s (length (vertices G)) v ≡ unreached)
          → hops (vertices G) G.linked s n v ≡ dist G s v
      go (inl l) b = long (omega arith)
      go (inr e) (inl l) = short (omega (arith, enough))
      go (inr e) (inr f) = e ∙ sym f

  -- A SEARCH OVER THE TABLE FINDS THE NETWORK'S DISTANCES
  pub table_search : (W : ℕ) (links : List ℕ) → n ≡ 64 * W → G.linked ≡ table_bit W links → dist (table_network W links) s ≡ dist G s
  table_search W links a b = fun_ext (λ v.
      table_dist W links s v
      ∙ ap₂ (λ (n : ℕ) (adjacent : ℕ → ℕ → Bool). hops (range n) adjacent s n v) (sym a) (sym b)
      ∙ ap (λ (h : ℕ → ℕ). h v) (hops_same n)
      ∙ hops_enough v)

  -- the last layer of either is the same: what is closed is not reached
  pub table_depth : (W : ℕ) (links : List ℕ) → n ≡ 64 * W → G.linked ≡ table_bit W links → depth_from (table_network W links) s ≡ depth_from G s
  unfolding depth_from
  table_depth W links a b =
      ap₂ (λ (vs : List ℕ) (h : ℕ → ℕ). max_of (λ v. cond (ltb (h v) unreached) (h v) 0) vs) (table_vertices W links) (table_search W links a b)
      ∙ ap (λ (m : ℕ). max_of f (range m)) (sym a)
      ∙ le_antisymm upper lower
    where
      f : ℕ → ℕ
      f v = cond (ltb (dist G s v) unreached) (dist G s v) 0

      upper : max_of f (range n) ≤ max_of f (vertices G)
      upper = max_le_of f (range n) (max_of f (vertices G)) (λ v m. go v (ltb (dist G s v) unreached) refl)
        where
          go : (v : ℕ) (b : Bool) → ltb (dist G s v) unreached ≡ b → cond b (dist G s v) 0 ≤ max_of f (vertices G)
          go v false e = zero-le
          go v true e =
              let w = (dist-reached G sound small s o v (ltb-true (dist G s v) unreached e)).walk in
              let l : f v ≤ max_of f (vertices G) = max_ge f (vertices G) (vertices_in G sound v (walk_open sound o w)) in
              let q : f v ≡ dist G s v = ap (λ (c : Bool). cond c (dist G s v) 0) e in
              omega arith

      lower : max_of f (vertices G) ≤ max_of f (range n)
      lower = max_le_of f (vertices G) (max_of f (range n)) (λ v m. max_ge f (range n) (range_in n (inside v (vertices_out G sound m))))

  pub table_leaves : (W : ℕ) (links : List ℕ) (B : Tables) → n ≡ 64 * W → G.linked ≡ table_bit W links
      → search_leaves W (table_network W links) s B ≡ search_leaves W G s B
  unfolding search_leaves
  table_leaves W links B a b = rw (table_search W links a b, table_depth W links a b)

-- ---- by the published words, on a connected network

module _ (G : Network) (net : IsNet G) (s : ℕ) (o : T (G.is_open s)) where
  hop_low : (v : ℕ) → T (G.is_open v) → dist G s v < unreached
  hop_low v ov = omega (arith, dist_below G net.sound net.small s o (dist G s v) v (hop_open G net s o v ov), net.small)

  -- the last layer lies at the greatest distance of an open depot, yard or not
  pub depth_is : IsEcc G G.is_open s (depth_from G s)
  unfolding depth_from
  depth_is = record {
    upper = λ k x. upper k x.0 x.1 x.2;
    attained = at (max_at f (vertices G));
  }
    where
      f : ℕ → ℕ
      f v = cond (ltb (dist G s v) unreached) (dist G s v) 0

      plain : (v : ℕ) → T (G.is_open v) → f v ≡ dist G s v
      plain v ov = ap (λ (b : Bool). cond b (dist G s v) 0) (lt-ltb (dist G s v) unreached (hop_low v ov))

      upper : (k v : ℕ) → T (G.is_open v) → IsDist G s v k → k ≤ max_of f (vertices G)
      upper k v ov d =
          let e : k ≡ f v = dist_unique d (hop_open G net s o v ov) ∙ sym (plain v ov) in
          let g : f v ≤ max_of f (vertices G) = max_ge f (vertices G) (vertices_in G net.sound v ov) in
          omega arith

      at : (max_of f (vertices G) ≡ 0) ⊎ ((v : ℕ) × Memᴰ v (vertices G) × (max_of f (vertices G) ≡ f v))
          → (max_of f (vertices G) ≡ 0) ⊎ ((v : ℕ) × T (G.is_open v) × IsDist G s v (max_of f (vertices G)))
      at (inl z) = inl z
      at (inr x) =
          let ov = vertices_out G net.sound x.1 in
          inr (x.0, ov, subst (λ (d : ℕ). IsDist G s x.0 d) (sym (x.2 ∙ plain x.0 ov)) (hop_open G net s o x.0 ov))

  pub depth_low : depth_from G s < unreached
  depth_low = go depth_is.attained
    where
      go : (depth_from G s ≡ 0) ⊎ ((v : ℕ) × T (G.is_open v) × IsDist G s v (depth_from G s)) → depth_from G s < unreached
      go (inl z) = omega arith
      go (inr x) = subst (λ (d : ℕ). d < unreached) (dist_unique (hop_open G net s o x.0 x.1) x.2) (hop_low x.0 x.1)

  -- without yards that is the eccentricity
  pub depth_ecc : HasNoYard G → depth_from G s ≡ ecc (chart G) s
  depth_ecc none =
      greatest_unique depth_is
      (subst (λ (Q : ℕ → Bool). IsEcc G Q s (ecc (chart G) s)) (fun_ext (λ v. no_yard_delivers G none v)) (eccentricity_is G net s o))

  -- a row written with the depots at distance k holds exactly those
  pub layer_is_lem : (W k : ℕ) (old : List ℕ) → k < unreached → (v : ℕ) → v < 64 * W
      → T (row_bit W (overwrite (encode_row W (λ x. eqb (dist G s x) k)) old) v) ↔ IsDist G s v k
  layer_is_lem W k old low v l = (to, back)
    where
      read : row_bit W (overwrite (encode_row W (λ x. eqb (dist G s x) k)) old) v ≡ eqb (dist G s v) k
      read = row_at W (λ x. eqb (dist G s x) k) old v l

      at : eqb (dist G s v) k ≡ true → (G.is_open v ≡ true) ⊎ (G.is_open v ≡ false) → IsDist G s v k
      at h (inl ov) = subst (λ (d : ℕ). IsDist G s v d) (eqb-true (dist G s v) k h) (hop_open G net s o v (true→t ov))
      at h (inr cv) =
          let p : dist G s v ≡ k = eqb-true (dist G s v) k h in
          let q : dist G s v ≡ unreached = hop_closed G net s o v (λ t. clash (t→true (G.is_open v) t) cv) in
          absurd (lt_irrefl k (omega arith))

      to : T (row_bit W (overwrite (encode_row W (λ x. eqb (dist G s x) k)) old) v) → IsDist G s v k
      to h = at (sym read ∙ t→true _ h) (cases_Bool (G.is_open v))

      back : IsDist G s v k → T (row_bit W (overwrite (encode_row W (λ x. eqb (dist G s x) k)) old) v)
      back d = true→t (read ∙ eq-eqb (dist G s v) k (dist_unique (hop_open G net s o v (walk_open net.sound o d.walk)) d))
