-- WHAT A SEARCH OVER A TABLE LEFT OF THE TARGETS: none lies past the last layer, which the row of the depth's parity holds, and so the greatest hop of a
-- target is the greatest distance over the table. Of the depots that deliver that is the eccentricity. Assumes nothing.
use mathlib.Core.Path.{◌≡◌, refl, sym, ap, ap₂, ◌∙◌}
use mathlib.Core.Logic.{◌⊎◌, inl, inr, ◌≢◌}
use mathlib.Core.Bool.{Bool, true, false, cond, not, ◌&&◌}
use mathlib.Core.List.{List, [], Memᴰ}
use Prim.Native.Nat.{ℕ, ◌-◌, ◌*◌, ◌%◌, ◌≤◌, ◌<◌, min}
use native.Mathlib.Omega.{arith}
use lib.Dec.{T, eqb, ltb}
use lib.ListN.{length, get_or, take, drop, length-take}
use borrow.Author.Tests.{eqb-true, eq-eqb, ne_eqb, lt-ltb}
use Rattle.std.proofs.lemmas.Bool.{cases_eq, cases_lt}
use Rattle.lists.specs.Lists.{range, max_of, overwrite}
use Rattle.lists.proofs.Tests.{true→t}
use Rattle.lists.proofs.Members.{filter_in, filter_out, range_in, range_out}
use Rattle.lists.proofs.Counts.{max_ge, max_ext}
use Rattle.lists.proofs.Fills.{fill_at}
use Rattle.graph.specs.Network.{Network, IsDist, delivers}
use Rattle.graph.specs.Distance.{vertices, unreached, dist}
use Rattle.graph.specs.Chart.{chart, ecc}
use Rattle.graph.specs.Correct.{IsNet}
use Rattle.graph.proofs.Theorems.{eccentricity_is, distance_below}
use Rattle.rows.specs.Rows.{row_bit, encode_row}
use Rattle.rows.proofs.Written.{row_at, row_past, row_of_table, table_zero}
use Rattle.map.specs.Memory.{network_of, yard_network, table_network}
use Rattle.map.specs.Room.{Tables, tables}
use Rattle.map.proofs.Theorems.{network_open_below, delivering_depots}
use Rattle.layers.specs.Layers.{depth_from, layer_bit, last_layer, Searched, searched, search_leaves, search_table}
use Rattle.layers.proofs.Parts.{part_is}
use Rattle.layers.proofs.Theorems.{table_search}
use Rattle.targets.specs.Hops.{IsLastLayer}

-- ---- over a table

module _ (W : ℕ) (targets links : List ℕ) (u : ℕ) where
  abbrev N : Network
  N = table_network W links

  abbrev vs : List ℕ
  vs = vertices (network_of W targets [])

  -- a target's code is one of the map's
  pub target_below : (v : ℕ) → Memᴰ v (vertices (network_of W targets [])) → v < 64 * W
  unfolding network_of
  target_below v m = range_out (64 * W) (filter_out (row_bit W targets) (range (64 * W)) m).0

  module _ (B : Tables) {d : ℕ} {hops even odd : List ℕ} (is : searched d (tables hops even odd) ≡ search_table W links u B) where
    pub search_leaves_lem : tables hops even odd ≡ search_leaves W (table_network W links) u B
    unfolding search_table
    search_leaves_lem = ap (λ (x : Searched). x.left) is

    pub hop_is : (v : ℕ) → v < 64 * W → get_or hops v 0 ≡ dist (table_network W links) u v
    unfolding search_leaves
    hop_is v l = ap (λ (t : Tables). get_or t.hops v 0) search_leaves_lem ∙ fill_at (dist N u) B.hops (64 * W) v 0 l

    depth_of_lem : d ≡ depth_from N u
    unfolding search_table
    depth_of_lem = ap (λ (x : Searched). x.depth) is

    -- what the greatest hop of a target needs: none lies past the last layer, and the row of the depth's parity holds that
    module _ (reached : max_of (dist (table_network W links) u) (vertices (network_of W targets [])) < unreached) where
      hop_most : (v : ℕ) → row_bit W targets v ≡ true → get_or hops v 0 ≤ d
      unfolding network_of table_network depth_from
      hop_most v t =
          let l : v < 64 * W = network_open_below W targets [] v (true→t t) in
          let a : dist N u v ≤ max_of (dist N u) vs = max_ge (dist N u) vs (filter_in (row_bit W targets) (range (64 * W)) (range_in (64 * W) l) t) in
          let f : ℕ → ℕ = λ v. cond (ltb (dist N u v) unreached) (dist N u v) 0 in
          let b : f v ≤ max_of f (range (64 * W)) = max_ge f (range (64 * W)) (range_in (64 * W) l) in
          let c : f v ≡ dist N u v = ap (λ (t : Bool). cond t (dist N u v) 0) (lt-ltb (dist N u v) unreached (omega (arith, reached, a))) in
          omega (arith, hop_is v l, b, c, depth_of_lem)

      hop_last : (parity : ℕ) (row old : List ℕ) → row ≡ overwrite (encode_row W (layer_bit (dist N u) (depth_from N u) parity)) old → d % 2 ≡ parity
          → (v : ℕ) → row_bit W (take W row) v ≡ true → get_or hops v 0 ≡ d
      unfolding network_of layer_bit
      hop_last parity row old r q v t =
          let l : v < 64 * W = network_open_below W (take W row) [] v (true→t t) in
          let here : row_bit W row v ≡ eqb (dist N u v) (depth_from N u) =
          ap (λ (x : List ℕ). row_bit W x v) r ∙ row_at W (layer_bit (dist N u) (depth_from N u) parity) old v l
          ∙ ap (λ (x : Bool). cond x (eqb (dist N u v) (depth_from N u)) (not (eqb (depth_from N u) 0) && eqb (dist N u v) (depth_from N u - 1)))
          (eq-eqb (depth_from N u % 2) parity (ap (λ (k : ℕ). k % 2) (sym depth_of_lem) ∙ q)) in
          hop_is v l ∙ eqb-true (dist N u v) (depth_from N u) (sym here ∙ sym (part_is W row v) ∙ t) ∙ sym depth_of_lem

      pub last_is : {last : List ℕ} → last ≡ last_layer W d even odd → IsLastLayer W targets last hops d
      unfolding last_layer search_leaves
      last_is {last} q = record { most = hop_most; here = λ v t. go (cases_eq (d % 2) 0) v (ap (λ (l : List ℕ). row_bit W l v) (sym q) ∙ t) }
        where
          go : (d % 2 ≡ 0) ⊎ (d % 2 ≢ 0) → (v : ℕ) → row_bit W (take W (cond (eqb (d % 2) 0) even odd)) v ≡ true → get_or hops v 0 ≡ d
          go (inl z) v t =
              hop_last 0 even B.even (ap (λ (x : Tables). x.even) search_leaves_lem) z v
              (ap (λ (x : Bool). row_bit W (take W (cond x even odd)) v) (sym (eq-eqb (d % 2) 0 z)) ∙ t)
          go (inr n) v t =
              hop_last 1 odd B.odd (ap (λ (x : Tables). x.odd) search_leaves_lem) (omega (arith, n)) v
              (ap (λ (x : Bool). row_bit W (take W (cond x even odd)) v) (sym (ne_eqb (d % 2) 0 n)) ∙ t)

    -- the hops are the distances over the link table
    pub ecc_is : {ecc : ℕ} → ecc ≡ max_of (λ v. get_or hops v 0) (vertices (network_of W targets []))
        → ecc ≡ max_of (dist (table_network W links) u) (vertices (network_of W targets []))
    ecc_is far = far ∙ max_ext (λ v. get_or hops v 0) (dist N u) vs (λ v m. hop_is v (target_below v m))

-- ---- of the depots that deliver

module _ (W : ℕ) (few : 64 * W < unreached) (members yards links : List ℕ) (net : IsNet (yard_network W members yards links))
    (s : ℕ) (o : T ((yard_network W members yards links).is_open s)) where
  abbrev M : Network
  M = yard_network W members yards links

  ecc_low : ecc (chart M) s < unreached
  ecc_low = go (eccentricity_is M net s o).attained
    where
      go : (ecc (chart M) s ≡ 0) ⊎ ((v : ℕ) × T (delivers M v) × IsDist M s v (ecc (chart M) s)) → ecc (chart M) s < unreached
      go (inl z) = omega (arith, z)
      go (inr x) = omega (arith, distance_below M net s x.0 (ecc (chart M) s) o x.2, net.small)

  module _ {row : List ℕ} (kept : row ≡ overwrite (encode_row W (delivers (yard_network W members yards []))) members) where
    pub ecc_over : max_of (dist (table_network W links) s) (vertices (network_of W row [])) ≡ ecc (chart (yard_network W members yards links)) s
    unfolding ecc chart network_of
    ecc_over =
        ap₂ max_of
        (table_search M net.sound (64 * W) (network_open_below W members links) few s o W links refl refl)
        (delivering_depots W members yards links row kept)

    pub all_reached_lem : max_of (dist (table_network W links) s) (vertices (network_of W row [])) < unreached
    all_reached_lem = omega (arith, ecc_over, ecc_low)
