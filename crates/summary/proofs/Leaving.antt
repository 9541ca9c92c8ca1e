-- What the searches from all destinations leave is what the network's report says. Assumes nothing.
use mathlib.Core.Path.{◌≡◌, refl, sym, ap, ap₂, ◌∙◌, subst}
use mathlib.Core.Logic.{◌⊎◌, inl, inr, ◌≢◌}
use mathlib.Core.Bool.{true}
use mathlib.Core.List.{List, [], ◌∷◌, Memᴰ}
use Prim.Native.Nat.{ℕ, ◌+◌, ◌*◌, ◌≤◌, ◌<◌}
use native.Mathlib.Omega.{arith}
use lib.Dec.{T, eqb, ltb}
use lib.ListN.{length, get_or, set, length-set}
use lib.Seq.{ext_get_or, get_or-set_same, get_or-set_other}
use borrow.Author.Tests.{eq-eqb, ne_eqb}
use Rattle.std.proofs.lemmas.Bool.{cases_lt, cases_eq}
use Rattle.lists.specs.Lists.{range, filterb, countb, sum_of, max_of, last_or, mapl, overwrite}
use Rattle.lists.proofs.Tests.{true→t}
use Rattle.lists.proofs.Members.{filter_out}
use Rattle.lists.proofs.Counts.{count_ext, length_count, sum_ext}
use Rattle.lists.proofs.Sums.{weight}
use Rattle.lists.proofs.Fills.{length_fill, fill_ext, overwrite_twice, fill_at, fill_rest, fill_length}
use Rattle.graph.specs.Network.{Network, delivers}
use Rattle.graph.specs.Distance.{vertices, unreached, dist}
use Rattle.graph.specs.Chart.{chart, destinations, ecc, count_pairs}
use Rattle.graph.specs.Correct.{IsNet}
use Rattle.graph.specs.Summary.{distance_sum, pair_number, ecc_count}
use Rattle.graph.proofs.Theorems.{distance_is, distance_below}
use Rattle.graph.proofs.Delivers.{delivers_open}
use Rattle.graph.proofs.SoundFigures.{ecc_below}
use Rattle.graph.proofs.Summary.{sum_alike}
use Rattle.rows.specs.Rows.{row_bit, table_bit, encode_row}
use Rattle.rows.proofs.Written.{table_zero, encode_row_length}
use Rattle.map.specs.Memory.{network_of, yard_network, table_network}
use Rattle.map.specs.Room.{Tables}
use Rattle.map.proofs.Theorems.{network_open_below, network_most, delivering_depots}
use Rattle.layers.specs.Layers.{depth_from, layer_bit, search_leaves}
use Rattle.layers.proofs.Theorems.{table_search, table_leaves}
use Rattle.summary.specs.Steps.{tally_of, count_one, count_all, search_all, totalled, total_by, total_over, AreNear}

-- ---- counts

-- one more at place e, of numbers written by a function
count_fill : (f : ℕ → ℕ) (n e : ℕ) (l : List ℕ) → e < n → n ≤ length l
    → count_one e (overwrite (mapl f (range n)) l) ≡ overwrite (mapl (λ i. f i + weight (eqb i e)) (range n)) l
unfolding count_one
count_fill f n e l low room = ext_get_or 0 new (overwrite (mapl g (range n)) l) size at
  where
    g : ℕ → ℕ
    g i = f i + weight (eqb i e)

    old : List ℕ
    old = overwrite (mapl f (range n)) l

    new : List ℕ
    new = set old e (get_or old e 0 + 1)

    size : length new ≡ length (overwrite (mapl g (range n)) l)
    size = length-set old e (get_or old e 0 + 1) ∙ fill_length f l n room ∙ sym (fill_length g l n room)

    at : (i : ℕ) → i < length new → get_or new i 0 ≡ get_or (overwrite (mapl g (range n)) l) i 0
    at i h = go (cases_eq i e) (cases_lt i n)
      where
        go : (i ≡ e) ⊎ (i ≢ e) → (i < n) ⊎ (n ≤ i) → get_or new i 0 ≡ get_or (overwrite (mapl g (range n)) l) i 0
        go (inl q) s =
            let a : get_or new i 0 ≡ get_or new e 0 = ap (λ (k : ℕ). get_or new k 0) q in
            let b : f i ≡ f e = ap f q in
            let c : weight (eqb i e) ≡ 1 = ap weight (eq-eqb i e q) in
            omega (
              arith,
              a,
              b,
              c,
              get_or-set_same old e (get_or old e 0 + 1) 0 (omega (arith, low, room, fill_length f l n room)),
              fill_at f l n e 0 low,
              fill_at g l n i 0 (omega (arith, q, low)),
            )
        go (inr d) (inl s) =
            let c : weight (eqb i e) ≡ 0 = ap weight (ne_eqb i e d) in
            omega (arith, c, get_or-set_other old e i (get_or old e 0 + 1) 0 d, fill_at f l n i 0 s, fill_at g l n i 0 s)
        go (inr d) (inr s) = get_or-set_other old e i (get_or old e 0 + 1) 0 d ∙ fill_rest f l n i 0 s ∙ sym (fill_rest g l n i 0 s)

-- all of them
count_all_lem : (E f : ℕ → ℕ) (n : ℕ) (us l : List ℕ) → ((u : ℕ) → Memᴰ u us → E u < n) → n ≤ length l
    → count_all E us (overwrite (mapl f (range n)) l) ≡ overwrite (mapl (λ e. f e + countb (λ u. eqb e (E u)) us) (range n)) l
unfolding count_all countb
count_all_lem E f n [] l low room = ap (λ (x : List ℕ). overwrite x l) (fill_ext f (λ e. f e + 0) n (λ e h. omega arith))
count_all_lem E f n (u ∷ us) l low room =
    ap (count_all E us) (count_fill f n (E u) l (low u (Memᴰ.head refl)) room)
    ∙ count_all_lem E (λ i. f i + weight (eqb i (E u))) n us l (λ v m. low v (Memᴰ.tail m)) room
    ∙ ap (λ (x : List ℕ). overwrite x l)
    (fill_ext (λ e. f e + weight (eqb e (E u)) + countb (λ u. eqb e (E u)) us) (λ e. f e + (weight (eqb e (E u)) + countb (λ u. eqb e (E u)) us)) n (λ e h. omega arith))

-- ---- tables: a search writes over all that the one before it wrote

leaves_twice : (W : ℕ) (G H : Network) (u v : ℕ) (B : Tables) → search_leaves W G v (search_leaves W H u B) ≡ search_leaves W G v B
unfolding search_leaves
leaves_twice W G H u v B =
    rw (
      overwrite_twice (mapl (dist G v) (range (64 * W))) (mapl (dist H u) (range (64 * W))) B.hops
          (omega (arith, length_fill (dist G v) (64 * W), length_fill (dist H u) (64 * W))),
      row 0 B.even,
      row 1 B.odd,
    )
  where
    row : (parity : ℕ) (old : List ℕ)
        → overwrite (encode_row W (layer_bit (dist G v) (depth_from G v) parity)) (overwrite (encode_row W (layer_bit (dist H u) (depth_from H u) parity)) old)
        ≡ overwrite (encode_row W (layer_bit (dist G v) (depth_from G v) parity)) old
    row parity old =
        overwrite_twice (encode_row W (layer_bit (dist G v) (depth_from G v) parity)) (encode_row W (layer_bit (dist H u) (depth_from H u) parity)) old
        (omega (arith, encode_row_length W (layer_bit (dist G v) (depth_from G v) parity), encode_row_length W (layer_bit (dist H u) (depth_from H u) parity)))

-- as the last one leaves them
search_last : (W : ℕ) (N G : Network) (u : ℕ) (us : List ℕ) (B : Tables)
    → ((v : ℕ) → Memᴰ v (u ∷ us) → (B : Tables) → search_leaves W N v B ≡ search_leaves W G v B)
    → search_all W N (u ∷ us) B ≡ search_leaves W G (last_or 0 (u ∷ us)) B
unfolding search_all last_or
search_last W N G u [] B same = same u (Memᴰ.head refl) B
search_last W N G u (v ∷ vs) B same =
    search_last W N G v vs (search_leaves W N u B) (λ w m. same w (Memᴰ.tail m))
    ∙ leaves_twice W G N u (last_or 0 (v ∷ vs)) B

-- ---- the network of a map

-- a row holds the depots that deliver
module _ (W : ℕ) (members yards links : List ℕ) {row : List ℕ}
    (kept : row ≡ overwrite (encode_row W (delivers (yard_network W members yards []))) members) where
  abbrev G : Network
  G = yard_network W members yards links

  abbrev N : Network
  N = table_network W links

  abbrev vs : List ℕ
  vs = vertices (network_of W row [])

  -- it lists the destinations
  destinations_are : destinations (chart G) ≡ vs
  destinations_are = sym (delivering_depots W members yards links row kept)

  -- and there are so many
  pub number_is : countb (table_bit W row 0) (range (64 * W)) ≡ countb (delivers (yard_network W members yards links)) (vertices (yard_network W members yards links))
  unfolding network_of destinations chart
  number_is =
      count_ext (table_bit W row 0) (row_bit W row) (range (64 * W)) (λ v m. table_zero W row v)
      ∙ sym (length_count (row_bit W row) (range (64 * W)))
      ∙ ap length (sym destinations_are)
      ∙ length_count (delivers G) (vertices G)

  delivered : (u : ℕ) → Memᴰ u vs → delivers G u ≡ true
  unfolding destinations chart
  delivered u m = (filter_out (delivers G) (vertices G) (subst (Memᴰ u) (sym destinations_are) m)).1

  opened : (u : ℕ) → Memᴰ u vs → T (G.is_open u)
  opened u m = delivers_open G u (true→t (delivered u m))

  listed : 0 < countb (delivers G) (vertices G) → 0 < length vs
  unfolding destinations chart
  listed some = omega (arith, some, ap length destinations_are, length_count (delivers G) (vertices G))

  module _ (most : W < 513) (net : IsNet (yard_network W members yards links)) where
    few : 64 * W < unreached
    few = omega arith

    -- a search over the table finds the network's distances, and leaves what they say
    same_dist : (u : ℕ) → Memᴰ u vs → dist N u ≡ dist G u
    unfolding network_of
    same_dist u m = table_search G net.sound (64 * W) (network_open_below W members links) few u (opened u m) W links refl refl

    same_leaves : (u : ℕ) → Memᴰ u vs → (B : Tables) → search_leaves W N u B ≡ search_leaves W G u B
    unfolding network_of
    same_leaves u m B = table_leaves G net.sound (64 * W) (network_open_below W members links) few u (opened u m) W links B refl refl

    pub are_near : AreNear W row links
    are_near u v mu mv =
        let ou = opened u mu in
        let e : dist N u v ≡ dist G u v = ap (λ (h : ℕ → ℕ). h v) (same_dist u mu) in
        omega (arith, e, distance_below G net u v (dist G u v) ou (distance_is G net u v ou (opened v mv)), network_most W members links)

    sum_is : sum_of (λ u. (tally_of (dist N u) u vs).sum) vs ≡ distance_sum (chart G)
    unfolding tally_of distance_sum chart
    sum_is =
        sum_alike vs (λ u. sum_of (dist N u) (filterb (λ v. ltb u v) vs)) (λ u. sum_of (dist G u) (filterb (λ v. ltb u v) vs))
        (λ u m. ap (λ (h : ℕ → ℕ). sum_of h (filterb (λ v. ltb u v) vs)) (same_dist u m))
        ∙ ap (λ (ds : List ℕ). sum_of (λ u. sum_of (dist G u) (filterb (λ v. ltb u v) ds)) ds) (sym destinations_are)

    pairs_are_lem : sum_of (λ u. (tally_of (dist N u) u vs).pairs) vs ≡ pair_number (chart G)
    unfolding tally_of pair_number count_pairs
    pairs_are_lem =
        sum_ext (λ u. length (filterb (λ v. ltb u v) vs)) (λ u. countb (λ v. ltb u v) vs) vs (λ u. length_count (λ v. ltb u v) vs)
        ∙ ap (λ (ds : List ℕ). sum_of (λ u. countb (λ v. ltb u v) ds) ds) (sym destinations_are)

    ecc_same : (u : ℕ) → Memᴰ u vs → max_of (dist N u) vs ≡ ecc (chart G) u
    unfolding ecc chart
    ecc_same u m = ap₂ max_of (same_dist u m) (sym destinations_are)

    ecc_low : (u : ℕ) → Memᴰ u vs → max_of (dist N u) vs < 64 * W
    unfolding chart
    ecc_low u m = omega (arith, ecc_same u m, ecc_below G net u (delivered u m), network_most W members links)

    counts_are : (l : List ℕ) → 64 * W ≤ length l
        → count_all (λ u. (tally_of (dist N u) u vs).ecc) vs (overwrite (mapl (λ e. 0) (range (64 * W))) l) ≡ overwrite (mapl (ecc_count (chart G)) (range (64 * W))) l
    unfolding tally_of ecc_count
    counts_are l room =
        count_all_lem (λ u. max_of (dist N u) vs) (λ e. 0) (64 * W) vs l ecc_low room
        ∙ ap (λ (x : List ℕ). overwrite x l)
        (fill_ext (λ e. 0 + countb (λ u. eqb e (max_of (dist N u) vs)) vs) (ecc_count (chart G)) (64 * W)
        (λ e h. let z : 0 + countb (λ u. eqb e (max_of (dist N u) vs)) vs ≡ countb (λ u. eqb e (max_of (dist N u) vs)) vs = omega arith in
        z
        ∙ count_ext (λ u. eqb e (max_of (dist N u) vs)) (λ u. eqb e (ecc (chart G) u)) vs (λ u m. ap (λ (x : ℕ). eqb e x) (ecc_same u m))
        ∙ ap (countb (λ u. eqb e (ecc (chart G) u))) (sym destinations_are)))

    tables_are : (B : Tables) → 0 < length vs → search_all W N vs B ≡ search_leaves W G (last_or 0 (destinations (chart G))) B
    tables_are B some = go vs refl some ∙ ap (λ (ds : List ℕ). search_leaves W G (last_or 0 ds) B) (sym destinations_are)
      where
        go : (us : List ℕ) → us ≡ vs → 0 < length us → search_all W N us B ≡ search_leaves W G (last_or 0 us) B
        go [] e l = absurd (omega (arith, l))
        go (u ∷ us) e l = search_last W N G u us B (λ v m. same_leaves v (subst (Memᴰ v) e m))

    -- THE REPORT OF THE MAP'S NETWORK
    pub total_is : (B : Tables) (l : List ℕ) → 64 * W ≤ length l → 0 < countb (delivers (yard_network W members yards links)) (vertices (yard_network W members yards links))
        → total_over W row links B l
        ≡ totalled (distance_sum (chart (yard_network W members yards links))) (pair_number (chart (yard_network W members yards links)))
        (search_leaves W (yard_network W members yards links) (last_or 0 (destinations (chart (yard_network W members yards links)))) B)
        (overwrite (mapl (ecc_count (chart (yard_network W members yards links))) (range (64 * W))) l)
    unfolding total_over total_by
    total_is B l room some = rw (sum_is, pairs_are_lem, tables_are B (listed some), counts_are l room)
