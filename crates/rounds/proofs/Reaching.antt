-- What a search of the network says of its start, by the rows and the hop table that it leaves. Assumes nothing.
use mathlib.Core.Path.{◌≡◌, refl, sym, ap, ap₂, ◌∙◌, subst, fun_ext}
use mathlib.Core.Logic.{◌⊎◌, inl, inr}
use mathlib.Core.Bool.{Bool, true, false, cond, not, ◌&&◌, ◌||◌}
use mathlib.Core.List.{List, [], Memᴰ}
use Prim.Native.Nat.{ℕ, ◌*◌, ◌%◌, ◌<◌}
use native.Mathlib.Omega.{arith}
use lib.Dec.{T, eqb, ltb}
use lib.ListN.{get_or}
use borrow.Author.Tests.{eqb-true, eqb-false, eq-eqb, ne_eqb}
use Rattle.std.proofs.lemmas.Bool.{cases_Bool}
use Rattle.lists.specs.Lists.{range, max_of, overwrite}
use Rattle.lists.proofs.Tests.{true→t}
use Rattle.lists.proofs.Members.{filter_out, range_out}
use Rattle.lists.proofs.Counts.{max_ext}
use Rattle.lists.proofs.Fills.{fill_at}
use Rattle.graph.specs.Network.{Network}
use Rattle.graph.specs.Distance.{vertices, unreached, dist}
use Rattle.graph.specs.Chart.{chart, ecc}
use Rattle.graph.specs.Correct.{IsNet}
use Rattle.graph.proofs.Connected.{hop_open}
use Rattle.rows.specs.Rows.{row_bit, table_bit, encode_row}
use Rattle.rows.proofs.Written.{row_at, row_read}
use Rattle.layers.specs.Layers.{depth_from, layer_bit, last_layer, Searched, searched, search_leaves, search_table}
use Rattle.layers.proofs.Parts.{part_is}
use Rattle.layers.proofs.Theorems.{depth_is, table_depth, table_leaves}
use Rattle.map.specs.Memory.{network_of}
use Rattle.map.specs.Room.{Tables, tables}
use Rattle.map.proofs.Theorems.{network_open_below}
use Rattle.targets.specs.Hops.{IsLastLayer}
use Rattle.targets.specs.Reach.{Reached, farthest_of, is_farthest, reach_of}
use Rattle.targets.proofs.Partners.{farthest_is}
use Rattle.pairs.specs.Pairs.{Tally, tally_of, pairs_with, settle_of}
use Rattle.rounds.specs.Workspace.{reach_in, Absorbed, taking, absorbing}
use Rattle.rounds.specs.Targets.{target_network, AreTargets, Spans}
use Rattle.rounds.proofs.Targets.{target_delivers, target_depots}

-- ---- by the row that is handed back

pub reach_handed : (W r d : ℕ) (targets hops even odd row : List ℕ) {last : List ℕ} {R : Reached} → last ≡ last_layer W d even odd
    → R ≡ reach_of W targets hops last r d row → R ≡ reach_in W targets r d (tables hops even odd) row
reach_handed W r d targets hops even odd row e h = h ∙ ap (λ (l : List ℕ). reach_of W targets hops l r d row) e

-- ---- what stood in the row that was lent is no matter

settle_free : (W : ℕ) (f : ℕ → Bool) (a b : List ℕ) (r e c : ℕ) (t : Tally)
    → settle_of W (overwrite (encode_row W f) a) r e c t ≡ settle_of W (overwrite (encode_row W f) b) r e c t
unfolding settle_of pairs_with
settle_free W f a b r e c t =
    let same : row_bit W (overwrite (encode_row W f) a) ≡ row_bit W (overwrite (encode_row W f) b) = fun_ext (λ v. row_read W f a v ∙ sym (row_read W f b v)) in
    ap (λ (row : ℕ → Bool). cond (ltb c e) (tally_of W (λ u v. ltb u v && ((eqb u r && row v) || (eqb v r && row u))) t.pairs)
    (cond (eqb e c && not (eqb e 0)) (tally_of W (λ u v. table_bit W t.pairs u v || (ltb u v && ((eqb u r && row v) || (eqb v r && row u)))) t.pairs) t)) same

pub reach_free : (W mark r d : ℕ) (targets hops last a b h : List ℕ) (A : Absorbed)
    → absorbing W mark r (reach_of W targets hops last r d a) h A ≡ absorbing W mark r (reach_of W targets hops last r d b) h A
unfolding absorbing taking reach_of
reach_free W mark r d targets hops last a b h A =
    rw (settle_free W (λ v. row_bit W targets r && is_farthest W targets hops last d (farthest_of W targets hops last d) v) a b r
    (cond (row_bit W targets r) (farthest_of W targets hops last d) 0) A.candidate A.paired)

-- ---- A SEARCH THAT STANDS IN TABLES SAYS SO

module _ (W : ℕ) (members targets links : List ℕ) (net : IsNet (target_network W members targets links)) (are : AreTargets W members targets)
    (r : ℕ) (o : T ((target_network W members targets links).is_open r)) (T₀ : Tables) where
  abbrev G : Network
  G = target_network W members targets links

  abbrev d : ℕ
  d = depth_from (target_network W members targets links) r

  abbrev S : Tables
  S = search_leaves W (target_network W members targets links) r T₀

  inside : (v : ℕ) → T (G.is_open v) → v < 64 * W
  inside = network_open_below W members links

  pub hop_at : (v : ℕ) → v < 64 * W → get_or (search_leaves W (target_network W members targets links) r T₀).hops v 0 ≡ dist (target_network W members targets links) r v
  unfolding search_leaves
  hop_at v l = fill_at (dist G r) T₀.hops (64 * W) v 0 l

  last_bit : (v : ℕ) → v < 64 * W → row_bit W (last_layer W d S.even S.odd) v ≡ eqb (dist G r v) d
  unfolding search_leaves layer_bit last_layer
  last_bit v l = go (cases_Bool (eqb (d % 2) 0))
    where
      odd_is : eqb (d % 2) 0 ≡ false → eqb (d % 2) 1 ≡ true
      odd_is q = eq-eqb (d % 2) 1 (omega (arith, eqb-false (d % 2) 0 q))

      go : (eqb (d % 2) 0 ≡ true) ⊎ (eqb (d % 2) 0 ≡ false) → row_bit W (last_layer W d S.even S.odd) v ≡ eqb (dist G r v) d
      go (inl q) = rw q (part_is W S.even v ∙ row_at W (layer_bit (dist G r) d 0) T₀.even v l ∙ rw q)
      go (inr q) = rw q (part_is W S.odd v ∙ row_at W (layer_bit (dist G r) d 1) T₀.odd v l ∙ rw (odd_is q))

  layer : IsLastLayer W targets (last_layer W d S.even S.odd) S.hops d
  unfolding network_of
  layer = record {
    most = λ v t.
        let ov : T (G.is_open v) = true→t (are.are_open v t) in
        let a = hop_at v (inside v ov) in
        let b = (depth_is G net r o).upper (dist G r v) (v, ov, hop_open G net r o v ov) in
        omega (arith, a, b);
    here = λ v t.
        let l = network_open_below W (last_layer W d S.even S.odd) [] v (true→t t) in
        hop_at v l ∙ eqb-true (dist G r v) d (sym (last_bit v l) ∙ t);
  }

  abbrev far : ℕ
  far = farthest_of W targets S.hops (last_layer W d S.even S.odd) d

  target_in : (v : ℕ) → Memᴰ v (vertices (network_of W targets [])) → v < 64 * W
  unfolding network_of
  target_in v m = range_out (64 * W) (filter_out (row_bit W targets) (range (64 * W)) m).0

  far_is : far ≡ ecc (chart G) r
  unfolding ecc chart
  far_is =
      farthest_is W targets S.hops (last_layer W d S.even S.odd) d layer
      ∙ max_ext (λ v. get_or S.hops v 0) (dist G r) (vertices (network_of W targets [])) (λ v m. hop_at v (target_in v m))
      ∙ ap (max_of (dist G r)) (target_depots W members targets links are)

  pub spans : (row : List ℕ)
      → Spans W (target_network W members targets links) r
      (reach_in W targets r (depth_from (target_network W members targets links) r) (search_leaves W (target_network W members targets links) r T₀) row)
  unfolding reach_of
  spans row = record {
    ecc_is = far_is;
    own_is = ap₂ (λ (b : Bool) (e : ℕ). cond b e 0) (target_delivers W members targets links are r) far_is;
    partners_are = λ v l.
        row_at W (λ v. row_bit W targets r && is_farthest W targets S.hops (last_layer W d S.even S.odd) d far v) row v l
        ∙ rw (target_delivers W members targets links are r, target_delivers W members targets links are v, part v l (cases_Bool (eqb far d)));
  }
    where
      part : (v : ℕ) → v < 64 * W → (eqb far d ≡ true) ⊎ (eqb far d ≡ false)
          → cond (eqb far d) (row_bit W (last_layer W d S.even S.odd) v) (eqb (get_or S.hops v 0) far) ≡ eqb (dist G r v) (ecc (chart G) r)
      part v l (inl q) = rw q (last_bit v l ∙ ap (eqb (dist G r v)) (sym (eqb-true far d q) ∙ far_is))
      part v l (inr q) = rw q (ap₂ eqb (hop_at v l) far_is)

  -- ---- over the link table

  module _ (most : W < 513) {e : ℕ} {left : Tables} (found : searched e left ≡ search_table W links r T₀) where
    few : 64 * W < unreached
    few = omega arith

    links_are_lem : G.linked ≡ table_bit W links
    unfolding network_of
    links_are_lem = refl

    pub table_is : (e ≡ depth_from (target_network W members targets links) r) × (left ≡ search_leaves W (target_network W members targets links) r T₀)
    unfolding search_table
    table_is = (
      ap (λ (x : Searched). x.depth) found ∙ table_depth G net.sound (64 * W) inside few r o W links refl links_are_lem,
      ap (λ (x : Searched). x.left) found ∙ table_leaves G net.sound (64 * W) inside few r o W links T₀ refl links_are_lem,
    )

    pub table_spans : (row : List ℕ) {R : Reached} → R ≡ reach_in W targets r e left row → Spans W (target_network W members targets links) r R
    table_spans row {R} q =
        subst (Spans W G r)
        (sym (q ∙ ap₂ (λ (x : ℕ) (t : Tables). reach_in W targets r x t row) table_is.0 table_is.1))
        (spans row)
