-- The turns of `search_table` by parity, its end, and buffers that were written before. Assumes nothing.
use mathlib.Core.Path.{◌≡◌, refl, sym, ap, ap₂, ◌∙◌, subst}
use mathlib.Core.Logic.{◌≢◌, ◌⊎◌, inl, inr}
use mathlib.Core.Bool.{Bool, true, false, cond, not, ◌&&◌}
use mathlib.Core.List.{List}
use Prim.Native.Nat.{ℕ, ◌+◌, ◌-◌, ◌*◌, ◌%◌, ◌≤◌, ◌<◌, zero-le}
use native.Mathlib.Nat.{le_antisymm}
use native.Mathlib.Omega.{arith}
use lib.Dec.{eqb, ltb}
use lib.ListN.{length}
use borrow.Author.Tests.{eqb-true, eq-eqb, ne_eqb, lt-ltb, le-ltb}
use Rattle.std.proofs.lemmas.Bool.{cases_eq}
use Rattle.lists.specs.Lists.{range, mapl, anyb, countb, max_of, overwrite}
use Rattle.lists.proofs.Members.{any_elim, range_out, length-range}
use Rattle.lists.proofs.Counts.{max_ge, max_le_of, count_le_length}
use Rattle.lists.proofs.Fills.{fill_ext, overwrite_twice, length_fill}
use Rattle.graph.specs.Distance.{vertices, unreached, hops, dist}
use Rattle.graph.proofs.Layers.{hops-range}
use Rattle.rows.specs.Rows.{row_bit, table_bit, encode_row}
use Rattle.rows.proofs.Wholes.{encode_row_ext, row_over}
use Rattle.layers.specs.Layers.{depth_from, layer_bit, search_leaves, searched, search_table}
use Rattle.map.specs.Memory.{table_network}
use Rattle.map.specs.Room.{Tables, tables}
use Rattle.frontier.specs.Steps.{stepped, step_of, left_after, row_of, Turned, turned, turn_of}
use Rattle.frontier.proofs.Stepping.{row_even, row_odd}
use Rattle.layers.specs.Begin.{HoldsEnds, SearchBegun, search_begun, search_begin_of}
use Rattle.layers.proofs.Hops.{layer_stays, hops_stay, hops_final, reached_more}
use Rattle.layers.proofs.Searching.{H, AtLayer, at_start_lem, more_is, hops_now, other_stays, other_next, left_next}

-- ---- the rows by parity

here_bit : (h : ℕ → ℕ) (e p v : ℕ) → e % 2 ≡ p → layer_bit h e p v ≡ eqb (h v) e
unfolding layer_bit
here_bit h e p v q = rw (eq-eqb (e % 2) p q)

before_bit : (h : ℕ → ℕ) (k p v : ℕ) → ((k + 1) % 2 ≡ p → ⊥) → layer_bit h (k + 1) p v ≡ eqb (h v) k
unfolding layer_bit
before_bit h k p v q =
    let one : k + 1 - 1 ≡ k = omega arith in
    rw (ne_eqb ((k + 1) % 2) p q, ne_eqb (k + 1) 0 (omega arith), one)

-- a step by turns, taken apart by the parity of its layer
module _ (W : ℕ) (links : List ℕ) (k : ℕ) (hops even odd left hops' even' odd' : List ℕ) (b : Bool) where
  from_even : k % 2 ≡ 0 → turned b hops' even' odd' ≡ turn_of W links k hops even odd left
      → (even' ≡ even) × (stepped b hops' odd' ≡ step_of W links even k hops odd left)
  unfolding turn_of row_of step_of
  from_even p e =
      let d = rw (eq-eqb (k % 2) 0 p) at e in
      (ap (λ (T : Turned). T.even) d, ap (λ (T : Turned). stepped T.more T.hops T.odd) d)

  from_odd : k % 2 ≢ 0 → turned b hops' even' odd' ≡ turn_of W links k hops even odd left
      → (odd' ≡ odd) × (stepped b hops' even' ≡ step_of W links odd k hops even left)
  unfolding turn_of row_of step_of
  from_odd p e =
      let d = rw (ne_eqb (k % 2) 0 p) at e in
      (ap (λ (T : Turned). T.odd) d, ap (λ (T : Turned). stepped T.more T.hops T.even) d)

-- the code's number of places is the network's
pub table_vertices : (W : ℕ) (links : List ℕ) → vertices (table_network W links) ≡ range (64 * W)
unfolding table_network
table_vertices W links = refl

module _ (W : ℕ) (links : List ℕ) (s : ℕ) where
  pub table_dist : (v : ℕ) → dist (table_network W links) s v ≡ H W links s (64 * W) v
  unfolding dist table_network
  table_dist v =
      ap (λ (vs : List ℕ). hops vs (table_bit W links) s (length vs) v) (table_vertices W links)
      ∙ ap (λ (n : ℕ). hops (range (64 * W)) (table_bit W links) s n v) (length-range (64 * W))

  module _ (most : W < 513) (members : List ℕ) (held : HoldsEnds W members links) (B : Tables) (left₀ : List ℕ) (k : ℕ) (hops even odd left : List ℕ)
      (I : AtLayer W links s members B left₀ k hops even odd left) where
    -- the row that holds layer k
    row_now : (p : ℕ) (row row₀ : List ℕ) → k % 2 ≡ p → row ≡ overwrite (encode_row W (layer_bit (H W links s k) k p)) row₀ → row ≡ overwrite (encode_row W (λ v. eqb (H W links s k v) k)) row₀
    row_now p row row₀ q e = e ∙ ap (λ (r : List ℕ). overwrite r row₀) (encode_row_ext W (layer_bit (H W links s k) k p) (λ v. eqb (H W links s k v) k) (λ v m. here_bit (H W links s k) k p v q))

    -- it holds the layer before, once there is a next one
    row_before : (p : ℕ) (row row₀ : List ℕ) → k % 2 ≡ p → row ≡ overwrite (encode_row W (layer_bit (H W links s k) k p)) row₀
        → row ≡ overwrite (encode_row W (layer_bit (H W links s (k + 1)) (k + 1) p)) row₀
    row_before p row row₀ q e =
        row_now p row row₀ q e
        ∙ ap (λ (r : List ℕ). overwrite r row₀) (encode_row_ext W (λ v. eqb (H W links s k v) k) (layer_bit (H W links s (k + 1)) (k + 1) p)
        (λ v m. layer_stays (64 * W) (table_bit W links) s k (omega (arith, I.few)) v ∙ sym (before_bit (H W links s (k + 1)) k p v (λ t. omega arith))))

    -- the other row holds the next layer
    row_next : (p : ℕ) (row row' row₀ : List ℕ) (f : ℕ → Bool) → (k + 1) % 2 ≡ p → row ≡ overwrite (encode_row W f) row₀
        → row' ≡ overwrite (encode_row W (λ v. eqb (H W links s (k + 1) v) (k + 1))) row → row' ≡ overwrite (encode_row W (layer_bit (H W links s (k + 1)) (k + 1) p)) row₀
    row_next p row row' row₀ f q e d =
        d ∙ ap (overwrite (encode_row W (λ v. eqb (H W links s (k + 1) v) (k + 1)))) e ∙ row_over W (λ v. eqb (H W links s (k + 1) v) (k + 1)) f row₀
        ∙ ap (λ (r : List ℕ). overwrite r row₀) (encode_row_ext W (λ v. eqb (H W links s (k + 1) v) (k + 1)) (layer_bit (H W links s (k + 1)) (k + 1) p) (λ v m. sym (here_bit (H W links s (k + 1)) (k + 1) p v q)))

    -- what is the same for both parities
    go_on : (hops' even' odd' left' : List ℕ) → anyb (λ v. eqb (H W links s (k + 1) v) (k + 1)) (range (64 * W)) ≡ true
        → hops' ≡ overwrite (mapl (H W links s k) (range (64 * W))) B.hops
        → even' ≡ overwrite (encode_row W (layer_bit (H W links s (k + 1)) (k + 1) 0)) B.even
        → odd' ≡ overwrite (encode_row W (layer_bit (H W links s (k + 1)) (k + 1) 1)) B.odd
        → left' ≡ overwrite (encode_row W (λ v. row_bit W members v && not (ltb (H W links s (k + 1) v) unreached))) left₀
        → AtLayer W links s members B left₀ (k + 1) hops' even' odd' left'
    go_on hops' even' odd' left' some h x y z =
        let r : countb (λ v. ltb (H W links s k v) unreached) (range (64 * W)) < countb (λ v. ltb (H W links s (k + 1) v) unreached) (range (64 * W)) =
        reached_more (64 * W) (table_bit W links) s k (omega (arith, I.few)) some in
        let a : k < countb (λ v. ltb (H W links s k v) unreached) (range (64 * W)) = I.reached in
        let b : countb (λ v. ltb (H W links s (k + 1) v) unreached) (range (64 * W)) ≤ length (range (64 * W)) = count_le_length (λ v. ltb (H W links s (k + 1) v) unreached) (range (64 * W)) in
        let c : length (range (64 * W)) ≡ 64 * W = length-range (64 * W) in
        record {
          few = omega arith;
          reached = omega arith;
          some = some;
          hops_is = h ∙ ap (λ (r : List ℕ). overwrite r B.hops) (fill_ext (H W links s k) (λ v. cond (ltb (H W links s (k + 1) v) (k + 1)) (H W links s (k + 1) v) unreached) (64 * W) (λ v m. hops_stay (64 * W) (table_bit W links) s k (omega (arith, I.few)) v));
          even_is = x;
          odd_is = y;
          left_now = z;
        }

    turn_even : (hops' odd' left' : List ℕ) → stepped true hops' odd' ≡ step_of W links even k hops odd left → left' ≡ left_after W links even left → k % 2 ≡ 0
        → AtLayer W links s members B left₀ (k + 1) hops' even odd' left'
    turn_even hops' odd' left' e r p =
        let l = row_now 0 even B.even p I.even_is in
        go_on hops' even odd' left'
        (sym (more_is W links s most members held k I.few B.hops B.even left₀ hops even left I.hops_is l I.left_now odd odd' hops' true e))
        (hops_now W links s most members held k I.few B.hops B.even left₀ hops even left I.hops_is l I.left_now odd odd' hops' true e)
        (row_before 0 even B.even p I.even_is)
        (row_next 1 odd odd' B.odd (layer_bit (H W links s k) k 1) (omega arith) I.odd_is
        (other_next W links s most members held k I.few B.hops B.even left₀ hops even left I.hops_is l I.left_now odd odd' hops' true e refl))
        (left_next W links s most members held k I.few B.hops B.even left₀ hops even left I.hops_is l I.left_now left' r)

    turn_odd : (hops' even' left' : List ℕ) → stepped true hops' even' ≡ step_of W links odd k hops even left → left' ≡ left_after W links odd left → k % 2 ≢ 0
        → AtLayer W links s members B left₀ (k + 1) hops' even' odd left'
    turn_odd hops' even' left' e r ne =
        let p : k % 2 ≡ 1 = omega (arith, ne) in
        let l = row_now 1 odd B.odd p I.odd_is in
        go_on hops' even' odd left'
        (sym (more_is W links s most members held k I.few B.hops B.odd left₀ hops odd left I.hops_is l I.left_now even even' hops' true e))
        (hops_now W links s most members held k I.few B.hops B.odd left₀ hops odd left I.hops_is l I.left_now even even' hops' true e)
        (row_next 0 even even' B.even (layer_bit (H W links s k) k 0) (omega arith) I.even_is
        (other_next W links s most members held k I.few B.hops B.odd left₀ hops odd left I.hops_is l I.left_now even even' hops' true e refl))
        (row_before 1 odd B.odd p I.odd_is)
        (left_next W links s most members held k I.few B.hops B.odd left₀ hops odd left I.hops_is l I.left_now left' r)

    -- either
    pub turn_on : (hops' even' odd' left' : List ℕ) → turned true hops' even' odd' ≡ turn_of W links k hops even odd left
        → left' ≡ left_after W links (row_of k even odd) left → AtLayer W links s members B left₀ (k + 1) hops' even' odd' left'
    turn_on hops' even' odd' left' e r = go (cases_eq (k % 2) 0)
      where
        go : (k % 2 ≡ 0) ⊎ (k % 2 ≢ 0) → AtLayer W links s members B left₀ (k + 1) hops' even' odd' left'
        go (inl p) =
            let x = from_even W links k hops even odd left hops' even' odd' true p e in
            subst (λ (r : List ℕ). AtLayer W links s members B left₀ (k + 1) hops' r odd' left') (sym x.0)
            (turn_even hops' odd' left' x.1 (r ∙ ap (λ (l : List ℕ). left_after W links l left) (row_even k even odd p)) p)
        go (inr p) =
            let x = from_odd W links k hops even odd left hops' even' odd' true p e in
            subst (λ (r : List ℕ). AtLayer W links s members B left₀ (k + 1) hops' even' r left') (sym x.0)
            (turn_odd hops' even' left' x.1 (r ∙ ap (λ (l : List ℕ). left_after W links l left) (row_odd k even odd p)) p)

    -- ---- the end

    module _ (none : anyb (λ v. eqb (H W links s (k + 1) v) (k + 1)) (range (64 * W)) ≡ false) where
      dist_now : (v : ℕ) → v < 64 * W → dist (table_network W links) s v ≡ H W links s k v
      dist_now v l = table_dist v ∙ hops_final (64 * W) (table_bit W links) s k (omega (arith, I.few)) (omega arith) none v l

      depth_now : depth_from (table_network W links) s ≡ k
      unfolding depth_from table_network
      depth_now = le_antisymm upper lower
        where
          f : ℕ → ℕ
          f v = cond (ltb (dist (table_network W links) s v) unreached) (dist (table_network W links) s v) 0

          at : (v : ℕ) → (H W links s k v ≤ k) ⊎ (H W links s k v ≡ unreached) → cond (ltb (H W links s k v) unreached) (H W links s k v) 0 ≤ k
          at v (inl l) = rw (lt-ltb (H W links s k v) unreached (omega (arith, I.few))) l
          at v (inr e) = rw (le-ltb (H W links s k v) unreached (omega arith)) zero-le

          upper : max_of f (range (64 * W)) ≤ k
          upper =
              max_le_of f (range (64 * W)) k
              (λ v m. subst (λ (x : ℕ). cond (ltb x unreached) x 0 ≤ k) (sym (dist_now v (range_out (64 * W) m))) (at v (hops-range (range (64 * W)) (table_bit W links) s k v)))

          lower : k ≤ max_of f (range (64 * W))
          lower =
              let x = any_elim (λ v. eqb (H W links s k v) k) (range (64 * W)) I.some in
              let d : dist (table_network W links) s x.0 ≡ k = dist_now x.0 (range_out (64 * W) x.1) ∙ eqb-true (H W links s k x.0) k x.2 in
              let g : f x.0 ≤ max_of f (range (64 * W)) = max_ge f (range (64 * W)) x.1 in
              let v : f x.0 ≡ k = ap (λ (y : ℕ). cond (ltb y unreached) y 0) d ∙ ap (λ (b : Bool). cond b k 0) (lt-ltb k unreached (omega (arith, I.few))) in
              omega arith

      row_end : (p : ℕ) (row row₀ : List ℕ) → row ≡ overwrite (encode_row W (layer_bit (H W links s k) k p)) row₀
          → row ≡ overwrite (encode_row W (layer_bit (dist (table_network W links) s) (depth_from (table_network W links) s) p)) row₀
      unfolding layer_bit
      row_end p row row₀ e =
          e ∙ ap (λ (r : List ℕ). overwrite r row₀)
          (encode_row_ext W (layer_bit (H W links s k) k p) (layer_bit (dist (table_network W links) s) (depth_from (table_network W links) s) p)
          (λ v m. ap₂ (λ (x y : ℕ). cond (eqb (y % 2) p) (eqb x y) (not (eqb y 0) && eqb x (y - 1))) (sym (dist_now v m)) (sym depth_now)))

      finish : (hops' : List ℕ) → hops' ≡ overwrite (mapl (H W links s k) (range (64 * W))) B.hops → searched k (tables hops' even odd) ≡ search_table W links s B
      unfolding search_table search_leaves
      finish hops' h =
          let a : hops' ≡ overwrite (mapl (dist (table_network W links) s) (range (64 * W))) B.hops =
          h ∙ ap (λ (r : List ℕ). overwrite r B.hops) (fill_ext (H W links s k) (dist (table_network W links) s) (64 * W) (λ v m. sym (dist_now v m))) in
          ap₂ searched (sym depth_now) (rw (a, row_end 0 even B.even I.even_is, row_end 1 odd B.odd I.odd_is))

    end_even : (hops' odd' : List ℕ) → stepped false hops' odd' ≡ step_of W links even k hops odd left → k % 2 ≡ 0
        → searched k (tables hops' even odd') ≡ search_table W links s B
    end_even hops' odd' e p =
        let l = row_now 0 even B.even p I.even_is in
        subst (λ (o : List ℕ). searched k (tables hops' even o) ≡ search_table W links s B)
        (sym (other_stays W links s most members held k I.few B.hops B.even left₀ hops even left I.hops_is l I.left_now odd odd' hops' false e refl))
        (finish (sym (more_is W links s most members held k I.few B.hops B.even left₀ hops even left I.hops_is l I.left_now odd odd' hops' false e)) hops'
        (hops_now W links s most members held k I.few B.hops B.even left₀ hops even left I.hops_is l I.left_now odd odd' hops' false e))

    end_odd : (hops' even' : List ℕ) → stepped false hops' even' ≡ step_of W links odd k hops even left → k % 2 ≢ 0
        → searched k (tables hops' even' odd) ≡ search_table W links s B
    end_odd hops' even' e ne =
        let p : k % 2 ≡ 1 = omega (arith, ne) in
        let l = row_now 1 odd B.odd p I.odd_is in
        subst (λ (o : List ℕ). searched k (tables hops' o odd) ≡ search_table W links s B)
        (sym (other_stays W links s most members held k I.few B.hops B.odd left₀ hops odd left I.hops_is l I.left_now even even' hops' false e refl))
        (finish (sym (more_is W links s most members held k I.few B.hops B.odd left₀ hops odd left I.hops_is l I.left_now even even' hops' false e)) hops'
        (hops_now W links s most members held k I.few B.hops B.odd left₀ hops odd left I.hops_is l I.left_now even even' hops' false e))

    -- either
    end_on : (hops' even' odd' : List ℕ) → turned false hops' even' odd' ≡ turn_of W links k hops even odd left
        → searched k (tables hops' even' odd') ≡ search_table W links s B
    end_on hops' even' odd' e = go (cases_eq (k % 2) 0)
      where
        go : (k % 2 ≡ 0) ⊎ (k % 2 ≢ 0) → searched k (tables hops' even' odd') ≡ search_table W links s B
        go (inl p) =
            let x = from_even W links k hops even odd left hops' even' odd' false p e in
            subst (λ (r : List ℕ). searched k (tables hops' r odd') ≡ search_table W links s B) (sym x.0) (end_even hops' odd' x.1 p)
        go (inr p) =
            let x = from_odd W links k hops even odd left hops' even' odd' false p e in
            subst (λ (r : List ℕ). searched k (tables hops' even' r) ≡ search_table W links s B) (sym x.0) (end_odd hops' even' x.1 p)

-- ---- the buffers of the loop were written by `begin`: over them or over those of the call is the same

module _ (W : ℕ) (links : List ℕ) (s : ℕ) (members : List ℕ) (B : Tables) (left₀ hops even odd left : List ℕ)
    (e : search_begun (tables hops even odd) left ≡ search_begin_of W members s B left₀) where
  over_hops : (f : ℕ → ℕ) → overwrite (mapl f (range (64 * W))) hops ≡ overwrite (mapl f (range (64 * W))) B.hops
  unfolding search_begin_of
  over_hops f =
      ap (λ (x : SearchBegun). overwrite (mapl f (range (64 * W))) x.lent.hops) e
      ∙ overwrite_twice (mapl f (range (64 * W))) (mapl (λ v. unreached) (range (64 * W))) B.hops (omega (arith, length_fill f (64 * W), length_fill (λ v. unreached) (64 * W)))

  over_even : (f : ℕ → Bool) → overwrite (encode_row W f) even ≡ overwrite (encode_row W f) B.even
  unfolding search_begin_of
  over_even f = ap (λ (x : SearchBegun). overwrite (encode_row W f) x.lent.even) e ∙ row_over W f (λ v. eqb v s) B.even

  over_odd : (f : ℕ → Bool) → overwrite (encode_row W f) odd ≡ overwrite (encode_row W f) B.odd
  unfolding search_begin_of
  over_odd f = ap (λ (x : SearchBegun). overwrite (encode_row W f) x.lent.odd) e ∙ row_over W f (λ v. false) B.odd

  over_left : (f : ℕ → Bool) → overwrite (encode_row W f) left ≡ overwrite (encode_row W f) left₀
  unfolding search_begin_of
  over_left f = ap (λ (x : SearchBegun). overwrite (encode_row W f) x.left) e ∙ row_over W f (λ v. row_bit W members v && not (eqb v s)) left₀

  pub at_loop : s < 64 * W → AtLayer W links s members (tables hops even odd) left 0 hops even odd left
  at_loop l =
      let I = at_start_lem W links s members B left₀ hops even odd left l e in
      record {
        few = I.few;
        reached = I.reached;
        some = I.some;
        hops_is = I.hops_is ∙ sym (over_hops (λ v. cond (ltb (H W links s 0 v) 0) (H W links s 0 v) unreached));
        even_is = I.even_is ∙ sym (over_even (layer_bit (H W links s 0) 0 0));
        odd_is = I.odd_is ∙ sym (over_odd (layer_bit (H W links s 0) 0 1));
        left_now = I.left_now ∙ sym (over_left (λ v. row_bit W members v && not (ltb (H W links s 0 v) unreached)));
      }

  from_loop : search_table W links s (tables hops even odd) ≡ search_table W links s B
  unfolding search_table search_leaves
  from_loop = rw (over_hops (dist (table_network W links) s), over_even (layer_bit (dist (table_network W links) s) (depth_from (table_network W links) s) 0), over_odd (layer_bit (dist (table_network W links) s) (depth_from (table_network W links) s) 1))

  pub answered : W < 513 → HoldsEnds W members links → (k : ℕ) (hops₁ even₁ odd₁ left₁ : List ℕ)
      → AtLayer W links s members (tables hops even odd) left k hops₁ even₁ odd₁ left₁ → (hops' even' odd' : List ℕ)
      → turned false hops' even' odd' ≡ turn_of W links k hops₁ even₁ odd₁ left₁ → searched k (tables hops' even' odd') ≡ search_table W links s B
  answered most held k hops₁ even₁ odd₁ left₁ I hops' even' odd' d =
      end_on W links s most members held (tables hops even odd) left k hops₁ even₁ odd₁ left₁ I hops' even' odd' d ∙ from_loop
