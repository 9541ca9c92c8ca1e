-- The loop of `search_table`: where it stands at layer k, how it goes on and how it ends. Assumes nothing.
use mathlib.Core.Path.{◌≡◌, refl, sym, ap, ap₂, ◌∙◌, subst}
use mathlib.Core.Logic.{◌⊎◌, inl, inr}
use mathlib.Core.Bool.{Bool, true, false, cond, not, ◌&&◌, ◌||◌}
use mathlib.Core.List.{List}
use Prim.Native.Nat.{ℕ, ◌+◌, ◌*◌, ◌≤◌, ◌<◌}
use native.Mathlib.Omega.{arith}
use lib.Dec.{eqb, ltb}
use lib.ListN.{get_or}
use borrow.Author.Tests.{eqb-true, eq-eqb, le-ltb}
use Rattle.std.proofs.lemmas.Bool.{cases_Bool, and_parts}
use Rattle.lists.specs.Lists.{range, mapl, anyb, countb, overwrite}
use Rattle.lists.proofs.Members.{any_intro, any_elim, any_ext, range_in, range_out}
use Rattle.lists.proofs.Counts.{count_one_lem, count_mono}
use Rattle.lists.proofs.Fills.{fill_ext, fill_at, overwrite_twice, length_fill}
use Rattle.graph.specs.Distance.{unreached, hops}
use Rattle.rows.specs.Rows.{row_bit, table_bit, encode_row, put_bit}
use Rattle.rows.proofs.Written.{row_at}
use Rattle.rows.proofs.Wholes.{encode_row_ext, row_over}
use Rattle.rows.proofs.Puts.{put_row_lem}
use Rattle.layers.specs.Layers.{layer_bit}
use Rattle.map.specs.Room.{Tables, tables}
use Rattle.frontier.specs.Steps.{reaches, fresh, Stepped, stepped, step_of, left_after}
use Rattle.layers.specs.Begin.{HoldsEnds, SearchBegun, search_begun, search_begin_of}
use Rattle.layers.proofs.Hops.{near, fresh_is, seen_is, hops_visit}

-- ---- the start

-- one code alone in a cleared row
pub alone : (W s : ℕ) (l₀ l l' : List ℕ) → s < 64 * W → l ≡ overwrite (encode_row W (λ v. false)) l₀ → l' ≡ put_bit W 0 s true l → l' ≡ overwrite (encode_row W (λ v. eqb v s)) l₀
alone W s l₀ l l' h e p =
    p ∙ ap (put_bit W 0 s true) e ∙ put_row_lem W s true (λ v. false) l₀ h
    ∙ ap (λ (r : List ℕ). overwrite r l₀) (encode_row_ext W (λ q. cond (eqb q s) true false) (λ v. eqb v s) (λ v m. same (eqb v s)))
  where
    same : (b : Bool) → cond b true false ≡ b
    same true = refl
    same false = refl

pub begin_is : (W s : ℕ) (members : List ℕ) (B : Tables) (left₀ : List ℕ) (hops even odd left : List ℕ) → hops ≡ overwrite (mapl (λ v. unreached) (range (64 * W))) B.hops
    → even ≡ overwrite (encode_row W (λ v. eqb v s)) B.even → odd ≡ overwrite (encode_row W (λ v. false)) B.odd
    → left ≡ overwrite (encode_row W (λ v. row_bit W members v && not (row_bit W even v))) left₀
    → search_begun (tables hops even odd) left ≡ search_begin_of W members s B left₀
unfolding search_begin_of
begin_is W s members B left₀ hops even odd left a b c d = rw (a, b, c, others)
  where
    others : left ≡ overwrite (encode_row W (λ v. row_bit W members v && not (eqb v s))) left₀
    others =
        d ∙ ap (λ (r : List ℕ). overwrite r left₀)
        (encode_row_ext W (λ v. row_bit W members v && not (row_bit W even v)) (λ v. row_bit W members v && not (eqb v s))
        (λ v l. ap (λ (x : Bool). row_bit W members v && not x) (ap (λ (r : List ℕ). row_bit W r v) b ∙ row_at W (λ v. eqb v s) B.even v l)))

-- ---- where the loop stands

module _ (W : ℕ) (links : List ℕ) (s : ℕ) where
  abbrev pub H : ℕ → ℕ → ℕ
  H k v = hops (range (64 * W)) (table_bit W links) s k v

  -- at layer k, over the buffers B and left₀ of the start: the layer is not empty, hops below k are in place, the rows hold the layer and the one before,
  -- and the members that are not reached are left
  pub record AtLayer (members : List ℕ) (B : Tables) (left₀ : List ℕ) (k : ℕ) (hops even odd left : List ℕ) : Type 0 where
    pub few : k < 64 * W
    pub reached : k < countb (λ v. ltb (H k v) unreached) (range (64 * W))
    pub some : anyb (λ v. eqb (H k v) k) (range (64 * W)) ≡ true
    pub hops_is : hops ≡ overwrite (mapl (λ v. cond (ltb (H k v) k) (H k v) unreached) (range (64 * W))) B.hops
    pub even_is : even ≡ overwrite (encode_row W (layer_bit (H k) k 0)) B.even
    pub odd_is : odd ≡ overwrite (encode_row W (layer_bit (H k) k 1)) B.odd
    pub left_now : left ≡ overwrite (encode_row W (λ v. row_bit W members v && not (ltb (H k v) unreached))) left₀

  -- layer 0
  H-zero : (v : ℕ) → H 0 v ≡ cond (eqb s v) 0 unreached
  unfolding hops
  H-zero v = refl

  swap : (u v : ℕ) → eqb u v ≡ eqb v u
  swap u v = go (cases_Bool (eqb u v)) (cases_Bool (eqb v u))
    where
      go : (eqb u v ≡ true) ⊎ (eqb u v ≡ false) → (eqb v u ≡ true) ⊎ (eqb v u ≡ false) → eqb u v ≡ eqb v u
      go (inl a) b = a ∙ sym (eq-eqb v u (sym (eqb-true u v a)))
      go (inr a) (inl b) = eq-eqb u v (sym (eqb-true v u b)) ∙ sym b
      go (inr a) (inr b) = a ∙ sym b

  first_hop : (v : ℕ) → eqb (H 0 v) 0 ≡ eqb v s
  first_hop v = ap (λ (x : ℕ). eqb x 0) (H-zero v) ∙ go (eqb s v) ∙ swap s v
    where
      go : (b : Bool) → eqb (cond b 0 unreached) 0 ≡ b
      go true = refl
      go false = refl

  first_seen : (v : ℕ) → ltb (H 0 v) unreached ≡ eqb v s
  first_seen v = ap (λ (x : ℕ). ltb x unreached) (H-zero v) ∙ go (eqb s v) ∙ swap s v
    where
      go : (b : Bool) → ltb (cond b 0 unreached) unreached ≡ b
      go true = refl
      go false = refl

  pub at_start_lem : (members : List ℕ) (B : Tables) (left₀ : List ℕ) (hops even odd left : List ℕ) → s < 64 * W
      → search_begun (tables hops even odd) left ≡ search_begin_of W members s B left₀ → AtLayer members B left₀ 0 hops even odd left
  unfolding search_begin_of layer_bit
  at_start_lem members B left₀ hops even odd left l e = record {
    few = omega arith;
    reached = subst (λ (n : ℕ). n ≤ countb (λ v. ltb (H 0 v) unreached) (range (64 * W))) (count_one_lem (64 * W) s l) (count_mono (λ v. eqb v s) (λ v. ltb (H 0 v) unreached) (range (64 * W)) (λ v m t. first_seen v ∙ t));
    some = any_intro (λ v. eqb (H 0 v) 0) (range (64 * W)) (range_in (64 * W) l) (first_hop s ∙ eq-eqb s s refl);
    hops_is =
        ap (λ (x : SearchBegun). x.lent.hops) e
        ∙ ap (λ (r : List ℕ). overwrite r B.hops) (fill_ext (λ v. unreached) (λ v. cond (ltb (H 0 v) 0) (H 0 v) unreached) (64 * W) (λ v m. rw (le-ltb (H 0 v) 0 (omega arith))));
    even_is = ap (λ (x : SearchBegun). x.lent.even) e ∙ ap (λ (r : List ℕ). overwrite r B.even) (encode_row_ext W (λ v. eqb v s) (λ v. eqb (H 0 v) 0) (λ v m. sym (first_hop v)));
    odd_is = ap (λ (x : SearchBegun). x.lent.odd) e;
    left_now =
        ap (λ (x : SearchBegun). x.left) e
        ∙ ap (λ (r : List ℕ). overwrite r left₀)
        (encode_row_ext W (λ v. row_bit W members v && not (eqb v s)) (λ v. row_bit W members v && not (ltb (H 0 v) unreached))
        (λ v m. ap (λ (b : Bool). row_bit W members v && not b) (sym (first_seen v))));
  }

  -- ---- one turn, from the row that holds layer k to the other

  module _ (most : W < 513) (members : List ℕ) (held : HoldsEnds W members links) (k : ℕ) (few : k < 64 * W) (hops₀ layer₀ left₀ hops layer left : List ℕ)
      (hops_is : hops ≡ overwrite (mapl (λ v. cond (ltb (H k v) k) (H k v) unreached) (range (64 * W))) hops₀)
      (layer_is_lem : layer ≡ overwrite (encode_row W (λ v. eqb (H k v) k)) layer₀)
      (left_now : left ≡ overwrite (encode_row W (λ v. row_bit W members v && not (ltb (H k v) unreached))) left₀) where
    layer_bit_lem : (v : ℕ) → v < 64 * W → row_bit W layer v ≡ eqb (H k v) k
    layer_bit_lem v l = ap (λ (t : List ℕ). row_bit W t v) layer_is_lem ∙ row_at W (λ v. eqb (H k v) k) layer₀ v l

    left_bit : (v : ℕ) → v < 64 * W → row_bit W left v ≡ (row_bit W members v && not (ltb (H k v) unreached))
    left_bit v l = ap (λ (t : List ℕ). row_bit W t v) left_now ∙ row_at W (λ v. row_bit W members v && not (ltb (H k v) unreached)) left₀ v l

    -- what a code at distance k is linked to is a member
    near_held : (v : ℕ) → near (64 * W) (table_bit W links) s k v ≡ true → row_bit W members v ≡ true
    unfolding near
    near_held v e =
        let x = any_elim (λ u. eqb (H k u) k && table_bit W links u v) (range (64 * W)) e in
        held.ends x.0 v (and_parts (eqb (H k x.0) k) (table_bit W links x.0 v) x.2).1

    fresh-bit : (v : ℕ) → v < 64 * W → fresh W links layer left v ≡ eqb (H (k + 1) v) (k + 1)
    unfolding fresh reaches near
    fresh-bit v l =
        ap₂ (λ (a b : Bool). a && b)
        (any_ext (λ u. row_bit W layer u && table_bit W links u v) (λ u. eqb (H k u) k && table_bit W links u v) (range (64 * W))
        (λ u m. ap (λ (b : Bool). b && table_bit W links u v) (layer_bit_lem u (range_out (64 * W) m))))
        (left_bit v l)
        ∙ known (near (64 * W) (table_bit W links) s k v) (row_bit W members v) (not (ltb (H k v) unreached)) (near_held v)
        ∙ fresh_is (64 * W) (table_bit W links) s k (omega arith) v
      where
        known : (n m x : Bool) → (n ≡ true → m ≡ true) → (n && (m && x)) ≡ (n && x)
        known true m x h = rw (h refl)
        known false m x h = refl

    any_fresh : anyb (fresh W links layer left) (range (64 * W)) ≡ anyb (λ v. eqb (H (k + 1) v) (k + 1)) (range (64 * W))
    any_fresh = any_ext (fresh W links layer left) (λ v. eqb (H (k + 1) v) (k + 1)) (range (64 * W)) (λ v m. fresh-bit v (range_out (64 * W) m))

    hops_after : overwrite (mapl (λ v. cond (row_bit W layer v) k (get_or hops v 0)) (range (64 * W))) hops ≡ overwrite (mapl (H k) (range (64 * W))) hops₀
    hops_after =
        ap (overwrite (mapl f (range (64 * W)))) hops_is
        ∙ overwrite_twice (mapl f (range (64 * W))) (mapl g (range (64 * W))) hops₀ (omega (arith, length_fill f (64 * W), length_fill g (64 * W)))
        ∙ ap (λ (r : List ℕ). overwrite r hops₀) (fill_ext f (H k) (64 * W) same)
      where
        f : ℕ → ℕ
        f v = cond (row_bit W layer v) k (get_or hops v 0)

        g : ℕ → ℕ
        g v = cond (ltb (H k v) k) (H k v) unreached

        same : (v : ℕ) → v < 64 * W → f v ≡ H k v
        same v l =
            ap₂ (λ (b : Bool) (x : ℕ). cond b k x) (layer_bit_lem v l) (ap (λ (t : List ℕ). get_or t v 0) hops_is ∙ fill_at g hops₀ (64 * W) v 0 l)
            ∙ hops_visit (64 * W) (table_bit W links) s k v (omega arith)

    module _ (other other' hops' : List ℕ) (b : Bool) (e : stepped b hops' other' ≡ step_of W links layer k hops other left) where
      pub more_is : b ≡ anyb (λ v. eqb (H (k + 1) v) (k + 1)) (range (64 * W))
      unfolding step_of
      more_is = ap (λ (x : Stepped). x.more) e ∙ any_fresh

      pub hops_now : hops' ≡ overwrite (mapl (H k) (range (64 * W))) hops₀
      unfolding step_of
      hops_now = ap (λ (x : Stepped). x.hops) e ∙ hops_after

      -- there is no next layer: the other row is as it was
      pub other_stays : b ≡ false → other' ≡ other
      unfolding step_of
      other_stays q = ap (λ (x : Stepped). x.other) e ∙ rw (any_fresh ∙ sym more_is ∙ q)

      -- there is one: it stands in the other row
      pub other_next : b ≡ true → other' ≡ overwrite (encode_row W (λ v. eqb (H (k + 1) v) (k + 1))) other
      unfolding step_of
      other_next q =
          ap (λ (x : Stepped). x.other) e ∙ rw (any_fresh ∙ sym more_is ∙ q)
          (ap (λ (r : List ℕ). overwrite r other) (encode_row_ext W (fresh W links layer left) (λ v. eqb (H (k + 1) v) (k + 1)) fresh-bit))

    -- the members that are not reached are left after it
    pub left_next : (left' : List ℕ) → left' ≡ left_after W links layer left
        → left' ≡ overwrite (encode_row W (λ v. row_bit W members v && not (ltb (H (k + 1) v) unreached))) left₀
    unfolding left_after
    left_next left' e =
        e ∙ ap (overwrite (encode_row W f)) left_now ∙ row_over W f (λ v. row_bit W members v && not (ltb (H k v) unreached)) left₀
        ∙ ap (λ (r : List ℕ). overwrite r left₀) (encode_row_ext W f (λ v. row_bit W members v && not (ltb (H (k + 1) v) unreached)) same)
      where
        f : ℕ → Bool
        f v = row_bit W left v && not (fresh W links layer left v)

        twice : (m x n : Bool) → ((m && not x) && not n) ≡ (m && not (x || n))
        twice true true n = refl
        twice true false n = refl
        twice false x n = refl

        same : (v : ℕ) → v < 64 * W → f v ≡ (row_bit W members v && not (ltb (H (k + 1) v) unreached))
        same v l =
            ap₂ (λ (x y : Bool). x && not y) (left_bit v l) (fresh-bit v l)
            ∙ twice (row_bit W members v) (ltb (H k v) unreached) (eqb (H (k + 1) v) (k + 1))
            ∙ ap (λ (b : Bool). row_bit W members v && not b) (seen_is (64 * W) (table_bit W links) s k (omega arith) v)
