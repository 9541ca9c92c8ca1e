-- A NETWORK WHOSE LINKS ARE ONE FEWER THAN ITS DEPOTS IS A TREE, seen from a depot s: every other depot has exactly one neighbour nearer to s, and no
-- link joins two depots at the same distance from s. Hence the way to a depot that is no deeper goes through the parent (`through_parent`), and
-- the four-point condition (`four_points`). No cycle is ever spoken of: links are counted at their deeper end. Assumes nothing.
use mathlib.Core.Path.{◌≡◌, refl, sym, ap, ◌∙◌, subst}
use mathlib.Core.Logic.{◌⊎◌, inl, inr}
use mathlib.Core.Bool.{Bool, true, false, not, ◌&&◌, ◌||◌}
use Prim.Native.Nat.{ℕ, zero, suc, ◌+◌, ◌≤◌, ◌<◌, max}
use native.Mathlib.Nat.{le_refl, lt_irrefl}
use native.Mathlib.Omega.{arith}
use lib.Dec.{T, eqb, ltb}
use lib.ListN.{length}
use borrow.Author.Tests.{lt-ltb, le-ltb, eqb-true, eq-eqb, ne_eqb}
use Rattle.lists.specs.Lists.{countb, sum_of}
use Rattle.std.proofs.lemmas.Bool.{and_from, or_left, or_right, cases_lt, cases_eq}
use Rattle.lists.proofs.Tests.{t→true, true→t, clash, same_test}
use Rattle.lists.proofs.Counts.{count_lt}
use Rattle.lists.proofs.Distinct.{count_member}
use Rattle.graph.specs.Network.{Network, IsSound, Walk, step, IsDist}
use Rattle.graph.specs.Distance.{vertices, dist}
use Rattle.graph.specs.Chart.{count_pairs}
use Rattle.graph.specs.Correct.{IsNet}
use Rattle.graph.specs.Branch.{link_count}
use Rattle.graph.proofs.Walks.{cast, snoc, walk_zero, dist_unique, dist_triangle, dist_self, dist-sym, dist_before}
use Rattle.graph.proofs.Distances.{vertices_in, vertices_out}
use Rattle.graph.proofs.Connected.{hop_open}
use Rattle.lists.proofs.Sums.{weight, count_sum, sum_lt, count_two, count-not, counted_once}

-- ---- links counted

link_symmetric : (G : Network) → IsSound G → (u v : ℕ) → G.linked u v ≡ G.linked v u
link_symmetric G sound u v =
    same_test (G.linked u v) (G.linked v u) (λ h. t→true (G.linked v u) (sound.symmetric u v (true→t h))) (λ h. t→true (G.linked u v) (sound.symmetric v u (true→t h)))

less_either : (u v : ℕ) → (u ≡ v → ⊥) → ltb u v ≡ not (ltb v u)
less_either u v n = go (cases_lt u v)
  where
    go : (u < v) ⊎ (v ≤ u) → ltb u v ≡ not (ltb v u)
    go (inl l) = lt-ltb u v l ∙ sym (ap not (le-ltb v u (omega arith)))
    go (inr l) = le-ltb u v l ∙ sym (ap not (lt-ltb v u (strict (cases_eq v u))))
      where
        strict : (v ≡ u) ⊎ (v ≡ u → ⊥) → v < u
        strict (inl e) = absurd (n (sym e))
        strict (inr m) = omega arith

-- the sum of the degrees is twice the number of links
pub links_twice : (G : Network) → IsSound G → sum_of (λ u. countb (G.linked u) (vertices G)) (vertices G) ≡ link_count G + link_count G
unfolding link_count count_pairs
links_twice G sound = counted_once G.linked ltb (link_symmetric G sound) (λ u v h. less_either u v (sound.loopless u v (true→t h))) (vertices G)

-- an open depot stands once among the depots
pub stands_once : (G : Network) → IsSound G → (s : ℕ) → T (G.is_open s) → countb (λ u. eqb u s) (vertices G) ≡ 1
stands_once G sound s o = count_member s (vertices G) sound.once (sym (sound.listed s) ∙ t→true (G.is_open s) o)

-- ---- distances of open depots

module _ (G : Network) (net : IsNet G) where
  d_is : (u v : ℕ) → T (G.is_open u) → T (G.is_open v) → IsDist G u v (dist G u v)
  d_is u v ou ov = hop_open G net u ou v ov

  d_only : (u v d : ℕ) → T (G.is_open u) → T (G.is_open v) → IsDist G u v d → dist G u v ≡ d
  d_only u v d ou ov p = dist_unique (d_is u v ou ov) p

  d_sym : (u v : ℕ) → T (G.is_open u) → T (G.is_open v) → dist G u v ≡ dist G v u
  d_sym u v ou ov = d_only u v (dist G v u) ou ov (dist-sym net.sound (d_is v u ov ou))

  d_triangle : (u v w : ℕ) → T (G.is_open u) → T (G.is_open v) → T (G.is_open w) → dist G u w ≤ dist G u v + dist G v w
  d_triangle u v w ou ov ow = dist_triangle (d_is u v ou ov) (d_is v w ov ow) (d_is u w ou ow)

  d_self : (u : ℕ) → T (G.is_open u) → dist G u u ≡ 0
  d_self u ou = d_only u u 0 ou ou dist_self

  d_zero : (u v : ℕ) → T (G.is_open u) → T (G.is_open v) → dist G u v ≡ 0 → u ≡ v
  d_zero u v ou ov z = walk_zero (cast z (d_is u v ou ov).walk)

  other_end : (u v : ℕ) → T (G.linked u v) → T (G.is_open u)
  other_end u v l = net.sound.ends v u (net.sound.symmetric u v l)

  -- ---- seen from s

  module _ (s : ℕ) (os : T (G.is_open s)) where
    abbrev depth : ℕ → ℕ
    depth v = dist G s v

    depth_step : (u v : ℕ) → T (G.linked u v) → depth v ≤ suc (depth u)
    depth_step u v l = (d_is s v os (net.sound.ends u v l)).least (suc (depth u)) (snoc (d_is s u os (other_end u v l)).walk l)

    -- z is nearer by one, and linked to x
    pub record IsParent (z x : ℕ) : Type 0 where
      pub link : T (G.linked x z)
      pub nearer : suc (depth z) ≡ depth x

    parent : (x : ℕ) → T (G.is_open x) → (x ≡ s → ⊥) → (z : ℕ) × IsParent z x
    parent x ox n = go (depth x) refl
      where
        go : (k : ℕ) → depth x ≡ k → (z : ℕ) × IsParent z x
        go zero e = absurd (n (sym (d_zero s x os ox e)))
        go (suc k) e =
            let b = dist_before (subst (λ (j : ℕ). IsDist G s x j) e (d_is s x os ox)) in
            let oz = other_end b.0 x b.2 in
            (b.0, record { link = net.sound.symmetric b.0 x b.2; nearer = ap suc (d_only s b.0 k os oz b.1) ∙ sym e })

    -- v is lower than u: nearer to s, or as near with the lower code
    lower : ℕ → ℕ → Bool
    lower u v = ltb (depth v) (depth u) || (eqb (depth v) (depth u) && ltb v u)

    lower_near : (u v : ℕ) → depth v < depth u → lower u v ≡ true
    unfolding lower
    lower_near u v l = or_left _ (eqb (depth v) (depth u) && ltb v u) (lt-ltb (depth v) (depth u) l)

    lower_tie : (u v : ℕ) → depth v ≡ depth u → v < u → lower u v ≡ true
    unfolding lower
    lower_tie u v e l = or_right (ltb (depth v) (depth u)) _ (and_from _ _ (eq-eqb (depth v) (depth u) e) (lt-ltb v u l))

    not_lower : (u v : ℕ) → depth u < depth v → lower u v ≡ false
    unfolding lower
    not_lower u v l = rw (le-ltb (depth v) (depth u) (omega arith), ne_eqb (depth v) (depth u) (λ e. lt_irrefl (depth u) (omega arith)))

    tie_lower : (u v : ℕ) → depth u ≡ depth v → lower u v ≡ ltb v u
    unfolding lower
    tie_lower u v e = rw (le-ltb (depth v) (depth u) (omega arith), eq-eqb (depth v) (depth u) (sym e))

    lower_either : (u v : ℕ) → (u ≡ v → ⊥) → lower u v ≡ not (lower v u)
    lower_either u v n = go (cases_lt (depth v) (depth u)) (cases_eq (depth u) (depth v))
      where
        go : (depth v < depth u) ⊎ (depth u ≤ depth v) → (depth u ≡ depth v) ⊎ (depth u ≡ depth v → ⊥) → lower u v ≡ not (lower v u)
        go (inl l) o = lower_near u v l ∙ sym (ap not (not_lower v u l))
        go (inr l) (inl e) = tie_lower u v e ∙ less_either v u (λ q. n (sym q)) ∙ sym (ap not (tie_lower v u (sym e)))
        go (inr l) (inr m) = let k : depth u < depth v = omega arith in not_lower u v k ∙ sym (ap not (lower_near v u k))

    below : ℕ → ℕ
    below u = countb (λ v. lower u v && G.linked u v) (vertices G)

    below_links : sum_of below (vertices G) ≡ link_count G
    unfolding below
    below_links =
        let a : sum_of (λ u. countb (G.linked u) (vertices G)) (vertices G) ≡ sum_of below (vertices G) + sum_of below (vertices G) =
        counted_once G.linked lower (link_symmetric G net.sound) (λ u v h. lower_either u v (net.sound.loopless u v (true→t h))) (vertices G) in
        let b : sum_of (λ u. countb (G.linked u) (vertices G)) (vertices G) ≡ link_count G + link_count G = links_twice G net.sound in
        omega arith

    -- one for every depot but s
    but_root : ℕ → ℕ
    but_root u = weight (not (eqb u s))

    but_root_sum : suc (sum_of but_root (vertices G)) ≡ length (vertices G)
    unfolding but_root
    but_root_sum =
        let a : countb (λ u. not (eqb u s)) (vertices G) ≡ sum_of but_root (vertices G) = count_sum (λ u. not (eqb u s)) (vertices G) in
        let b : countb (λ u. eqb u s) (vertices G) ≡ 1 = stands_once G net.sound s os in
        let c : countb (λ u. not (eqb u s)) (vertices G) + countb (λ u. eqb u s) (vertices G) ≡ length (vertices G) = count-not (λ u. eqb u s) (vertices G) in
        omega arith

    module _ (tree : suc (link_count G) ≡ length (vertices G)) where
      -- below a depot other than s there is one alone
      two_below : (u v w : ℕ) → T (G.linked u v) → T (G.linked u w) → (u ≡ s → ⊥) → (v ≡ w → ⊥) → lower u v ≡ true → lower u w ≡ true → ⊥
      unfolding below but_root
      two_below u v w lv lw us vw a b =
          let two : 1 < below u = count_two (λ x. lower u x && G.linked u x) (λ x. eqb x v) (vertices G)
          (λ x e. subst (λ (y : ℕ). (lower u y && G.linked u y) ≡ true) (sym (eqb-true x v e)) (and_from _ _ a (t→true (G.linked u v) lv)))
          (vertices_in G net.sound v (net.sound.ends u v lv)) (eq-eqb v v refl)
          (vertices_in G net.sound w (net.sound.ends u w lw)) (ne_eqb w v (λ e. vw (sym e))) (and_from _ _ b (t→true (G.linked u w) lw)) in
          let one : but_root u ≡ 1 = ap (λ (t : Bool). weight (not t)) (ne_eqb u s us) in
          let more : sum_of but_root (vertices G) < sum_of below (vertices G) = sum_lt but_root below (vertices G) (λ x m. least x (vertices_out G net.sound m) (cases_eq x s)) (vertices_in G net.sound u (other_end u v lv)) (omega arith) in
          let p : suc (sum_of but_root (vertices G)) ≡ length (vertices G) = but_root_sum in
          let q : sum_of below (vertices G) ≡ link_count G = below_links in
          lt_irrefl (link_count G) (omega arith)
        where
          least : (x : ℕ) → T (G.is_open x) → (x ≡ s) ⊎ (x ≡ s → ⊥) → but_root x ≤ below x
          least x ox (inl e) = let z : but_root x ≡ 0 = ap (λ (t : Bool). weight (not t)) (eq-eqb x s e) in omega arith
          least x ox (inr n) =
              let o : but_root x ≡ 1 = ap (λ (t : Bool). weight (not t)) (ne_eqb x s n) in
              let p = parent x ox n in
              let near : suc (depth p.0) ≡ depth x = p.1.nearer in
              let c : countb (λ y. false) (vertices G) < countb (λ y. lower x y && G.linked x y) (vertices G) =
              count_lt (λ y. false) (λ y. lower x y && G.linked x y) (vertices G) (λ y m e. absurd (clash e refl)) (vertices_in G net.sound p.0 (net.sound.ends x p.0 p.1.link)) refl
              (and_from _ _ (lower_near x p.0 (omega arith)) (t→true (G.linked x p.0) p.1.link)) in
              omega arith

      -- no link joins two depots at the same distance
      no_tie : (u v : ℕ) → T (G.linked u v) → v < u → depth u ≡ depth v → ⊥
      no_tie u v l less e = go (cases_eq u s)
        where
          ou : T (G.is_open u)
          ou = other_end u v l

          ov : T (G.is_open v)
          ov = net.sound.ends u v l

          go : (u ≡ s) ⊎ (u ≡ s → ⊥) → ⊥
          go (inl q) =
              let z : depth u ≡ 0 = ap depth q ∙ d_self s os in
              let a : s ≡ u = d_zero s u os ou z in
              let b : s ≡ v = d_zero s v os ov (sym e ∙ z) in
              lt_irrefl u (omega arith)
          go (inr n) =
              let p = parent u ou n in
              let near : suc (depth p.0) ≡ depth u = p.1.nearer in
              two_below u p.0 v p.1.link l n (λ q. let r : depth p.0 ≡ depth v = ap depth q in lt_irrefl (depth u) (omega arith)) (lower_near u p.0 (omega arith)) (lower_tie u v (sym e) less)

      no_level : (u v : ℕ) → T (G.linked u v) → depth u ≡ depth v → ⊥
      no_level u v l e = go (cases_lt v u)
        where
          go : (v < u) ⊎ (u ≤ v) → ⊥
          go (inl k) = no_tie u v l k e
          go (inr k) = no_tie v u (net.sound.symmetric u v l) (strict (cases_eq u v)) (sym e)
            where
              strict : (u ≡ v) ⊎ (u ≡ v → ⊥) → u < v
              strict (inl q) = absurd (net.sound.loopless u v l q)
              strict (inr n) = omega arith

      -- a neighbour is the parent or a child
      parent_or_child : (x c : ℕ) → T (G.linked x c) → IsParent c x ⊎ IsParent x c
      parent_or_child x c l = go (cases_lt (depth c) (depth x)) (depth_step x c l) (depth_step c x (net.sound.symmetric x c l))
        where
          go : (depth c < depth x) ⊎ (depth x ≤ depth c) → depth c ≤ suc (depth x) → depth x ≤ suc (depth c) → IsParent c x ⊎ IsParent x c
          go (inl k) a b = inl record { link = l; nearer = omega arith }
          go (inr k) a b = inr record { link = net.sound.symmetric x c l; nearer = let n : depth x ≡ depth c → ⊥ = no_level x c l in omega arith }

      -- there is one parent
      parent_unique : (x y z : ℕ) → IsParent y x → IsParent z x → y ≡ z
      parent_unique x y z p q = go (cases_eq y z) (cases_eq x s)
        where
          go : (y ≡ z) ⊎ (y ≡ z → ⊥) → (x ≡ s) ⊎ (x ≡ s → ⊥) → y ≡ z
          go (inl e) o = e
          go (inr n) (inl e) = let a : depth x ≡ 0 = ap depth e ∙ d_self s os in let b : suc (depth y) ≡ depth x = p.nearer in absurd (lt_irrefl 0 (omega arith))
          go (inr n) (inr m) =
              let b : suc (depth y) ≡ depth x = p.nearer in
              let c : suc (depth z) ≡ depth x = q.nearer in
              absurd (two_below x y z p.link q.link m n (lower_near x y (omega arith)) (lower_near x z (omega arith)))

      -- a walk from x to another depot that is no deeper than x leaves a shorter one from x's parent: a step to a child comes back
      abbrev Shorter : ℕ → Type 0
      Shorter k = (x y z : ℕ) → Walk G k x y → (x ≡ y → ⊥) → depth y ≤ depth x → IsParent z x → (j : ℕ) × (j < k) × Walk G j z y

      shorter_step : (k : ℕ) → ((j : ℕ) → j < k → Shorter j) → Shorter k
      shorter_step zero ih x y z w ne dy p = absurd (ne (walk_zero w))
      shorter_step (suc k) ih x y z (step {v = c} a w) ne dy p = go (parent_or_child x c a)
        where
          go : IsParent c x ⊎ IsParent x c → (j : ℕ) × (j < suc k) × Walk G j z y
          go (inl q) = (k, le_refl (suc k), subst (λ (v : ℕ). Walk G k v y) (parent_unique x c z q p) w)
          go (inr q) =
              let near : suc (depth x) ≡ depth c = q.nearer in
              let b = ih k (le_refl (suc k)) c y x w (λ e. let r : depth c ≡ depth y = ap depth e in lt_irrefl (depth x) (omega arith)) (omega arith) q in
              let b1 : b.0 < k = b.1 in
              let f = ih b.0 (omega arith) x y z b.2 ne dy p in
              let f1 : f.0 < b.0 = f.1 in
              (f.0, omega arith, f.2)

      shorter : (n k : ℕ) → k ≤ n → Shorter k
      shorter zero k l = shorter_step k (λ j m. absurd (lt_irrefl 0 (omega arith)))
      shorter (suc n) k l = shorter_step k (λ j m. shorter n j (omega arith))

      -- THE WAY TO A DEPOT THAT IS NO DEEPER GOES THROUGH THE PARENT
      through_parent : (x y z : ℕ) → T (G.is_open x) → T (G.is_open y) → (x ≡ y → ⊥) → depth y ≤ depth x → IsParent z x → dist G x y ≡ suc (dist G z y)
      through_parent x y z ox oy ne dy p =
          let oz = net.sound.ends x z p.link in
          let w = shorter (dist G x y) (dist G x y) (le_refl (dist G x y)) x y z (d_is x y ox oy).walk ne dy p in
          let a : w.0 < dist G x y = w.1 in
          let b : dist G z y ≤ w.0 = (d_is z y oz oy).least w.0 w.2 in
          let c : dist G x y ≤ suc (dist G z y) = (d_is x y ox oy).least (suc (dist G z y)) (step p.link (d_is z y oz oy).walk) in
          omega arith

      -- THE FOUR-POINT CONDITION, one of the points being s: none of three such sums is greater than both others. Where the three depots differ, the deepest
      -- is replaced by its parent, and each of the sums falls by one.
      abbrev Four : ℕ → ℕ → ℕ → Type 0
      Four a u v = depth a + dist G u v ≤ max (depth u + dist G a v) (depth v + dist G a u)

      deep : (x y : ℕ) → T (G.is_open y) → (x ≡ y → ⊥) → depth y ≤ depth x → x ≡ s → ⊥
      deep x y oy ne l e =
          let z : depth x ≡ 0 = ap depth e ∙ d_self s os in
          ne (e ∙ d_zero s y os oy (omega arith))

      four_step : (a u v : ℕ) → T (G.is_open a) → T (G.is_open u) → T (G.is_open v)
          → ((b x y : ℕ) → T (G.is_open b) → T (G.is_open x) → T (G.is_open y) → depth b + depth x + depth y < depth a + depth u + depth v → Four b x y) → Four a u v
      four_step a u v oa ou ov ih = go (cases_eq u v) (cases_eq a u) (cases_eq a v)
        where
          at_a : (a ≡ u → ⊥) → (a ≡ v → ⊥) → depth u ≤ depth a → depth v ≤ depth a → Four a u v
          at_a nu nv du dv =
              let p = parent a oa (deep a u ou nu du) in
              let oz = net.sound.ends a p.0 p.1.link in
              let near : suc (depth p.0) ≡ depth a = p.1.nearer in
              let f : dist G a u ≡ suc (dist G p.0 u) = through_parent a u p.0 oa ou nu du p.1 in
              let g : dist G a v ≡ suc (dist G p.0 v) = through_parent a v p.0 oa ov nv dv p.1 in
              let h : Four p.0 u v = ih p.0 u v oz ou ov (omega arith) in
              omega arith

          at_u : (u ≡ a → ⊥) → (u ≡ v → ⊥) → depth a ≤ depth u → depth v ≤ depth u → Four a u v
          at_u na nv da dv =
              let p = parent u ou (deep u a oa na da) in
              let oz = net.sound.ends u p.0 p.1.link in
              let near : suc (depth p.0) ≡ depth u = p.1.nearer in
              let f : dist G u a ≡ suc (dist G p.0 a) = through_parent u a p.0 ou oa na da p.1 in
              let f1 : dist G u a ≡ dist G a u = d_sym u a ou oa in
              let f2 : dist G p.0 a ≡ dist G a p.0 = d_sym p.0 a oz oa in
              let g : dist G u v ≡ suc (dist G p.0 v) = through_parent u v p.0 ou ov nv dv p.1 in
              let h : Four a p.0 v = ih a p.0 v oa oz ov (omega arith) in
              omega arith

          at_v : (v ≡ a → ⊥) → (v ≡ u → ⊥) → depth a ≤ depth v → depth u ≤ depth v → Four a u v
          at_v na nu da du =
              let p = parent v ov (deep v a oa na da) in
              let oz = net.sound.ends v p.0 p.1.link in
              let near : suc (depth p.0) ≡ depth v = p.1.nearer in
              let f : dist G v a ≡ suc (dist G p.0 a) = through_parent v a p.0 ov oa na da p.1 in
              let f1 : dist G v a ≡ dist G a v = d_sym v a ov oa in
              let f2 : dist G p.0 a ≡ dist G a p.0 = d_sym p.0 a oz oa in
              let g : dist G v u ≡ suc (dist G p.0 u) = through_parent v u p.0 ov ou nu du p.1 in
              let g1 : dist G v u ≡ dist G u v = d_sym v u ov ou in
              let g2 : dist G p.0 u ≡ dist G u p.0 = d_sym p.0 u oz ou in
              let h : Four a u p.0 = ih a u p.0 oa ou oz (omega arith) in
              omega arith

          deepest : (u ≡ v → ⊥) → (a ≡ u → ⊥) → (a ≡ v → ⊥) → (depth a < depth u) ⊎ (depth u ≤ depth a) → (depth a < depth v) ⊎ (depth v ≤ depth a) → (depth u < depth v) ⊎ (depth v ≤ depth u) → Four a u v
          deepest uv au av (inr p) (inr q) o = at_a au av p q
          deepest uv au av (inr p) (inl q) o = at_v (λ e. av (sym e)) (λ e. uv (sym e)) (omega arith) (omega arith)
          deepest uv au av (inl p) o (inl q) = at_v (λ e. av (sym e)) (λ e. uv (sym e)) (omega arith) (omega arith)
          deepest uv au av (inl p) o (inr q) = at_u (λ e. au (sym e)) uv (omega arith) q

          go : (u ≡ v) ⊎ (u ≡ v → ⊥) → (a ≡ u) ⊎ (a ≡ u → ⊥) → (a ≡ v) ⊎ (a ≡ v → ⊥) → Four a u v
          go (inl e) o q =
              let z : dist G u v ≡ 0 = ap (λ (w : ℕ). dist G u w) (sym e) ∙ d_self u ou in
              let t : dist G s a ≤ dist G s v + dist G v a = d_triangle s v a os ov oa in
              let y : dist G v a ≡ dist G a v = d_sym v a ov oa in
              let w : depth u ≡ depth v = ap depth e in
              omega arith
          go (inr n) (inl e) q = let d : dist G a v ≡ dist G u v = ap (λ (w : ℕ). dist G w v) e in let w : depth a ≡ depth u = ap depth e in omega arith
          go (inr n) (inr m) (inl e) =
              let d : dist G a u ≡ dist G v u = ap (λ (w : ℕ). dist G w u) e in
              let y : dist G v u ≡ dist G u v = d_sym v u ov ou in
              let w : depth a ≡ depth v = ap depth e in
              omega arith
          go (inr n) (inr m) (inr k) = deepest n m k (cases_lt (depth a) (depth u)) (cases_lt (depth a) (depth v)) (cases_lt (depth u) (depth v))

      four : (n a u v : ℕ) → T (G.is_open a) → T (G.is_open u) → T (G.is_open v) → depth a + depth u + depth v ≤ n → Four a u v
      four zero a u v oa ou ov l = four_step a u v oa ou ov (λ b x y ob ox oy k. absurd (lt_irrefl 0 (omega arith)))
      four (suc n) a u v oa ou ov l = four_step a u v oa ou ov (λ b x y ob ox oy k. four n b x y ob ox oy (omega arith))

      pub four_points : (a u v : ℕ) → T (G.is_open a) → T (G.is_open u) → T (G.is_open v) → dist G s a + dist G u v ≤ max (dist G s u + dist G a v) (dist G s v + dist G a u)
      four_points a u v oa ou ov = four (depth a + depth u + depth v) a u v oa ou ov (le_refl (depth a + depth u + depth v))

      -- a depot farthest from s is an end of the chain: no two depots are farther apart than one of them is from it
      pub farthest_end : (a : ℕ) → T (G.is_open a) → ((w : ℕ) → T (G.is_open w) → dist G s w ≤ dist G s a) → (u v : ℕ) → T (G.is_open u) → T (G.is_open v)
          → dist G u v ≤ max (dist G a v) (dist G a u)
      farthest_end a oa far u v ou ov =
          let f : dist G s a + dist G u v ≤ max (dist G s u + dist G a v) (dist G s v + dist G a u) = four_points a u v oa ou ov in
          let p : dist G s u ≤ dist G s a = far u ou in
          let q : dist G s v ≤ dist G s a = far v ov in
          omega arith
