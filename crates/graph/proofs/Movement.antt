-- HOW FAR ONE NOTICE MOVES THE DIAMETER: an opening raises it by at most 1; a link never raises it, and at most halves it. Assumes nothing.
use mathlib.Core.Path.{◌≡◌, refl, sym, ap, subst}
use mathlib.Core.Logic.{◌⊎◌, inl, inr}
use mathlib.Core.Bool.{Bool, true, ◌&&◌, ◌||◌}
use Prim.Native.Nat.{ℕ, zero, suc, ◌+◌, ◌*◌, ◌≤◌, ◌<◌}
use native.Mathlib.Decide.{dec_le}
use native.Mathlib.Omega.{arith}
use lib.Dec.{T, eqb}
use lib.ListN.{length}
use borrow.Author.Tests.{eqb-true, eq-eqb}
use Rattle.std.proofs.lemmas.Bool.{and_from, or_cases, or_left, or_right}
use Rattle.lists.specs.Lists.{memb, first_of}
use Rattle.lists.proofs.Tests.{t→true, true→t}
use Rattle.graph.specs.Network.{Network, HasNoYard, delivers, Walk, stay, step, IsDist, IsEcc, IsDiameter}
use Rattle.graph.specs.Distance.{vertices, unreached}
use Rattle.graph.specs.Chart.{chart}
use Rattle.graph.specs.Opening.{Notice, add_depot, by_code, with_depot, open_faults}
use Rattle.graph.specs.Linking.{add_link, link_faults}
use Rattle.graph.specs.Correct.{IsNet}
use Rattle.graph.specs.Movement.{RisesByOne, HalvesAtMost, OpeningMoves, LinkingMoves}
use Rattle.graph.proofs.Walks.{snoc}
use Rattle.graph.proofs.Delivers.{delivers_open, delivers_of}
use Rattle.graph.proofs.Insertion.{walk_old, opened_grown}
use Rattle.graph.proofs.Charts.{depot_in, chart-dist, chart-only, chart_metric, chart-ecc}
use Rattle.graph.proofs.Opened.{known_of, joined_of}
use Rattle.graph.proofs.Linked.{IsLinkable, linkable_of, either_link, grown_first, linkable_net}

first_step : {G : Network} {k u v : ℕ} → Walk G (suc k) u v → (w : ℕ) × T (G.linked u w) × Walk G k w v
first_step (step {v = w} l p) = (w, l, p)

-- ---- a diameter bounds every distance, and is one unless it is 0

module _ (G : Network) (net : IsNet G) (D : ℕ) (dia : IsDiameter G (delivers G) D) where
  distance_le : HasNoYard G → (u v k : ℕ) → T (G.is_open u) → T (G.is_open v) → IsDist G u v k → k ≤ D
  distance_le without u v k ou ov p =
      let e = chart-ecc G net u ou in
      omega (arith, e.upper k (v, delivers_of G v ov (without v), p), dia.upper _ (u, delivers_of G u ou (without u), e))

module _ (G : Network) (D : ℕ) (dia : IsDiameter G (delivers G) D) where
  distance_at : (D ≡ 0) ⊎ ((u v : ℕ) × T (G.is_open u) × T (G.is_open v) × IsDist G u v D)
  distance_at = go dia.attained
    where
      inner : (u : ℕ) → T (delivers G u) → (D ≡ 0) ⊎ ((v : ℕ) × T (delivers G v) × IsDist G u v D) → (D ≡ 0) ⊎ ((u v : ℕ) × T (G.is_open u) × T (G.is_open v) × IsDist G u v D)
      inner u du (inl z) = inl z
      inner u du (inr y) = inr (u, y.0, delivers_open G u du, delivers_open G y.0 y.1, y.2)

      go : (D ≡ 0) ⊎ ((u : ℕ) × T (delivers G u) × IsEcc G (delivers G) u D) → (D ≡ 0) ⊎ ((u v : ℕ) × T (G.is_open u) × T (G.is_open v) × IsDist G u v D)
      go (inl z) = inl z
      go (inr x) = inner x.0 x.1 x.2.attained

-- ---- AN OPENING: from the new depot a link leads to a neighbour, and from there at most D go on

module _ (G : Network) (net : IsNet G) (without : HasNoYard G) (o : Notice) (ok : first_of (open_faults G o) ≡ 0) where
  abbrev a : ℕ
  a = o.code

  abbrev H : Network
  H = with_depot G o

  abbrev beside : ℕ → Bool
  beside v = memb v o.neighbours

  old_walk : {k u v : ℕ} → Walk G k u v → Walk H k u v
  unfolding with_depot
  old_walk p = walk_old G H a (opened_grown by_code G o.yard o.code beside) p

  first_link : (w : ℕ) → memb w o.neighbours ≡ true → T (H.linked a w)
  unfolding with_depot add_depot
  first_link w m = true→t (or_left _ (G.linked a w) (or_left _ (eqb w a && memb a o.neighbours) (and_from _ _ (eq-eqb a a refl) m)))

  last_link : (w : ℕ) → memb w o.neighbours ≡ true → T (H.linked w a)
  unfolding with_depot add_depot
  last_link w m = true→t (or_left _ (G.linked w a) (or_right (eqb w a && memb a o.neighbours) _ (and_from _ _ (eq-eqb a a refl) m)))

  open_cases : (v : ℕ) → T (H.is_open v) → (v ≡ a) ⊎ T (G.is_open v)
  unfolding with_depot add_depot
  open_cases v ov = go (or_cases (eqb v a) (G.is_open v) (t→true (eqb v a || G.is_open v) ov))
    where
      go : (eqb v a ≡ true) ⊎ (G.is_open v ≡ true) → (v ≡ a) ⊎ T (G.is_open v)
      go (inl q) = inl (eqb-true v a q)
      go (inr t) = inr (true→t t)

  module _ (D : ℕ) (dia : IsDiameter G (delivers G) D) where
    from_new : (v k : ℕ) → (v ≡ a) ⊎ T (G.is_open v) → IsDist H a v k → k ≤ D + 1
    from_new v k (inl q) p = omega (arith, p.least 0 (subst (λ (w : ℕ). Walk H 0 a w) (sym q) stay))
    from_new v k (inr ov) p =
        let w = joined_of G net.sound o ok v ov in
        let ow = known_of G o ok w.0 w.1 in
        let d = chart-dist G net w.0 v ow ov in
        omega (arith, p.least _ (step (first_link w.0 w.1) (old_walk d.walk)), distance_le G net D dia without w.0 v _ ow ov d)

    to_new : (v k : ℕ) → T (G.is_open v) → IsDist H v a k → k ≤ D + 1
    to_new v k ov p =
        let w = joined_of G net.sound o ok v ov in
        let ow = known_of G o ok w.0 w.1 in
        let d = chart-dist G net v w.0 ov ow in
        omega (arith, p.least _ (snoc (old_walk d.walk) (last_link w.0 w.1)), distance_le G net D dia without v w.0 _ ov ow d)

    raised : (u v k : ℕ) → (u ≡ a) ⊎ T (G.is_open u) → (v ≡ a) ⊎ T (G.is_open v) → IsDist H u v k → k ≤ D + 1
    raised u v k (inl q) y p = from_new v k y (subst (λ (w : ℕ). IsDist H w v k) q p)
    raised u v k (inr ou) (inl q) p = to_new u k ou (subst (λ (w : ℕ). IsDist H u w k) q p)
    raised u v k (inr ou) (inr ov) p =
        let d = chart-dist G net u v ou ov in
        omega (arith, p.least _ (old_walk d.walk), distance_le G net D dia without u v _ ou ov d)

  opened_moves : RisesByOne G H
  opened_moves = record { most = λ D E was is. go D E was (distance_at H E is) }
    where
      go : (D E : ℕ) → IsDiameter G (delivers G) D → (E ≡ 0) ⊎ ((u v : ℕ) × T (H.is_open u) × T (H.is_open v) × IsDist H u v E) → E ≤ D + 1
      go D E was (inl z) = omega arith
      go D E was (inr x) = raised D was x.0 x.1 E (open_cases x.0 x.2) (open_cases x.1 x.3) x.4

-- ---- A LINK

module _ (G : Network) (net : IsNet G) (without : HasNoYard G) (a₁ b₁ : ℕ) (ok : first_of (link_faults G a₁ b₁) ≡ 0) where
  abbrev K : Network
  K = add_link G a₁ b₁

  linkable : IsLinkable G a₁ b₁
  linkable = linkable_of G a₁ b₁ ok

  net_linked : IsNet K
  net_linked = linkable_net G net a₁ b₁ linkable

  open_old : (v : ℕ) → T (G.is_open v) → T (K.is_open v)
  unfolding add_link
  open_old v ov = ov

  open_back : (v : ℕ) → T (K.is_open v) → T (G.is_open v)
  unfolding add_link
  open_back v ov = ov

  without_linked : HasNoYard K
  unfolding add_link
  without_linked = without

  -- the distances before and after
  d : ℕ → ℕ → ℕ
  d = (chart G).distance

  d' : ℕ → ℕ → ℕ
  d' = (chart K).distance

  triangle : (u v w : ℕ) → T (G.is_open u) → T (G.is_open v) → T (G.is_open w) → d u w ≤ d u v + d v w
  unfolding d
  triangle u v w ou ov ow = (chart_metric G net).triangle u v w (depot_in G net u ou) (depot_in G net v ov) (depot_in G net w ow)

  turned : (u v : ℕ) → T (G.is_open u) → T (G.is_open v) → d u v ≡ d v u
  unfolding d
  turned u v ou ov = (chart_metric G net).symmetric u v (depot_in G net u ou) (depot_in G net v ov)

  self : (u : ℕ) → T (G.is_open u) → d u u ≡ 0
  unfolding d
  self u ou = (chart_metric G net).self u (depot_in G net u ou)

  is_dist_lem : (u v k : ℕ) → T (G.is_open u) → T (G.is_open v) → IsDist G u v k → d u v ≡ k
  unfolding d
  is_dist_lem u v k ou ov p = chart-only G net u v k ou ov p

  is_far_lem : (u v k : ℕ) → T (G.is_open u) → T (G.is_open v) → d u v ≡ k → IsDist G u v k
  unfolding d
  is_far_lem u v k ou ov e = subst (λ (n : ℕ). IsDist G u v n) e (chart-dist G net u v ou ov)

  -- a link of G is a distance of at most 1
  one : (u v : ℕ) → T (G.is_open u) → T (G.is_open v) → T (G.linked u v) → d u v ≤ 1
  unfolding d
  one u v ou ov m = (chart-dist G net u v ou ov).least 1 (step m stay)

  -- a walk of k links after: k is at least the old distance, or the length of a way over the new link
  Near : ℕ → ℕ → ℕ → Type 0
  Near u v k = (d u v ≤ k) ⊎ ((d u a₁ + 1 + d b₁ v ≤ k) ⊎ (d u b₁ + 1 + d a₁ v ≤ k))

  walk_near : {k u v : ℕ} → T (G.is_open u) → T (G.is_open v) → Walk K k u v → Near u v k
  unfolding Near
  walk_near {u = u} ou ov stay = inl (omega (arith, self u ou))
  walk_near {v = t} ou ov (step {k = k} {u = u} {v = v} m p) = go (either_link G a₁ b₁ u v m) (walk_near ow ov p)
    where
      ow : T (G.is_open v)
      ow = open_back v (net_linked.sound.ends u v m)

      oa : T (G.is_open a₁)
      oa = linkable.first

      ob : T (G.is_open b₁)
      ob = linkable.second

      go : ((u ≡ a₁) × (v ≡ b₁)) ⊎ (((u ≡ b₁) × (v ≡ a₁)) ⊎ T (G.linked u v)) → (d v t ≤ k) ⊎ ((d v a₁ + 1 + d b₁ t ≤ k) ⊎ (d v b₁ + 1 + d a₁ t ≤ k))
          → (d u t ≤ suc k) ⊎ ((d u a₁ + 1 + d b₁ t ≤ suc k) ⊎ (d u b₁ + 1 + d a₁ t ≤ suc k))
      go (inl x) (inl h) =
          let e : d u a₁ ≡ d a₁ a₁ = ap (λ (w : ℕ). d w a₁) x.0 in
          let f : d v t ≡ d b₁ t = ap (λ (w : ℕ). d w t) x.1 in
          inr (inl (omega (arith, self a₁ oa)))
      go (inl x) (inr (inl h)) = let e : d u a₁ ≡ d a₁ a₁ = ap (λ (w : ℕ). d w a₁) x.0 in inr (inl (omega (arith, self a₁ oa)))
      go (inl x) (inr (inr h)) = let e : d u t ≡ d a₁ t = ap (λ (w : ℕ). d w t) x.0 in inl (omega arith)
      go (inr (inl x)) (inl h) =
          let e : d u b₁ ≡ d b₁ b₁ = ap (λ (w : ℕ). d w b₁) x.0 in
          let f : d v t ≡ d a₁ t = ap (λ (w : ℕ). d w t) x.1 in
          inr (inr (omega (arith, self b₁ ob)))
      go (inr (inl x)) (inr (inl h)) = let e : d u t ≡ d b₁ t = ap (λ (w : ℕ). d w t) x.0 in inl (omega arith)
      go (inr (inl x)) (inr (inr h)) = let e : d u b₁ ≡ d b₁ b₁ = ap (λ (w : ℕ). d w b₁) x.0 in inr (inr (omega (arith, self b₁ ob)))
      go (inr (inr n)) (inl h) = inl (omega (arith, one u v ou ow n, triangle u v t ou ow ov))
      go (inr (inr n)) (inr (inl h)) = inr (inl (omega (arith, one u v ou ow n, triangle u v a₁ ou ow oa)))
      go (inr (inr n)) (inr (inr h)) = inr (inr (omega (arith, one u v ou ow n, triangle u v b₁ ou ow ob)))

  near : (u v : ℕ) → T (G.is_open u) → T (G.is_open v) → Near u v (d' u v)
  unfolding d'
  near u v ou ov = walk_near ou ov (chart-dist K net_linked u v (open_old u ou) (open_old v ov)).walk

  -- A way that was shortest, u .. x, y .. v with a link of x and y: the new link cannot shorten both u .. y and x .. v.
  -- For then it is crossed on both, the same way round or not, and in each case the old distances were shorter than they are.
  module _ (u v x y i m : ℕ) (ou : T (G.is_open u)) (ov : T (G.is_open v)) (ox : T (G.is_open x)) (oy : T (G.is_open y))
      (whole : d u v ≡ i + 1 + m) (ahead : d u x ≡ i) (behind : d y v ≡ m) (first : d u y ≡ i + 1) (last : d x v ≡ m + 1) where
    not_both : d' u y < d u y → d' x v < d x v → ⊥
    unfolding Near
    not_both p q = go (near u y ou oy) (near x v ox ov)
      where
        oa : T (G.is_open a₁)
        oa = linkable.first

        ob : T (G.is_open b₁)
        ob = linkable.second

        go : (d u y ≤ d' u y) ⊎ ((d u a₁ + 1 + d b₁ y ≤ d' u y) ⊎ (d u b₁ + 1 + d a₁ y ≤ d' u y))
            → (d x v ≤ d' x v) ⊎ ((d x a₁ + 1 + d b₁ v ≤ d' x v) ⊎ (d x b₁ + 1 + d a₁ v ≤ d' x v)) → ⊥
        go (inl h) k = omega arith
        go (inr h) (inl k) = omega arith
        go (inr (inl h)) (inr (inl k)) = omega (arith, triangle u a₁ x ou oa ox, turned a₁ x oa ox, triangle y b₁ v oy ob ov, turned y b₁ oy ob)
        go (inr (inl h)) (inr (inr k)) = omega (arith, triangle u a₁ v ou oa ov)
        go (inr (inr h)) (inr (inl k)) = omega (arith, triangle u b₁ v ou ob ov)
        go (inr (inr h)) (inr (inr k)) = omega (arith, triangle u b₁ x ou ob ox, turned b₁ x ob ox, triangle y a₁ v oy oa ov, turned y a₁ oy oa)

  -- so a shortest way u .. v has a depot x on it, the parts before and after which are as short as they were
  module _ (u v D : ℕ) (ou : T (G.is_open u)) (ov : T (G.is_open v)) (far : d u v ≡ D) where
    halves : (n i x : ℕ) → T (G.is_open x) → i + n ≡ D → d u x ≡ i → d u x ≤ d' u x → IsDist G x v n → (w : ℕ) × T (G.is_open w) × (D ≤ d' u w + d' w v)
    halves zero i x ox e ahead kept p = (x, ox, omega arith)
    halves (suc m) i x ox e ahead kept p = along (dec_le (d u y) (d' u y)) (dec_le (d x v) (d' x v)) (λ k. halves m (i + 1) y oy (omega arith) next k rest)
      where
        s : (y : ℕ) × T (G.linked x y) × Walk G m y v
        s = first_step p.walk

        y : ℕ
        y = s.0

        oy : T (G.is_open y)
        oy = net.sound.ends x y s.1

        rest : IsDist G y v m
        rest = record { walk = s.2; least = λ k q. let h : suc m ≤ suc k = p.least (suc k) (step s.1 q) in omega arith }

        last : d x v ≡ m + 1
        last = let h : d x v ≡ suc m = is_dist_lem x v (suc m) ox ov p in omega arith

        behind : d y v ≡ m
        behind = is_dist_lem y v m oy ov rest

        next : d u y ≡ i + 1
        next = omega (arith, one x y ox oy s.1, triangle u x y ou ox oy, triangle u y v ou oy ov, behind)

        along : Dec (d u y ≤ d' u y) → Dec (d x v ≤ d' x v) → (d u y ≤ d' u y → (w : ℕ) × T (G.is_open w) × (D ≤ d' u w + d' w v)) → (w : ℕ) × T (G.is_open w) × (D ≤ d' u w + d' w v)
        along (yes k) o ih = ih k
        along (no k) (yes h) ih = (x, ox, omega (arith, last))
        along (no k) (no h) ih = absurd (not_both u v x y i m ou ov ox oy (omega arith) ahead behind next last (omega arith) (omega arith))

    half : (w : ℕ) × T (G.is_open w) × (D ≤ d' u w + d' w v)
    half = halves D 0 u ou (omega arith) (self u ou) (omega (arith, self u ou)) (is_far_lem u v D ou ov far)

  linked_moves : HalvesAtMost G K
  unfolding d'
  linked_moves = record { never = λ D E was is. never D E was (distance_at K E is); twice = λ D E was is. twice D E is (distance_at G D was) }
    where
      never : (D E : ℕ) → IsDiameter G (delivers G) D → (E ≡ 0) ⊎ ((u v : ℕ) × T (K.is_open u) × T (K.is_open v) × IsDist K u v E) → E ≤ D
      never D E was (inl z) = omega arith
      never D E was (inr x) =
          let ou = open_back x.0 x.2 in
          let ov = open_back x.1 x.3 in
          let p = chart-dist G net x.0 x.1 ou ov in
          omega (arith, x.4.least _ (walk_old G K a₁ (grown_first G a₁ b₁) p.walk), distance_le G net D was without x.0 x.1 _ ou ov p)

      twice : (D E : ℕ) → IsDiameter K (delivers K) E → (D ≡ 0) ⊎ ((u v : ℕ) × T (G.is_open u) × T (G.is_open v) × IsDist G u v D) → D ≤ 2 * E
      twice D E is (inl z) = omega arith
      twice D E is (inr x) =
          let ou = open_old x.0 x.2 in
          let ov = open_old x.1 x.3 in
          let h = half x.0 x.1 D x.2 x.3 (is_dist_lem x.0 x.1 D x.2 x.3 x.4) in
          let ow = open_old h.0 h.1 in
          omega (arith, h.2, distance_le K net_linked E is without_linked x.0 h.0 _ ou ow (chart-dist K net_linked x.0 h.0 ou ow), distance_le K net_linked E is without_linked h.0 x.1 _ ow ov (chart-dist K net_linked h.0 x.1 ow ov))

-- ---- THE THEOREMS

pub opening_moves : OpeningMoves
opening_moves G net without o ok = opened_moves G net without o ok

pub linking_moves : LinkingMoves
linking_moves G net without a b ok = linked_moves G net without a b ok
