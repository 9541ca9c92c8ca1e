-- THE GREATEST FIGURES: depots in a path have the longest chain, depots all linked the most farthest pairs. Shown from walks, by the published words
-- alone; no distance is computed. Assumes nothing.
use mathlib.Core.Path.{◌≡◌, refl, sym, ap, ◌∙◌, subst}
use mathlib.Core.Logic.{◌⊎◌, inl, inr, ◌↔◌}
use mathlib.Core.Bool.{Bool, true, false, not, ◌&&◌}
use Prim.Native.Nat.{ℕ, zero, suc, ◌+◌, ◌-◌, ◌*◌, ◌/◌, ◌≤◌, ◌<◌}
use native.Mathlib.Omega.{arith}
use lib.Dec.{T, eqb, ltb}
use lib.ListN.{length}
use borrow.Author.Tests.{ltb-true, lt-ltb, eqb-true, eq-eqb, ne_eqb}
use Rattle.std.proofs.lemmas.Bool.{cases_lt, and_parts, and_from}
use Rattle.std.proofs.lemmas.Nat.{div-mul-add}
use Rattle.lists.specs.Lists.{range, countb}
use Rattle.lists.proofs.Tests.{t→true, true→t, clash}
use Rattle.lists.proofs.Members.{length-range, range_out}
use Rattle.lists.proofs.Counts.{count_ext, count_none, count_mono, sum_ext, count_one_lem}
use Rattle.lists.proofs.Distinct.{memb-range, distinct-range}
use Rattle.lists.proofs.Sums.{weight, count_sum, sum_le}
use Rattle.graph.specs.Network.{Network, IsSound, Walk, stay, step, IsDist, delivers, IsEcc, IsDiameter, IsFarthest}
use Rattle.graph.specs.Chart.{Pairs, count_pairs}
use Rattle.graph.specs.Correct.{IsNet}
use Rattle.graph.specs.Cases.{path}
use Rattle.graph.specs.Greatest.{complete, HasFigures, GreatestFigures}
use Rattle.graph.proofs.Walks.{snoc, walk_zero, reverse}
use Rattle.graph.proofs.Delivers.{delivers_open, delivers_of}
use Rattle.graph.proofs.Charts.{greatest_unique}
use Rattle.graph.proofs.Theorems.{distance_below}
use Rattle.graph.proofs.Summary.{pairs_twice}
use Rattle.graph.proofs.Paths.{linked_is, linked_by_lem, open_is, open_by, path_sound, path_net}

-- D is the diameter if no two destinations are farther apart, and two are so far
module _ (G : Network) (D a b : ℕ) (most : (u v k : ℕ) → T (delivers G u) → T (delivers G v) → IsDist G u v k → k ≤ D)
    (ta : T (delivers G a)) (tb : T (delivers G b)) (far : IsDist G a b D) where
  reached_diameter : IsDiameter G (delivers G) D
  reached_diameter = record {
    upper = λ k x. up k x.0 x.1 x.2.attained;
    attained = inr (a, ta, record { upper = λ k y. most a y.0 k ta y.1 y.2; attained = inr (b, tb, far) });
  }
    where
      up : (k u : ℕ) → T (delivers G u) → (k ≡ 0) ⊎ ((v : ℕ) × T (delivers G v) × IsDist G u v k) → k ≤ D
      up k u t (inl z) = omega arith
      up k u t (inr x) = most u x.0 k t x.1 x.2

-- half of a double
half : (c m : ℕ) → 2 * c ≡ m → c ≡ m / 2
half c m e = sym (div-mul-add c 2 0 (omega arith)) ∙ ap (λ (x : ℕ). x / 2) (omega (arith, e))

-- half is below half
half_le : (c m : ℕ) → 2 * c ≤ m → c ≤ m / 2
half_le c m l = omega (arith, l)

-- ---- a path

module _ (n : ℕ) (two : 1 < n) where
  path_inside : (u : ℕ) → T (delivers (path n) u) → u < n
  path_inside u t = open_is n u (delivers_open (path n) u t)

  path_delivers : (u : ℕ) → u < n → T (delivers (path n) u)
  unfolding path
  path_delivers u l = delivers_of (path n) u (open_by n u l) refl

  -- a walk leads no farther, up or down, than it has links
  walk_near : {k u v : ℕ} → Walk (path n) k u v → (v ≤ u + k) × (u ≤ v + k)
  walk_near stay = (omega arith, omega arith)
  walk_near (step {k = k} {u = u} {v = v} {w = w} l p) = go (linked_is n u v l).2 (walk_near p)
    where
      go : (suc u ≡ v) ⊎ (u ≡ suc v) → (w ≤ v + k) × (v ≤ w + k) → (w ≤ u + suc k) × (u ≤ w + suc k)
      go (inl e) r = (omega (arith, e, r.0), omega (arith, e, r.1))
      go (inr e) r = (omega (arith, e, r.0), omega (arith, e, r.1))

  up_walk : (u v d : ℕ) → u + d ≡ v → v < n → Walk (path n) d u v
  up_walk u v zero e m = subst (λ (x : ℕ). Walk (path n) 0 u x) (omega arith) stay
  up_walk u v (suc d) e m =
      snoc (up_walk u (u + d) d refl (omega arith)) (linked_by_lem n (u + d) v (omega arith) m (inl (omega arith)))

  up_to : (u v : ℕ) → u ≤ v → v < n → Walk (path n) (v - u) u v
  up_to u v l m = up_walk u v (v - u) (omega arith) m

  path_far : (u v k : ℕ) → T (delivers (path n) u) → T (delivers (path n) v) → IsDist (path n) u v k → k ≤ n - 1
  path_far u v k tu tv p = go (cases_lt u v)
    where
      go : (u < v) ⊎ (v ≤ u) → k ≤ n - 1
      go (inl l) = omega (arith, p.least (v - u) (up_to u v (omega arith) (path_inside v tv)), path_inside v tv)
      go (inr l) = omega (arith, p.least (u - v) (reverse (path_sound n) (up_to v u l (path_inside u tu))), path_inside u tu)

  ends_apart : IsDist (path n) 0 (n - 1) (n - 1)
  ends_apart = record { walk = up_walk 0 (n - 1) (n - 1) (omega arith) (omega arith); least = λ k p. omega (arith, (walk_near p).0) }

  path_diameter : IsDiameter (path n) (delivers (path n)) (n - 1)
  path_diameter = reached_diameter (path n) (n - 1) 0 (n - 1) path_far (path_delivers 0 (omega arith)) (path_delivers (n - 1) (omega arith)) ends_apart

  abbrev ends : Pairs
  ends u v = eqb u 0 && eqb v (n - 1)

  ends_are : (u v : ℕ) → T (ends u v) ↔ IsFarthest (path n) (delivers (path n)) u v
  ends_are u v = (to, back)
    where
      to : T (ends u v) → IsFarthest (path n) (delivers (path n)) u v
      to h =
          let p = and_parts (eqb u 0) (eqb v (n - 1)) (t→true (ends u v) h) in
          let a : u ≡ 0 = eqb-true u 0 p.0 in
          let b : v ≡ n - 1 = eqb-true v (n - 1) p.1 in
          record {
            before = omega arith;
            first = path_delivers u (omega arith);
            second = path_delivers v (omega arith);
            diameter = n - 1;
            is_diameter = path_diameter;
            is_dist = rw (a, b) ends_apart;
          }

      back : IsFarthest (path n) (delivers (path n)) u v → T (ends u v)
      back q =
          let l : u < v = q.before in
          let m : v < n = path_inside v q.second in
          let e : q.diameter ≡ n - 1 = greatest_unique q.is_diameter path_diameter in
          let s : q.diameter ≤ v - u = q.is_dist.least (v - u) (up_to u v (omega arith) m) in
          true→t (and_from _ _ (eq-eqb u 0 (omega arith)) (eq-eqb v (n - 1) (omega arith)))

  ends_count : count_pairs (path n).depots ends ≡ 1
  unfolding path count_pairs
  ends_count =
      sum_ext (λ u. countb (λ v. ends u v) (range n)) (λ u. weight (eqb u 0)) (range n) (λ u. row (eqb u 0))
      ∙ sym (count_sum (λ u. eqb u 0) (range n))
      ∙ count_one_lem n 0 (omega arith)
    where
      row : (b : Bool) → countb (λ v. b && eqb v (n - 1)) (range n) ≡ weight b
      row true = count_one_lem n (n - 1) (omega arith)
      row false = count_none (λ v. false) (range n) (λ v m. refl)

  path_figures : HasFigures (path n) (n - 1) 1
  path_figures = record { pairs = ends; are_true = record { chain = path_diameter; pairs = ends_are }; count = ends_count }

-- ---- a complete network

module _ (n : ℕ) where
  all_open : (u : ℕ) → T ((complete n).is_open u) → u < n
  unfolding complete
  all_open u o = ltb-true u n (t→true (ltb u n) o)

  all_opened : (u : ℕ) → u < n → T ((complete n).is_open u)
  unfolding complete
  all_opened u l = true→t (lt-ltb u n l)

  all_linked : (u v : ℕ) → T ((complete n).linked u v) → (u < n) × (v < n) × (u ≡ v → ⊥)
  unfolding complete
  all_linked u v h =
      let p = and_parts (ltb u n && ltb v n) (not (eqb u v)) (t→true (ltb u n && ltb v n && not (eqb u v)) h) in
      let q = and_parts (ltb u n) (ltb v n) p.0 in
      (ltb-true u n q.0, ltb-true v n q.1, λ e. clash p.1 (ap not (eq-eqb u v e)))

  all_link : (u v : ℕ) → u < n → v < n → (u ≡ v → ⊥) → T ((complete n).linked u v)
  unfolding complete
  all_link u v l m d = true→t (and_from _ _ (and_from _ _ (lt-ltb u n l) (lt-ltb v n m)) (ap not (ne_eqb u v d)))

  all_walk : (u v : ℕ) → u < n → v < n → (k : ℕ) × (k ≤ 1) × Walk (complete n) k u v
  all_walk u v l m = go (cases_lt u v) (cases_lt v u)
    where
      go : (u < v) ⊎ (v ≤ u) → (v < u) ⊎ (u ≤ v) → (k : ℕ) × (k ≤ 1) × Walk (complete n) k u v
      go (inl a) b = (1, omega arith, step (all_link u v l m (λ e. omega arith)) stay)
      go (inr a) (inl b) = (1, omega arith, step (all_link u v l m (λ e. omega arith)) stay)
      go (inr a) (inr b) = (0, omega arith, subst (λ (x : ℕ). Walk (complete n) 0 u x) (omega arith) stay)

  complete_sound : IsSound (complete n)
  unfolding complete
  complete_sound = record {
    listed = λ u. sym (memb-range n u);
    once = distinct-range n;
    yards = λ u y. absurd y;
    ends = λ u v h. all_opened v (all_linked u v h).1;
    loopless = λ u v h e. (all_linked u v h).2 e;
    symmetric = λ u v h. let x = all_linked u v h in all_link v u x.1 x.0 (λ e. x.2 (sym e));
  }

  number : length (complete n).depots ≡ n
  unfolding complete
  number = length-range n

  complete_net : n ≤ 256 → IsNet (complete n)
  complete_net low = record {
    sound = complete_sound;
    connected = λ u v ou ov. let x = all_walk u v (all_open u ou) (all_open v ov) in (x.0, x.2);
    small = omega (arith, number, low);
  }

  module _ (two : 1 < n) where
    all_inside : (u : ℕ) → T (delivers (complete n) u) → u < n
    all_inside u t = all_open u (delivers_open (complete n) u t)

    all_deliver : (u : ℕ) → u < n → T (delivers (complete n) u)
    unfolding complete
    all_deliver u l = delivers_of (complete n) u (all_opened u l) refl

    all_near : (u v k : ℕ) → T (delivers (complete n) u) → T (delivers (complete n) v) → IsDist (complete n) u v k → k ≤ 1
    all_near u v k tu tv p =
        let x = all_walk u v (all_inside u tu) (all_inside v tv) in
        omega (arith, x.1, p.least x.0 x.2)

    next : (u v : ℕ) → u < v → v < n → IsDist (complete n) u v 1
    next u v l m = record { walk = step (all_link u v (omega arith) m (λ e. omega arith)) stay; least = far }
      where
        far : (k : ℕ) → Walk (complete n) k u v → 1 ≤ k
        far zero p = let e : u ≡ v = walk_zero p in omega arith
        far (suc k) p = omega arith

    complete_diameter : IsDiameter (complete n) (delivers (complete n)) 1
    complete_diameter = reached_diameter (complete n) 1 0 1 all_near (all_deliver 0 (omega arith)) (all_deliver 1 two) (next 0 1 (omega arith) two)

    abbrev each_two : Pairs
    each_two u v = ltb u v && ltb v n

    each_are : (u v : ℕ) → T (each_two u v) ↔ IsFarthest (complete n) (delivers (complete n)) u v
    each_are u v = (to, λ q. true→t (and_from _ _ (lt-ltb u v q.before) (lt-ltb v n (all_inside v q.second))))
      where
        to : T (each_two u v) → IsFarthest (complete n) (delivers (complete n)) u v
        to h =
            let p = and_parts (ltb u v) (ltb v n) (t→true (each_two u v) h) in
            let l : u < v = ltb-true u v p.0 in
            let m : v < n = ltb-true v n p.1 in
            record {
              before = l;
              first = all_deliver u (omega arith);
              second = all_deliver v m;
              diameter = 1;
              is_diameter = complete_diameter;
              is_dist = next u v l m;
            }

    each_count : count_pairs (complete n).depots each_two ≡ n * (n - 1) / 2
    unfolding complete count_pairs
    each_count =
        sum_ext (λ u. countb (λ v. each_two u v) (range n)) (λ u. countb (λ v. ltb u v) (range n)) (range n)
        (λ u. count_ext (λ v. each_two u v) (λ v. ltb u v) (range n) (λ v m. same u v (range_out n m)))
        ∙ half (count_pairs (range n) ltb) (n * (n - 1)) (pairs_twice (range n) (distinct-range n) ∙ ap (λ (k : ℕ). k * (k - 1)) (length-range n))
      where
        same : (u v : ℕ) → v < n → (ltb u v && ltb v n) ≡ ltb u v
        same u v l = rw (lt-ltb v n l) (right (ltb u v))
          where
            right : (b : Bool) → (b && true) ≡ b
            right true = refl
            right false = refl

    complete_figures : HasFigures (complete n) 1 (n * (n - 1) / 2)
    complete_figures = record { pairs = each_two; are_true = record { chain = complete_diameter; pairs = each_are }; count = each_count }

-- ---- no figures are greater

module _ (G : Network) (net : IsNet G) (D p : ℕ) (F : HasFigures G D p) where
  no_longer : D ≤ length G.depots - 1
  no_longer = go F.are_true.chain.attained
    where
      far : (u : ℕ) → T (delivers G u) → (D ≡ 0) ⊎ ((v : ℕ) × T (delivers G v) × IsDist G u v D) → D ≤ length G.depots - 1
      far u t (inl z) = omega arith
      far u t (inr x) = omega (arith, distance_below G net u x.0 D (delivers_open G u t) x.2)

      go : (D ≡ 0) ⊎ ((u : ℕ) × T (delivers G u) × IsEcc G (delivers G) u D) → D ≤ length G.depots - 1
      go (inl z) = omega arith
      go (inr x) = far x.0 x.1 x.2.attained

  no_more : p ≤ length G.depots * (length G.depots - 1) / 2
  unfolding count_pairs
  no_more =
      half_le p (length G.depots * (length G.depots - 1))
      (omega (
        arith,
        F.count,
        pairs_twice G.depots net.sound.once,
        sum_le (λ u. countb (λ v. F.pairs u v) G.depots) (λ u. countb (λ v. ltb u v) G.depots) G.depots
            (λ u m. count_mono (λ v. F.pairs u v) (λ v. ltb u v) G.depots (λ v k h. lt-ltb u v ((F.are_true.pairs u v).0 (true→t h)).before)),
      ))

pub greatest_figures : GreatestFigures
greatest_figures = record {
  nets = λ n low. (path_net n low, complete_net n low);
  of_path = path_figures;
  of_complete = complete_figures;
  chain_most = no_longer;
  pairs_most = no_more;
  path_256 = path_figures 256 (omega arith);
  complete_256 = complete_figures 256 (omega arith);
}
