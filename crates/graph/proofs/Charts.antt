-- From networks to metric spaces and back: a sound, connected network's chart is a metric space, and right figures of the chart are the published ones. Assumes nothing.
use mathlib.Core.Path.{◌≡◌, refl, sym, ◌∙◌, subst, fun_ext}
use mathlib.Core.Logic.{◌⊎◌, inl, inr, ◌↔◌}
use mathlib.Core.Bool.{true, ◌&&◌}
use mathlib.Core.List.{Memᴰ}
use Prim.Native.Nat.{ℕ, ◌≤◌, ◌<◌}
use native.Mathlib.Nat.{le_antisymm}
use native.Mathlib.Omega.{arith}
use lib.Dec.{T, eqb, ltb}
use lib.ListN.{length}
use borrow.Author.Tests.{ltb-true, lt-ltb, eqb-true, eq-eqb}
use Rattle.std.proofs.lemmas.Bool.{and_parts, and_from}
use Rattle.lists.proofs.Tests.{t→true, true→t, same_test}
use Rattle.graph.specs.Network.{Network, IsDist, delivers, IsGreatest, IsEcc, IsDiameter, IsFarthest}
use Rattle.graph.specs.Distance.{vertices, dist}
use Rattle.graph.specs.Chart.{chart, ecc, greatest_ecc, diameter, Pairs, farthest}
use Rattle.graph.specs.Correct.{IsNet}
use Rattle.graph.proofs.Walks.{cast, walk_zero, dist_unique, dist_triangle, dist_self, dist-sym}
use Rattle.graph.proofs.Delivers.{delivers_open}
use Rattle.graph.proofs.Distances.{vertices_in, vertices_out, dist_is, dist_below}
use Rattle.graph.proofs.Metric.{IsMetric, ecc_ge, ecc_at}
use Rattle.graph.proofs.Right.{IsFar, IsRight, greatest_at, greatest_pair, right_is_greatest}

pub greatest_unique : {P : ℕ → Type 0} {m n : ℕ} → IsGreatest P m → IsGreatest P n → m ≡ n
greatest_unique {P} {m} {n} p q = le_antisymm (go m n p.attained q.upper) (go n m q.attained p.upper)
  where
    go : (x y : ℕ) → (x ≡ 0) ⊎ P x → ((k : ℕ) → P k → k ≤ y) → x ≤ y
    go x y (inl z) f = omega arith
    go x y (inr h) f = f x h

pub chart_d : (G : Network) (u v : ℕ) → (chart G).distance u v ≡ dist G u v
unfolding chart
chart_d G u v = refl

-- the chart's depots are the open ones
pub depot_in : (G : Network) → IsNet G → (v : ℕ) → T (G.is_open v) → Memᴰ v (chart G).depots
unfolding chart
depot_in G net v o = vertices_in G net.sound v o

pub depot_out : (G : Network) → IsNet G → {v : ℕ} → Memᴰ v (chart G).depots → T (G.is_open v)
unfolding chart
depot_out G net m = vertices_out G net.sound m

module _ (G : Network) (net : IsNet G) where
  -- the chart's distances are the distances
  pub chart-dist : (u v : ℕ) → T (G.is_open u) → T (G.is_open v) → IsDist G u v ((chart G).distance u v)
  chart-dist u v ou ov =
      let w = net.connected u v ou ov in
      subst (λ (d : ℕ). IsDist G u v d) (sym (chart_d G u v)) (dist_is G net.sound net.small u ou w.0 v w.1)

  pub chart-only : (u v d : ℕ) → T (G.is_open u) → T (G.is_open v) → IsDist G u v d → (chart G).distance u v ≡ d
  chart-only u v d ou ov p = dist_unique (chart-dist u v ou ov) p

  pub chart_metric : IsMetric (chart G)
  unfolding chart
  chart_metric = record {
    inside = λ v t. vertices_in G net.sound v (delivers_open G v (true→t t));
    symmetric = λ u v mu mv. let ou = vertices_out G net.sound mu in let ov = vertices_out G net.sound mv in chart-only u v ((chart G).distance v u) ou ov (dist-sym net.sound (chart-dist v u ov ou));
    triangle = λ u v w mu mv mw.
        let ou = vertices_out G net.sound mu in let ov = vertices_out G net.sound mv in let ow = vertices_out G net.sound mw in
        dist_triangle (chart-dist u v ou ov) (chart-dist v w ov ow) (chart-dist u w ou ow);
    small = λ u v mu mv.
        let ou = vertices_out G net.sound mu in let ov = vertices_out G net.sound mv in
        let a : (chart G).distance u v < length (vertices G) = dist_below G net.sound net.small u ou ((chart G).distance u v) v (chart-dist u v ou ov) in
        omega (arith, net.small);
    self = λ u mu. let ou = vertices_out G net.sound mu in chart-only u u 0 ou ou dist_self;
    apart = λ u v mu mv z. let ou = vertices_out G net.sound mu in let ov = vertices_out G net.sound mv in walk_zero (cast z (chart-dist u v ou ov).walk);
  }

  -- ---- right figures are the published ones

  -- the chart's eccentricity is the eccentricity
  pub chart-ecc : (u : ℕ) → T (G.is_open u) → IsEcc G (delivers G) u (ecc (chart G) u)
  unfolding chart
  chart-ecc u ou = record {
    upper = λ k x. subst (λ (n : ℕ). n ≤ ecc (chart G) u) (chart-only u x.0 k ou (delivers_open G x.0 x.1) x.2) (ecc_ge (chart G) chart_metric u x.0 (t→true (delivers G x.0) x.1));
    attained = at (ecc_at (chart G) chart_metric u);
  }
    where
      at : (ecc (chart G) u ≡ 0) ⊎ ((v : ℕ) × (delivers G v ≡ true) × ((chart G).distance u v ≡ ecc (chart G) u)) → (ecc (chart G) u ≡ 0) ⊎ ((v : ℕ) × T (delivers G v) × IsDist G u v (ecc (chart G) u))
      at (inl z) = inl z
      at (inr x) = inr (x.0, true→t x.1, subst (λ (n : ℕ). IsDist G u x.0 n) x.2 (chart-dist u x.0 ou (delivers_open G x.0 (true→t x.1))))

  module _ (c : ℕ) (P : Pairs) (right : IsRight (chart G) c P) where
    far_le : (u v k : ℕ) → T (delivers G u) → T (delivers G v) → IsDist G u v k → k ≤ c
    unfolding chart
    far_le u v k ou ov p = subst (λ (n : ℕ). n ≤ c) (chart-only u v k (delivers_open G u ou) (delivers_open G v ov) p) (right.upper u v (t→true (delivers G u) ou) (t→true (delivers G v) ov))

    pub right_diameter : IsDiameter G (delivers G) c
    unfolding chart
    right_diameter = record { upper = λ k x. up k x.0 x.1 x.2.attained; attained = at right.attained }
      where
        up : (k u : ℕ) → T (delivers G u) → (k ≡ 0) ⊎ ((v : ℕ) × T (delivers G v) × IsDist G u v k) → k ≤ c
        up k u ou (inl z) = omega arith
        up k u ou (inr x) = far_le u x.0 k ou x.1 x.2

        at : (c ≡ 0) ⊎ ((u v : ℕ) × (delivers G u ≡ true) × (delivers G v ≡ true) × ((chart G).distance u v ≡ c)) → (c ≡ 0) ⊎ ((u : ℕ) × T (delivers G u) × IsEcc G (delivers G) u c)
        at (inl z) = inl z
        at (inr x) = inr (
          x.0,
          true→t x.2,
          record {
            upper = λ k y. far_le x.0 y.0 k (true→t x.2) y.1 y.2;
            attained = inr (x.1, true→t x.3, subst (λ (n : ℕ). IsDist G x.0 x.1 n) x.4 (chart-dist x.0 x.1 (delivers_open G x.0 (true→t x.2)) (delivers_open G x.1 (true→t x.3))));
          },
        )

    pub right_farthest : (u v : ℕ) → T (P u v) ↔ IsFarthest G (delivers G) u v
    unfolding chart
    right_farthest u v = (to, back)
      where
        to : T (P u v) → IsFarthest G (delivers G) u v
        to h =
            let p = right.is_far u v (t→true (P u v) h) in
            record {
              before = p.before;
              first = true→t p.first;
              second = true→t p.second;
              diameter = c;
              is_diameter = right_diameter;
              is_dist = subst (λ (n : ℕ). IsDist G u v n) p.far (chart-dist u v (delivers_open G u (true→t p.first)) (delivers_open G v (true→t p.second)));
            }

        back : IsFarthest G (delivers G) u v → T (P u v)
        back q =
            true→t (right.is_pair u v record {
              before = q.before;
              first = t→true (delivers G u) q.first;
              second = t→true (delivers G v) q.second;
              far = chart-only u v q.diameter (delivers_open G u q.first) (delivers_open G v q.second) q.is_dist ∙ greatest_unique q.is_diameter right_diameter;
            })

-- ---- the figures of a network, computed

module _ (G : Network) (net : IsNet G) where
  pub farthest_right : IsRight (chart G) (diameter G) (farthest G)
  unfolding chart farthest diameter
  farthest_right = record {
    upper = λ u v tu tv. subst (λ (n : ℕ). (chart G).distance u v ≤ n) dia (greatest_pair (chart G) M u v tu tv);
    attained = subst (λ (n : ℕ). (n ≡ 0) ⊎ ((u v : ℕ) × (delivers G u ≡ true) × (delivers G v ≡ true) × ((chart G).distance u v ≡ n))) dia (greatest_at (chart G) M);
    is_far = λ u v h.
        let p = and_parts (ltb u v && delivers G u && delivers G v) (eqb ((chart G).distance u v) (diameter G)) h in
        let q = and_parts (ltb u v && delivers G u) (delivers G v) p.0 in
        let r = and_parts (ltb u v) (delivers G u) q.0 in
        record { before = ltb-true u v r.0; first = r.1; second = q.1; far = eqb-true ((chart G).distance u v) (diameter G) p.1 };
    is_pair = λ u v p. and_from _ _ (and_from _ _ (and_from _ _ (lt-ltb u v p.before) p.first) p.second) (eq-eqb ((chart G).distance u v) (diameter G) p.far);
  }
    where
      M : IsMetric (chart G)
      M = chart_metric G net

      dia : greatest_ecc (chart G) ≡ diameter G
      dia = refl

  -- right figures are these
  pub right_farthest_is : (c : ℕ) (P : Pairs) → IsRight (chart G) c P → P ≡ farthest G
  unfolding diameter
  right_farthest_is c P r = fun_ext (λ u. fun_ext (λ v. same_test (P u v) (farthest G u v) (λ h. farthest_right.is_pair u v (to (r.is_far u v h))) (λ h. r.is_pair u v (from (farthest_right.is_far u v h)))))
    where
      e : c ≡ diameter G
      e = right_is_greatest (chart G) (chart_metric G net) c P r

      to : {u v : ℕ} → IsFar (chart G) c u v → IsFar (chart G) (diameter G) u v
      to {u} {v} p = subst (λ (n : ℕ). IsFar (chart G) n u v) e p

      from : {u v : ℕ} → IsFar (chart G) (diameter G) u v → IsFar (chart G) c u v
      from {u} {v} p = subst (λ (n : ℕ). IsFar (chart G) n u v) (sym e) p
