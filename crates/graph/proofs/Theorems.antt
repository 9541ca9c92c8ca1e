-- THE THEOREMS of this crate, by the published words. specs/Correct.antt has what they say. Assumes nothing.
use mathlib.Core.Path.{◌≡◌, sym, ap, ◌∙◌, subst, fun_ext}
use mathlib.Core.Logic.{◌↔◌}
use mathlib.Core.Bool.{Bool, not}
use Prim.Native.Nat.{ℕ, suc, ◌+◌, ◌≤◌, ◌<◌}
use native.Mathlib.Omega.{arith}
use lib.Dec.{T}
use lib.ListN.{length}
use borrow.Author.Tests.{not-true}
use Rattle.lists.specs.Lists.{countb, memb, first_of}
use Rattle.lists.proofs.Tests.{t→true, true→t, same_test}
use Rattle.lists.proofs.Distinct.{counted_use}
use Rattle.graph.specs.Network.{Network, IsDist, delivers, IsEcc, IsDiameter, IsFarthest, AreTrue}
use Rattle.graph.specs.Distance.{vertices, unreached, dist}
use Rattle.graph.specs.Chart.{chart, ecc, diameter, Pairs, farthest}
use Rattle.graph.specs.Rounds.{Status, waiting, skipped, searched, State, reckon}
use Rattle.graph.specs.Opening.{Notice, by_code, with_depot, open_faults, opening}
use Rattle.graph.specs.Correct.{IsNet, Stands, AreReferences, AllCovered, IsReckoned, IsSearched, IsOpened}
use Rattle.graph.proofs.Delivers.{delivers_open}
use Rattle.graph.proofs.Distances.{dist_below}
use Rattle.graph.proofs.Connected.{hop_open}
use Rattle.graph.proofs.Metric.{ecc_bound}
use Rattle.graph.proofs.Right.{IsRight, greatest_small, reckon_right}
use Rattle.graph.proofs.OpeningCases.{IsInserted, opening_right}
use Rattle.graph.proofs.Charts.{greatest_unique, depot_in, depot_out, chart-dist, chart-only, chart_metric, chart-ecc, right_diameter, right_farthest, farthest_right}
use Rattle.graph.proofs.Opened.{IsAdmitted, admitted_of, opened_net, inserted}
use Rattle.graph.proofs.Searched.{StandsIn, ReferencesIn, CoveredIn, reckon_references, reckon_cover, opening_references, opening_cover}

-- ---- distance, eccentricity, diameter, farthest pairs: what is computed is what is published

module _ (G : Network) (net : IsNet G) where
  -- the distance is the least number of links of a walk, and below the number of depots
  pub distance_is : (u v : ℕ) → T (G.is_open u) → T (G.is_open v) → IsDist G u v (dist G u v)
  distance_is u v ou ov = hop_open G net u ou v ov

  pub distance_below : (u v d : ℕ) → T (G.is_open u) → IsDist G u v d → d < length (vertices G)
  distance_below u v d ou p = dist_below G net.sound net.small u ou d v p

  pub eccentricity_is : (u : ℕ) → T (G.is_open u) → IsEcc G (delivers G) u (ecc (chart G) u)
  eccentricity_is u ou = chart-ecc G net u ou

  pub diameter_is : IsDiameter G (delivers G) (diameter G)
  diameter_is = right_diameter G net (diameter G) (farthest G) (farthest_right G net)

  pub farthest_is : (u v : ℕ) → T (farthest G u v) ↔ IsFarthest G (delivers G) u v
  farthest_is = right_farthest G net (diameter G) (farthest G) (farthest_right G net)

  pub figures_are : AreTrue G (delivers G) (diameter G) (farthest G)
  figures_are = record { chain = diameter_is; pairs = farthest_is }

  -- true figures are one: the diameter and the farthest pairs of the network
  pub true_chain : (D : ℕ) (P : Pairs) → AreTrue G (delivers G) D P → D ≡ diameter G
  true_chain D P were = greatest_unique were.chain diameter_is

  pub true_pairs : (D : ℕ) (P : Pairs) → AreTrue G (delivers G) D P → P ≡ farthest G
  true_pairs D P were =
      fun_ext (λ u. fun_ext (λ v. same_test (P u v) (farthest G u v)
      (λ h. t→true (farthest G u v) ((farthest_is u v).1 ((were.pairs u v).0 (true→t h))))
      (λ h. t→true (P u v) ((were.pairs u v).1 ((farthest_is u v).0 (true→t h))))))

  pub true_right : (D : ℕ) (P : Pairs) → AreTrue G (delivers G) D P → IsRight (chart G) D P
  true_right D P were =
      subst (λ (c : ℕ). IsRight (chart G) c P) (sym (true_chain D P were))
      (subst (λ (Q : Pairs). IsRight (chart G) (diameter G) Q) (sym (true_pairs D P were)) (farthest_right G net))

  pub true_small : (D : ℕ) (P : Pairs) → AreTrue G (delivers G) D P → D ≤ unreached
  unfolding diameter
  true_small D P were = subst (λ (c : ℕ). c ≤ unreached) (sym (true_chain D P were)) (greatest_small (chart G) (chart_metric G net))

  -- a search from r bounds every eccentricity: e(v) ≤ e(r) + d(r,v)
  pub eccentricity_bound : (r v e f d : ℕ) → T (G.is_open r) → T (G.is_open v) → IsEcc G (delivers G) v e → IsEcc G (delivers G) r f → IsDist G r v d → e ≤ f + d
  eccentricity_bound r v e f d or ov p q w =
      let a : e ≡ ecc (chart G) v = greatest_unique p (chart-ecc G net v ov) in
      let b : f ≡ ecc (chart G) r = greatest_unique q (chart-ecc G net r or) in
      let c : (chart G).distance r v ≡ d = chart-only G net r v d or ov w in
      let l : ecc (chart G) v ≤ ecc (chart G) r + (chart G).distance r v = ecc_bound (chart G) (chart_metric G net) r v (depot_in G net r or) (depot_in G net v ov) in
      omega arith

-- ---- from charts to the published words

module _ (G : Network) (net : IsNet G) where
  pub references_of_lem : (S : State) → ReferencesIn (chart G) S → AreReferences G S
  references_of_lem S R = record {
    inside = λ v h. depot_out G net (R.inside v (t→true (memb v S.references) h));
    distinct = counted;
    stands = λ v ov. go v ov (S.status v) (R.stands v (depot_in G net v ov));
  }
    where
      counted : length S.references ≡ countb (λ v. memb v S.references) (vertices G)
      counted =
          sym (counted_use S.references R.counted (vertices G) net.sound.once
          (λ v h. sym (net.sound.listed v) ∙ t→true (G.is_open v) (depot_out G net (R.inside v h))))

      go : (v : ℕ) → T (G.is_open v) → (s : Status) → StandsIn (chart G) S.references v s → Stands G S.references v s
      go v ov (waiting b g) f = true→t (ap not f)
      go v ov (skipped b g) f =
          let og = depot_out G net (R.inside g f.1) in
          (true→t (ap not f.0), true→t f.1, (ecc (chart G) g, (chart G).distance g v, chart-ecc G net g og, chart-dist G net g v og ov, f.2))
      go v ov (searched e) f = (true→t f.0, subst (λ (n : ℕ). IsEcc G (delivers G) v n) (sym f.1) (chart-ecc G net v ov))

  pub cover_of : (S : State) → ReferencesIn (chart G) S → CoveredIn (chart G) S → AllCovered G S
  cover_of S R cover v tv n =
      let ov = delivers_open G v tv in
      let x = cover v (depot_in G net v ov) (not-true (memb v S.references) (t→true (not (memb v S.references)) n)) in
      let og = depot_out G net (R.inside x.0 x.1) in
      record {
        reference = x.0;
        is_reference = true→t x.1;
        ecc = ecc (chart G) x.0;
        is_ecc = chart-ecc G net x.0 og;
        distance = (chart G).distance x.0 v;
        is_dist = chart-dist G net x.0 v og ov;
        below = x.2;
      }

-- ---- THE WHOLE RECKONING IS CORRECT

pub reckoning_correct : (G : Network) → IsNet G → IsReckoned G (reckon (chart G))
reckoning_correct G net =
    let C = chart G in
    let m = chart_metric G net in
    let S = reckon C in
    let R = reckon_references C m in
    record {
      figures = record {
        chain = right_diameter G net S.candidate S.pairs (reckon_right C m);
        pairs = right_farthest G net S.candidate S.pairs (reckon_right C m);
      };
      references = references_of_lem G net S R;
      cover = cover_of G net S R (reckon_cover C m);
    }

-- ---- AN OPENING IS CORRECT

module _ (G : Network) (net : IsNet G) (o : Notice) (room : suc (length (vertices G)) < unreached) (ok : first_of (open_faults G o) ≡ 0) (D : ℕ) (P : Pairs) where
  abbrev a : ℕ
  a = o.code

  abbrev H : Network
  H = with_depot G o

  abbrev beside : ℕ → Bool
  beside v = memb v o.neighbours

  good : IsAdmitted G o.code beside
  good = admitted_of G net o room ok

  pub net_after : IsNet (with_depot G o)
  unfolding with_depot
  net_after = opened_net by_code G net o.yard o.code beside good

  inserted_a : IsInserted (chart G) (chart H) o.code
  unfolding with_depot
  inserted_a = inserted by_code G net o.yard o.code beside good

  -- whatever figures were stored: references, and the cover after a shrink
  pub opening_covered : D ≤ unreached → IsSearched H (opening (chart H) a D P)
  opening_covered small =
      let m = chart_metric H net_after in
      let R = opening_references (chart H) m a inserted_a.inside D small P in
      record {
        references = references_of_lem H net_after (opening (chart H) a D P).final R;
        cover = λ q. cover_of H net_after (opening (chart H) a D P).final R (opening_cover (chart H) m a inserted_a.inside D small P q);
      }

  module _ (were : AreTrue G (delivers G) D P) where
    pub opening_correct : IsOpened H D (opening (chart H) a D P)
    opening_correct =
        let r = opening_right (chart G) (chart H) (chart_metric H net_after) a D P (true_right G net D P were) inserted_a in
        record {
          figures = record {
            chain = right_diameter H net_after (opening (chart H) a D P).final.candidate (opening (chart H) a D P).final.pairs r.right;
            pairs = right_farthest H net_after (opening (chart H) a D P).final.candidate (opening (chart H) a D P).final.pairs r.right;
          };
          change = r.letter;
          searched = opening_covered (true_small G net D P were);
        }
