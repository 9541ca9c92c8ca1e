-- A LINK ADDED LATER IS CORRECT, by the published words: what an update owes, of every link that no refusal hits. Assumes nothing.
use mathlib.Core.Path.{◌≡◌, ◌∙◌}
use mathlib.Core.List.{[], ◌∷◌}
use mathlib.Core.Bool.{◌||◌}
use Prim.Native.Nat.{ℕ, ◌+◌, ◌≤◌, max, min}
use native.Mathlib.Omega.{arith}
use lib.Dec.{eqb}
use lib.ListN.{length}
use Rattle.lists.specs.Lists.{first_of}
use Rattle.outcome.specs.declared.Change.TheVariants.{Grew}
use Rattle.graph.specs.Network.{Network, IsDist, delivers, AreTrue}
use Rattle.graph.specs.Distance.{vertices, unreached}
use Rattle.graph.specs.Chart.{Chart, chart, Pairs}
use Rattle.graph.specs.Opening.{staying_pairs, any_pair}
use Rattle.graph.specs.Linking.{add_link, link_faults, via_either, linking, linking_codes}
use Rattle.graph.specs.Correct.{IsNet, IsSearched, IsSettled, IsOpened, AreSound}
use Rattle.graph.proofs.Insertion.{insertion_both}
use Rattle.graph.proofs.LinkingCases.{IsJoined, linking_right}
use Rattle.graph.proofs.Charts.{chart_metric, right_diameter, right_farthest}
use Rattle.graph.proofs.Linked.{grown_first, grown_second, linkable_of, linkable_net, joined}
use Rattle.graph.proofs.Searched.{linking_references, linking_settled, linking_cover}
use Rattle.graph.proofs.Skipped.{settled_skipped, linking_first, linking-twice}
use Rattle.graph.proofs.Theorems.{true_right, true_small, references_of_lem, cover_of}
use Rattle.graph.proofs.SoundFigures.{ends_sound}
use Rattle.graph.proofs.Updates.{sound_in, sound_out, sound_more, below_limit}
use Rattle.graph.proofs.Tested.{by_test}

-- With the link in place a distance is the least of the old one and the ways through both ends, in any network.
pub link_distance : (G : Network) (a b : ℕ) {u v d x y z w : ℕ} → IsDist G u v d
    → IsDist (add_link G a b) u a x → IsDist (add_link G a b) a v y → IsDist (add_link G a b) u b z → IsDist (add_link G a b) b v w
    → IsDist (add_link G a b) u v (min d (min (x + y) (z + w)))
link_distance G a b p q r s t = insertion_both G (add_link G a b) a b (grown_first G a b) (grown_second G a b) p q r s t

-- Kept or shrank, over any chart and whatever figures were stored.
pub linking_never : (C : Chart) (a b D : ℕ) (P : Pairs) → (linking_codes C a b D P).change ≡ Grew → ⊥
unfolding linking_codes linking
linking_never C a b D P =
    by_test (λ o. o.change ≡ Grew → ⊥) (any_pair C.depots (staying_pairs (via_either C (min a b) (max a b)) D P) || eqb D 0)
    (λ k q. let z : ◌≡◌ {A = ℕ} 0 1 = cc in omega arith)
    (λ k q. let z : ◌≡◌ {A = ℕ} 0 1 = cc in omega arith)

module _ (G : Network) (net : IsNet G) (a b : ℕ) (ok : first_of (link_faults G a b) ≡ 0) where
  abbrev H : Network
  H = add_link G a b

  abbrev lo : ℕ
  lo = min a b

  abbrev hi : ℕ
  hi = max a b

  pub linked_net : IsNet (add_link G a b)
  linked_net = linkable_net G net a b (linkable_of G a b ok)

  j : IsJoined (chart G) (chart H) (min a b) (max a b)
  j = joined G net a b (linkable_of G a b ok)

  module _ (D : ℕ) (P : Pairs) where
    -- whatever figures were stored: references, and the cover after a shrink
    pub linking_covered : D ≤ unreached → IsSearched H (linking_codes (chart H) a b D P)
    unfolding linking_codes
    linking_covered small =
        let m = chart_metric H linked_net in
        let S = (linking (chart H) lo hi D P).final in
        let R = linking_references (chart H) m lo hi j.first j.second j.apart D small P in
        record {
          references = references_of_lem H linked_net S R;
          cover = λ q. cover_of H linked_net S R (linking_cover (chart H) m lo hi j.first j.second j.apart D small P q);
        }

    -- the searches from the lower and the higher end are the first, and the only ones unless the chain shrank
    pub linking-says : D ≤ unreached → IsSettled H (lo ∷ hi ∷ []) (linking_codes (chart H) a b D P)
    unfolding linking_codes
    linking-says small =
        let m = chart_metric H linked_net in
        record {
          later = (linking_first (chart H) lo hi D P).0;
          first = (linking_first (chart H) lo hi D P).1;
          alone = linking-twice (chart H) lo hi D P;
          skipped = λ q.
              let s = linking_settled (chart H) m lo hi j.first j.second j.apart D small P q in
              settled_skipped H linked_net (linking (chart H) lo hi D P).final s.0 s.1;
        }

    -- on true figures: true figures, and the letter says how the chain moved
    pub linking_correct : AreTrue G (delivers G) D P → IsOpened H D (linking_codes (chart H) a b D P)
    unfolding linking_codes
    linking_correct were =
        let S = (linking (chart H) lo hi D P).final in
        let r = linking_right (chart G) (chart H) (chart_metric H linked_net) lo hi D P (true_right G net D P were) j in
        record {
          figures = record {
            chain = right_diameter H linked_net S.candidate S.pairs r.right;
            pairs = right_farthest H linked_net S.candidate S.pairs r.right;
          };
          change = r.letter;
          searched = linking_covered (true_small G net D P were);
        }

    -- sound figures stay sound
    pub linking_sound : (limit : ℕ) → length (vertices H) ≤ limit → AreSound G limit D P
        → AreSound H limit (linking_codes (chart H) a b D P).final.candidate (linking_codes (chart H) a b D P).final.pairs
    unfolding linking_codes
    linking_sound limit few s =
        let S = (linking (chart H) lo hi D P).final in
        sound_out H limit S.candidate S.pairs
        (ends_sound (chart H) (chart_metric H linked_net) limit (below_limit H linked_net limit few) lo hi D P
        (sound_more G H (λ v t. j.same v ∙ t) limit D P (sound_in G limit D P s)))
