-- AN UPDATE TOLD BY CODES AND DONE ON ROWS KEEPS ITS PROMISES on the rows: the chart's laws, with the depots listed by any key and the ends of a link in
-- either order. Assumes nothing.
use mathlib.Core.Path.{◌≡◌, sym, ◌∙◌, subst}
use mathlib.Core.Bool.{Bool, ◌&&◌}
use mathlib.Core.List.{[], ◌∷◌}
use Prim.Native.Nat.{ℕ, suc, ◌≤◌, ◌<◌, max, min}
use native.Mathlib.Nat.{min-eq_left, min-eq_right, max-eq_left, max-eq_right}
use native.Mathlib.Decide.{dec_le}
use native.Mathlib.Omega.{arith}
use lib.ListN.{length}
use Rattle.lists.specs.Lists.{memb, first_of}
use Rattle.graph.specs.Network.{Network, IsSound}
use Rattle.graph.specs.Distance.{vertices, unreached}
use Rattle.graph.specs.Chart.{chart}
use Rattle.graph.specs.Opening.{Notice, add_depot, opening}
use Rattle.graph.specs.Linking.{add_link, linking}
use Rattle.graph.specs.Correct.{IsNet}
use Rattle.graph.specs.Updates.{Update, opens, joins, update_faults, Owes}
use Rattle.graph.specs.Renaming.{IsRelabelled, applied_by, steps_by, first_searches_by, IsLawfulBy, IsNamed}
use Rattle.graph.proofs.Charts.{chart_metric, right_diameter, right_farthest}
use Rattle.graph.proofs.OpeningCases.{opening_right}
use Rattle.graph.proofs.LinkingCases.{IsJoined, linking_right}
use Rattle.graph.proofs.Opened.{IsAdmitted, admitted_of, opened_net, inserted}
use Rattle.graph.proofs.Linked.{IsLinkable, linkable_of, linkable_net, grown_first, grown_second, joined_at}
use Rattle.graph.proofs.Searched.{opening_references, opening_settled, opening_cover, linking_references, linking_settled, linking_cover}
use Rattle.graph.proofs.Skipped.{settled_skipped, opening_first, opening_once, linking_first, linking-twice}
use Rattle.graph.proofs.Theorems.{true_right, true_small, references_of_lem, cover_of}
use Rattle.graph.proofs.SoundFigures.{opening_sound, ends_sound}
use Rattle.graph.proofs.Updates.{sound_in, sound_out, sound_more, below_limit}
use Rattle.graph.proofs.Relabelled.{renamed_net}
use Rattle.graph.proofs.RelabelledUpdates.{admitted_by, linkable_by}

-- ---- an opening, listed by any key

module _ (key : ℕ → ℕ) (G : Network) (net : IsNet G) (y : Bool) (a : ℕ) (beside : ℕ → Bool) (good : IsAdmitted G a beside) where
  abbrev H : Network
  H = add_depot key G y a beside

  pub opening_owes : Owes G (add_depot key G y a beside) (a ∷ []) (λ D P. opening (chart (add_depot key G y a beside)) a D P)
  opening_owes =
      let after = opened_net key G net y a beside good in
      let m = chart_metric H after in
      let was = inserted key G net y a beside good in
      record {
        net = after;
        correct = λ D P were.
            let S = (opening (chart H) a D P).final in
            let r = opening_right (chart G) (chart H) m a D P (true_right G net D P were) was in
            let R = opening_references (chart H) m a was.inside D (true_small G net D P were) P in
            record {
              figures = record { chain = right_diameter H after S.candidate S.pairs r.right; pairs = right_farthest H after S.candidate S.pairs r.right };
              change = r.letter;
              searched = record {
                references = references_of_lem H after S R;
                cover = λ q. cover_of H after S R (opening_cover (chart H) m a was.inside D (true_small G net D P were) P q);
              };
            };
        covered = λ D P small.
            let S = (opening (chart H) a D P).final in
            let R = opening_references (chart H) m a was.inside D small P in
            record { references = references_of_lem H after S R; cover = λ q. cover_of H after S R (opening_cover (chart H) m a was.inside D small P q) };
        settled = λ D P small. record {
          later = (opening_first (chart H) a D P).0;
          first = (opening_first (chart H) a D P).1;
          alone = opening_once (chart H) a D P;
          skipped = λ q. let s = opening_settled (chart H) m a was.inside D small P q in settled_skipped H after (opening (chart H) a D P).final s.0 s.1;
        };
        sound = λ limit D P few s.
            sound_out H limit (opening (chart H) a D P).final.candidate (opening (chart H) a D P).final.pairs
            (opening_sound (chart H) m limit (below_limit H after limit few) a D P (sound_more G H was.old limit D P (sound_in G limit D P s)));
      }

-- ---- a link, lo and hi being its ends in the order in which they are searched

module _ (G : Network) (net : IsNet G) (a b : ℕ) (good : IsLinkable G a b) where
  abbrev K : Network
  K = add_link G a b

  ends_owe : (lo hi : ℕ) → IsJoined (chart G) (chart K) lo hi → Owes G (add_link G a b) (lo ∷ hi ∷ []) (λ D P. linking (chart (add_link G a b)) lo hi D P)
  ends_owe lo hi j =
      let after = linkable_net G net a b good in
      let m = chart_metric K after in
      record {
        net = after;
        correct = λ D P were.
            let S = (linking (chart K) lo hi D P).final in
            let r = linking_right (chart G) (chart K) m lo hi D P (true_right G net D P were) j in
            let R = linking_references (chart K) m lo hi j.first j.second j.apart D (true_small G net D P were) P in
            record {
              figures = record { chain = right_diameter K after S.candidate S.pairs r.right; pairs = right_farthest K after S.candidate S.pairs r.right };
              change = r.letter;
              searched = record {
                references = references_of_lem K after S R;
                cover = λ q. cover_of K after S R (linking_cover (chart K) m lo hi j.first j.second j.apart D (true_small G net D P were) P q);
              };
            };
        covered = λ D P small.
            let S = (linking (chart K) lo hi D P).final in
            let R = linking_references (chart K) m lo hi j.first j.second j.apart D small P in
            record {
              references = references_of_lem K after S R;
              cover = λ q. cover_of K after S R (linking_cover (chart K) m lo hi j.first j.second j.apart D small P q);
            };
        settled = λ D P small. record {
          later = (linking_first (chart K) lo hi D P).0;
          first = (linking_first (chart K) lo hi D P).1;
          alone = linking-twice (chart K) lo hi D P;
          skipped = λ q.
              let s = linking_settled (chart K) m lo hi j.first j.second j.apart D small P q in
              settled_skipped K after (linking (chart K) lo hi D P).final s.0 s.1;
        };
        sound = λ limit D P few s.
            sound_out K limit (linking (chart K) lo hi D P).final.candidate (linking (chart K) lo hi D P).final.pairs
            (ends_sound (chart K) m limit (below_limit K after limit few) lo hi D P (sound_more G K (λ v t. j.same v ∙ t) limit D P (sound_in G limit D P s)));
      }

  pub linking_owes : Owes G (add_link G a b) (a ∷ b ∷ []) (λ D P. linking (chart (add_link G a b)) a b D P)
  linking_owes = ends_owe a b (joined_at G net a b good a b good.first good.second good.apart (grown_first G a b) (grown_second G a b))

  pub linking_owes_turned : Owes G (add_link G a b) (b ∷ a ∷ []) (λ D P. linking (chart (add_link G a b)) b a D P)
  linking_owes_turned = ends_owe b a (joined_at G net a b good b a good.second good.first (λ e. good.apart (sym e)) (grown_second G a b) (grown_first G a b))

-- ---- told by codes

module _ (code row : ℕ → ℕ) (G H : Network) (net : IsNet G) (sound' : IsSound H) (re : IsRelabelled G H code) where
  net' : IsNet H
  net' = renamed_net G H net.sound sound' code re net

  joins_by : (x z : ℕ) → IsLinkable G (row x) (row z) → IsLawfulBy code row G (joins x z)
  unfolding applied_by steps_by first_searches_by
  joins_by x z good = go (dec_le x z)
    where
      N : Network
      N = add_link G (row x) (row z)

      go : Dec (x ≤ z) → Owes G N (row (min x z) ∷ row (max x z) ∷ []) (λ D P. linking (chart N) (row (min x z)) (row (max x z)) D P)
      go (yes p) =
          subst (λ (k : ℕ). Owes G N (row k ∷ row (max x z) ∷ []) (λ D P. linking (chart N) (row k) (row (max x z)) D P)) (sym (min-eq_left p))
          (subst (λ (k : ℕ). Owes G N (row x ∷ row k ∷ []) (λ D P. linking (chart N) (row x) (row k) D P)) (sym (max-eq_right p))
          (linking_owes G net (row x) (row z) good))
      go (no p) =
          let q : z ≤ x = omega arith in
          subst (λ (k : ℕ). Owes G N (row k ∷ row (max x z) ∷ []) (λ D P. linking (chart N) (row k) (row (max x z)) D P)) (sym (min-eq_right q))
          (subst (λ (k : ℕ). Owes G N (row z ∷ row k ∷ []) (λ D P. linking (chart N) (row z) (row k) D P)) (sym (max-eq_left q))
          (linking_owes_turned G net (row x) (row z) good))

  opens_by : (o : Notice) → IsAdmitted G (row o.code) (λ v. G.is_open v && memb (code v) o.neighbours) → IsLawfulBy code row G (opens o)
  unfolding applied_by steps_by first_searches_by
  opens_by o good = opening_owes code G net o.yard (row o.code) (λ v. G.is_open v && memb (code v) o.neighbours) good

  -- EVERY UPDATE that no refusal by code hits, with room for one depot more
  pub lawful_by : suc (length (vertices H)) < unreached → (u : Update) → IsNamed code row G u → first_of (update_faults H u) ≡ 0 → IsLawfulBy code row G u
  unfolding update_faults
  lawful_by room (opens o) named ok = opens_by o (admitted_by code row G H net sound' re o named (admitted_of H net' o room ok))
  lawful_by room (joins x z) named ok = joins_by x z (linkable_by code row G H net sound' re x z named (linkable_of H x z ok))
