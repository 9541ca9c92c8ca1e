-- WHAT A RECKONING, AN OPENING AND A LINK SAY OF EACH DEPOT: the skipped, by the published words; and which searches are the first, and the only ones.
-- Assumes nothing.
use mathlib.Core.Path.{◌≡◌, refl, sym, ◌∙◌}
use mathlib.Core.Bool.{Bool, true, false, cond, not, ◌||◌}
use mathlib.Core.List.{List, [], ◌∷◌, ◌++◌}
use mathlib.Core.Option.{Option, none, some}
use Prim.Native.Nat.{ℕ, zero, suc, ◌≤◌, ◌<◌}
use lib.Dec.{T, eqb}
use lib.ListN.{length}
use borrow.Author.Tests.{not-true}
use Rattle.lists.specs.Lists.{anyb, memb, first_of}
use Rattle.lists.proofs.Tests.{t→true, true→t, clash}
use Rattle.lists.proofs.Counts.{count-zero}
use Rattle.lists.proofs.Appends.{append_none, append_append}
use Rattle.graph.specs.Network.{Network}
use Rattle.graph.specs.Distance.{vertices, unreached}
use Rattle.graph.specs.Chart.{Chart, chart, ecc, Pairs, own_pairs}
use Rattle.graph.specs.Rounds.{Status, waiting, skipped, searched, is_waiting, State, round, pick, remaining, or_stop, rounds, start, reckon}
use Rattle.graph.specs.Opening.{Notice, by_code, with_depot, open_faults, staying_pairs, any_pair, shrunk_candidate, searched_once, grows_by, kept_by, opening, via}
use Rattle.graph.specs.Linking.{via_either, searched_twice, unskipped_round, first_two, linking}
use Rattle.outcome.specs.declared.Change.TheVariants.{Shrank}
use Rattle.graph.specs.Correct.{IsNet, IsSkipped, AllSkipped, AreAlone, IsSettled}
use Rattle.graph.proofs.Round.{Fine, Invariant}
use Rattle.graph.proofs.Rounds.{waiting_count}
use Rattle.graph.proofs.Charts.{depot_in, depot_out, chart-dist, chart_metric, chart-ecc}
use Rattle.graph.proofs.Opened.{admitted_of, opened_net, inserted}
use Rattle.graph.proofs.Searched.{reckon_settled, opening_settled}
use Rattle.graph.proofs.Tested.{by_test, by_tests}

-- ---- rounds that have ended

module _ (G : Network) (net : IsNet G) where
  pub settled_skipped : (S : State) → Invariant (chart G) (chart_metric G net) unreached S → waiting_count (chart G) (chart_metric G net) S ≡ 0 → AllSkipped G S
  unfolding waiting_count
  settled_skipped S I z v o n =
      let m = depot_in G net v o in
      go (S.status v) refl (count-zero (λ v. is_waiting (S.status v)) (chart G).depots z m) (I.fine v m)
    where
      absent : memb v S.references ≡ false
      absent = not-true (memb v S.references) (t→true (not (memb v S.references)) n)

      go : (s : Status) → S.status v ≡ s → is_waiting s ≡ false → Fine (chart G) (chart_metric G net) S.candidate S.references v s
          → (g : ℕ) × (b : ℕ) × (S.status v ≡ skipped b g) × IsSkipped G S.references S.candidate v g b
      go (waiting b g) q w f = absurd (clash refl w)
      go (searched e) q w f = absurd (clash f.0 absent)
      go (skipped b g) q w f =
          let og = depot_out G net (I.searched_inside g f.2.0) in (
            g,
            b,
            q,
            record {
              is_reference = true→t f.2.0;
              ecc = ecc (chart G) g;
              is_ecc = chart-ecc G net g og;
              distance = (chart G).distance g v;
              is_dist = chart-dist G net g v og o;
              is_bound = f.2.1;
              below = f.3;
            },
          )

  pub reckoning_skipped : AllSkipped G (reckon (chart G))
  reckoning_skipped = let s = reckon_settled (chart G) (chart_metric G net) in settled_skipped (reckon (chart G)) s.0 s.1

-- ---- an opening

module _ (C : Chart) where
  -- rounds search after the searches there were
  rounds_after : (k : ℕ) (S : State) → (rs : List ℕ) × ((rounds C k S).references ≡ S.references ++ rs)
  unfolding rounds or_stop round
  rounds_after zero S = ([], sym (append_none S.references))
  rounds_after (suc k) S = go (pick C (remaining C S)) (λ r. rounds_after k (round C r S))
    where
      go : (o : Option ℕ) → ((r : ℕ) → (rs : List ℕ) × ((rounds C k (round C r S)).references ≡ (round C r S).references ++ rs))
          → (rs : List ℕ) × ((or_stop o S (λ r. rounds C k (round C r S))).references ≡ S.references ++ rs)
      go none ih = ([], sym (append_none S.references))
      go (some r) ih = let x = ih r in (r ∷ x.0, x.1 ∙ append_append S.references (r ∷ []) x.0)

  module _ (a D : ℕ) (P : Pairs) where
    pub opening_first : (rs : List ℕ) × ((opening C a D P).final.references ≡ a ∷ rs)
    unfolding opening searched_once round start
    opening_first =
        by_tests (λ o. (rs : List ℕ) × (o.final.references ≡ a ∷ rs)) (grows_by C a D) (kept_by C a D) (any_pair C.depots (staying_pairs (via C a) D P))
        (λ p. ([], refl)) (λ p q. ([], refl)) (λ p q r. ([], refl))
        (λ p q r. rounds_after (length C.depots) (round C a (start (shrunk_candidate C.depots (via C a) D P))))

    once : (c : ℕ) (Q : Pairs) → AreAlone (a ∷ []) (searched_once C a c Q)
    unfolding searched_once memb anyb
    once c Q = record { only = refl; others = λ v. go (eqb v a) }
      where
        go : (x : Bool) → T (not (x || false)) → T (is_waiting (cond x (searched (ecc C a)) (waiting unreached 0)))
        go true n = elim n [ ]
        go false n = tt

    pub opening_once : ((opening C a D P).change ≡ Shrank → ⊥) → AreAlone (a ∷ []) (opening C a D P).final
    unfolding opening
    opening_once =
        by_tests (λ o. (o.change ≡ Shrank → ⊥) → AreAlone (a ∷ []) o.final) (grows_by C a D) (kept_by C a D)
        (any_pair C.depots (staying_pairs (via C a) D P))
        (λ p n. once (ecc C a) (own_pairs C a (ecc C a)))
        (λ p q n. once D (λ u v. staying_pairs (via C a) D P u v || own_pairs C a D u v))
        (λ p q r n. once D (staying_pairs (via C a) D P))
        (λ p q r n. absurd (n refl))

  -- ---- a link

  module _ (a b D : ℕ) (P : Pairs) where
    pub linking_first : (rs : List ℕ) × ((linking C a b D P).final.references ≡ a ∷ b ∷ rs)
    unfolding linking searched_twice first_two round unskipped_round start
    linking_first =
        by_test (λ o. (rs : List ℕ) × (o.final.references ≡ a ∷ b ∷ rs)) (any_pair C.depots (staying_pairs (via_either C a b) D P) || eqb D 0)
        (λ k. ([], refl))
        (λ k. rounds_after (length C.depots) (first_two C a b (shrunk_candidate C.depots (via_either C a b) D P)))

    twice : (c : ℕ) (Q : Pairs) → AreAlone (a ∷ b ∷ []) (searched_twice C a b c Q)
    unfolding searched_twice memb anyb
    twice c Q = record { only = refl; others = λ v. go (eqb v a) (eqb v b) }
      where
        go : (x y : Bool) → T (not (x || (y || false))) → T (is_waiting (cond x (searched (ecc C a)) (cond y (searched (ecc C b)) (waiting unreached 0))))
        go true y n = elim n [ ]
        go false true n = elim n [ ]
        go false false n = tt

    pub linking-twice : ((linking C a b D P).change ≡ Shrank → ⊥) → AreAlone (a ∷ b ∷ []) (linking C a b D P).final
    unfolding linking
    linking-twice =
        by_test (λ o. (o.change ≡ Shrank → ⊥) → AreAlone (a ∷ b ∷ []) o.final) (any_pair C.depots (staying_pairs (via_either C a b) D P) || eqb D 0)
        (λ k n. twice D (staying_pairs (via_either C a b) D P))
        (λ k n. absurd (n refl))

module _ (G : Network) (net : IsNet G) (o : Notice) (room : suc (length (vertices G)) < unreached) (ok : first_of (open_faults G o) ≡ 0)
    (D : ℕ) (small : D ≤ unreached) (P : Pairs) where
  abbrev H : Network
  H = with_depot G o

  abbrev beside : ℕ → Bool
  beside v = memb v o.neighbours

  pub opening-says : IsSettled H (o.code ∷ []) (opening (chart H) o.code D P)
  unfolding with_depot
  opening-says =
      let good = admitted_of G net o room ok in
      let after = opened_net by_code G net o.yard o.code beside good in
      record {
        later = (opening_first (chart H) o.code D P).0;
        first = (opening_first (chart H) o.code D P).1;
        alone = opening_once (chart H) o.code D P;
        skipped = λ q.
            let s = opening_settled (chart H) (chart_metric H after) o.code (inserted by_code G net o.yard o.code beside good).inside D small P q in
            settled_skipped H after (opening (chart H) o.code D P).final s.0 s.1;
      }
