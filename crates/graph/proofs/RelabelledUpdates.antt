-- UPDATES OF THE SAME NETWORK UNDER OTHER NAMES: told by codes, done on rows. Assumes nothing.
use mathlib.Core.Path.{◌≡◌, refl, sym, ap, ◌∙◌, subst}
use mathlib.Core.Logic.{◌⊎◌, inl, inr}
use mathlib.Core.Bool.{Bool, true, false, not, ◌&&◌, ◌||◌}
use mathlib.Core.List.{Memᴰ}
use Prim.Native.Nat.{ℕ, suc, ◌≤◌, ◌<◌, max, min}
use native.Mathlib.Nat.{le_of_lt, lt_of_le_of_lt, min-eq_left, min-eq_right, max-eq_left, max-eq_right}
use native.Mathlib.Decide.{dec_le}
use native.Mathlib.Omega.{arith}
use lib.Dec.{T, eqb, lit<}
use lib.ListN.{length}
use borrow.Author.Tests.{eqb-true, eq-eqb, ne_eqb}
use Rattle.std.proofs.lemmas.Bool.{and_parts, and_from, or_cases}
use Rattle.lists.specs.Lists.{filterb, memb, insert_by, first_of}
use Rattle.lists.proofs.Tests.{t→true, true→t, false→not, not→false}
use Rattle.lists.proofs.Renamed.{map_filter}
use Rattle.lists.proofs.Rising.{insert_keys}
use Rattle.graph.specs.Network.{Network, IsSound, delivers}
use Rattle.graph.specs.Distance.{vertices, unreached}
use Rattle.graph.specs.Chart.{chart, Pairs}
use Rattle.graph.specs.Rounds.{reckon}
use Rattle.graph.specs.Opening.{Notice, add_depot, by_code, with_depot, opening}
use Rattle.graph.specs.Linking.{add_link, linking_codes, linking}
use Rattle.graph.specs.Closing.{remove_depot, close_faults, closing}
use Rattle.graph.specs.Correct.{IsNet, AreSound}
use Rattle.graph.specs.Updates.{Update, opens, joins, update_faults, applied, steps, IsLawful}
use Rattle.graph.specs.Renaming.{IsRelabelled, either, SamePairs, AreOpenedAlike, applied_by, steps_by, IsFound, IsNamed, IsSameStep, IsSameClosing}
use Rattle.graph.proofs.Delivers.{delivers_open}
use Rattle.graph.proofs.Distances.{vertices_out}
use Rattle.graph.proofs.Connected.{connected_of, connected_iff}
use Rattle.graph.proofs.Charts.{depot_in, depot_out, chart_metric}
use Rattle.graph.proofs.Opened.{IsAdmitted, admitted_of, opened_net, inserted}
use Rattle.graph.proofs.Linked.{IsLinkable, linkable_of, linkable_net, joined}
use Rattle.graph.proofs.Closed.{left_sound, left_few, closed_net, true_sound}
use Rattle.graph.proofs.Theorems.{reckoning_correct}
use Rattle.graph.proofs.SoundFigures.{SoundIn, opening_sound, ends_sound}
use Rattle.graph.proofs.Updates.{sound_in, sound_more, below_limit}
use Rattle.graph.proofs.Lawful.{update_lawful}
use Rattle.graph.proofs.Renamed.{IsRenamed, OpenedAlike, closing_alike, opening_alike, linking_alike}
use Rattle.graph.proofs.Relabelled.{renamed_open, renamed_from, same_name, same_count, chart_renamed, renamed_net, opened_alike_of, relabelled_distances}

-- ---- the networks after stay the same up to names

module _ (G H : Network) (sound : IsSound G) (sound' : IsSound H) (f : ℕ → ℕ) (re : IsRelabelled G H f) where
  abbrev Open : ℕ → Type 0
  Open v = T (G.is_open v)

  module _ (y : Bool) (a : ℕ) (beside beside' : ℕ → Bool) (good : IsAdmitted G a beside) (good' : IsAdmitted H (f a) beside') (same : (v : ℕ) → Open v → beside' (f v) ≡ beside v) where
    abbrev Old : ℕ → Type 0
    Old v = (v ≡ a) ⊎ Open v

    old : (v : ℕ) → T ((add_depot f G y a beside).is_open v) → Old v
    unfolding add_depot
    old v o = go (or_cases (eqb v a) (G.is_open v) (t→true (eqb v a || G.is_open v) o))
      where
        go : (eqb v a ≡ true) ⊎ (G.is_open v ≡ true) → Old v
        go (inl h) = inl (eqb-true v a h)
        go (inr h) = inr (true→t h)

    closed' : (v : ℕ) → Open v → f v ≡ f a → ⊥
    closed' v o e = false→not good'.fresh (subst (λ (w : ℕ). T (H.is_open w)) e (renamed_open G H sound sound' f re v o))

    closed : (v : ℕ) → Open v → v ≡ a → ⊥
    closed v o e = closed' v o (ap f e)

    apart_any : (u v : ℕ) → Old u → Old v → f u ≡ f v → u ≡ v
    apart_any u v (inl p) (inl q) e = p ∙ sym q
    apart_any u v (inl p) (inr o) e = absurd (closed' v o (sym e ∙ ap f p))
    apart_any u v (inr o) (inl q) e = absurd (closed' u o (e ∙ ap f q))
    apart_any u v (inr o) (inr p) e = re.apart u v o p e

    name_any : (v : ℕ) → Old v → eqb (f v) (f a) ≡ eqb v a
    name_any v (inl q) = eq-eqb (f v) (f a) (ap f q) ∙ sym (eq-eqb v a q)
    name_any v (inr o) = ne_eqb (f v) (f a) (closed' v o) ∙ sym (ne_eqb v a (closed v o))

    beside_any : (v : ℕ) → Old v → beside' (f v) ≡ beside v
    beside_any v (inr o) = same v o
    beside_any v (inl q) =
        not→false (beside' (f v)) (λ t. false→not good'.fresh (subst (λ (w : ℕ). T (H.is_open w)) (ap f q) (good'.known (f v) (t→true (beside' (f v)) t))))
        ∙ sym (not→false (beside v) (λ t. false→not good.fresh (subst (λ (w : ℕ). T (G.is_open w)) q (good.known v (t→true (beside v) t)))))

    -- a depot that is closed has no link
    unlinked : (N : Network) → IsSound N → (c u v : ℕ) → N.is_open c ≡ false → (u ≡ c) ⊎ (v ≡ c) → N.linked u v ≡ false
    unlinked N s c u v n (inl q) = not→false (N.linked u v) (λ l. false→not n (subst (λ (w : ℕ). T (N.is_open w)) q (s.ends v u (s.symmetric u v l))))
    unlinked N s c u v n (inr q) = not→false (N.linked u v) (λ l. false→not n (subst (λ (w : ℕ). T (N.is_open w)) q (s.ends u v l)))

    new_linked : (u v : ℕ) → (u ≡ a) ⊎ (v ≡ a) → H.linked (f u) (f v) ≡ G.linked u v
    new_linked u v o = unlinked H sound' (f a) (f u) (f v) good'.fresh (named o) ∙ sym (unlinked G sound a u v good.fresh o)
      where
        named : (u ≡ a) ⊎ (v ≡ a) → (f u ≡ f a) ⊎ (f v ≡ f a)
        named (inl q) = inl (ap f q)
        named (inr q) = inr (ap f q)

    linked_any : (u v : ℕ) → Old u → Old v → H.linked (f u) (f v) ≡ G.linked u v
    linked_any u v (inl q) o = new_linked u v (inl q)
    linked_any u v (inr p) (inl q) = new_linked u v (inr q)
    linked_any u v (inr p) (inr o) = re.linked u v p o

    yard_any : (v : ℕ) → Old v → H.is_yard (f v) ≡ G.is_yard v
    yard_any v (inr o) = re.yard v o
    yard_any v (inl q) =
        not→false (H.is_yard (f v)) (λ t. false→not good'.fresh (subst (λ (w : ℕ). T (H.is_open w)) (ap f q) (sound'.yards (f v) t)))
        ∙ sym (not→false (G.is_yard v) (λ t. false→not good.fresh (subst (λ (w : ℕ). T (G.is_open w)) q (sound.yards v t))))

    pub relabelled_opened : IsRelabelled (add_depot f G y a beside) (add_depot by_code H y (f a) beside') f
    unfolding add_depot
    relabelled_opened = record {
      depots = ap (insert_by by_code (f a)) re.depots ∙ sym (insert_keys f a (vertices G));
      apart = λ u v ou ov. apart_any u v (old u ou) (old v ov);
      linked = λ u v ou ov. rw (name_any u (old u ou), name_any v (old v ov), beside_any u (old u ou), beside_any v (old v ov), linked_any u v (old u ou) (old v ov)) refl;
      yard = λ v o. rw (name_any v (old v o), yard_any v (old v o)) refl;
    }

  pub relabelled_linked : (a b : ℕ) → Open a → Open b → IsRelabelled (add_link G a b) (add_link H (f a) (f b)) f
  unfolding add_link
  relabelled_linked a b oa ob = record {
    depots = re.depots;
    apart = re.apart;
    linked = λ u v ou ov. rw (named u a ou oa, named v b ov ob, named v a ov oa, named u b ou ob, re.linked u v ou ov) refl;
    yard = re.yard;
  }
    where
      named : (u v : ℕ) → Open u → Open v → eqb (f u) (f v) ≡ eqb u v
      named = same_name G H sound sound' f re

  pub relabelled_closed : (c : ℕ) → Open c → IsRelabelled (remove_depot G c) (remove_depot H (f c)) f
  unfolding remove_depot
  relabelled_closed c oc = record {
    depots =
        ap (filterb (λ w. not (eqb w (f c)))) re.depots
        ∙ map_filter f (λ v. not (eqb v c)) (λ w. not (eqb w (f c))) (vertices G) (λ v m. ap not (named v c (vertices_out G sound m) oc));
    apart = λ u v ou ov. re.apart u v (was u ou) (was v ov);
    linked = λ u v ou ov. rw (re.linked u v (was u ou) (was v ov), named u c (was u ou) oc, named v c (was v ov) oc) refl;
    yard = λ v o. rw (re.yard v (was v o), named v c (was v o) oc) refl;
  }
    where
      named : (u v : ℕ) → Open u → Open v → eqb (f u) (f v) ≡ eqb u v
      named = same_name G H sound sound' f re

      was : (v : ℕ) → T (G.is_open v && not (eqb v c)) → Open v
      was v o = true→t (and_parts (G.is_open v) (not (eqb v c)) (t→true (G.is_open v && not (eqb v c)) o)).0

-- ---- stored pairs of sound figures have no end at a closed depot

no_pair : (N : Network) (D : ℕ) (P : Pairs) → AreSound N unreached D P → (c : ℕ) → N.is_open c ≡ false → (u v : ℕ) → (u ≡ c) ⊎ (v ≡ c) → either P u v ≡ false
no_pair N D P s c n u v o = none (P u v) (P v u) (not→false (P u v) (λ t. one u v (s.pairs u v t) o)) (not→false (P v u) (λ t. one v u (s.pairs v u t) (turn o)))
  where
    none : (p q : Bool) → p ≡ false → q ≡ false → (p || q) ≡ false
    none p q e k = rw (e, k)

    turn : (u ≡ c) ⊎ (v ≡ c) → (v ≡ c) ⊎ (u ≡ c)
    turn (inl q) = inr q
    turn (inr q) = inl q

    one : (x z : ℕ) → (x < z) × T (delivers N x) × T (delivers N z) → (x ≡ c) ⊎ (z ≡ c) → ⊥
    one x z r (inl q) = false→not n (subst (λ (w : ℕ). T (N.is_open w)) q (delivers_open N x r.1))
    one x z r (inr q) = false→not n (subst (λ (w : ℕ). T (N.is_open w)) q (delivers_open N z r.2))

-- ---- the steps

-- the same network under other names is reckoned afresh alike
pub closing_same : (M K : Network) → IsNet M → IsNet K → (f : ℕ → ℕ) → IsRelabelled M K f → (D : ℕ) → AreOpenedAlike M K f (closing (chart M) D) (closing (chart K) D)
unfolding closing
closing_same M K net net' f re D =
    opened_alike_of M K net.sound net'.sound f re net (closing (chart M) D) (closing (chart K) D)
    (closing_alike (chart M) (chart K) f (chart_renamed M K net.sound net'.sound f re) (chart_metric M net) D) (of M net) (of K net')
  where
    of : (N : Network) → IsNet N → SoundIn (chart N) unreached (reckon (chart N)).candidate (reckon (chart N)).pairs
    of N n =
        let S = reckon (chart N) in
        sound_in N unreached S.candidate S.pairs (true_sound N n unreached (le_of_lt n.small) (lit< tt) S.candidate S.pairs (reckoning_correct N n).figures)

module _ (code row : ℕ → ℕ) (G H : Network) (net : IsNet G) (sound' : IsSound H) (re : IsRelabelled G H code) where
  net' : IsNet H
  net' = renamed_net G H net.sound sound' code re net

  is_open_lem : (v : ℕ) → T (G.is_open v) → T (H.is_open (code v))
  is_open_lem = renamed_open G H net.sound sound' code re

  -- what the code network admits, the rows admit
  pub admitted_by : (o : Notice) → IsNamed code row G (opens o) → IsAdmitted H o.code (λ v. memb v o.neighbours)
      → IsAdmitted G (row o.code) (λ v. G.is_open v && memb (code v) o.neighbours)
  admitted_by o named good' = record {
    room = subst (λ (n : ℕ). suc n < unreached) (same_count G H net.sound sound' code re) good'.room;
    fresh = not→false (G.is_open (row o.code)) named.0;
    known = λ v h. true→t (and_parts (G.is_open v) (memb (code v) o.neighbours) h).0;
    joined = λ v ov.
        let w = good'.joined (code v) (is_open_lem v ov) in
        let r = renamed_from G H net.sound sound' code re w.0 (good'.known w.0 w.1) in
        (r.0, and_from _ _ (t→true (G.is_open r.0) r.1) (ap (λ (x : ℕ). memb x o.neighbours) (sym r.2) ∙ w.1));
  }

  pub linkable_by : (x z : ℕ) → IsNamed code row G (joins x z) → IsLinkable H x z → IsLinkable G (row x) (row z)
  linkable_by x z named good' = record { first = named.0.0; second = named.1.0; apart = λ e. good'.apart (sym named.0.1 ∙ ap code e ∙ named.1.1) }

  -- AN OPENING
  module _ (o : Notice) (named : IsNamed code row G (opens o)) (good' : IsAdmitted H o.code (λ v. memb v o.neighbours)) (law : IsLawful H (opens o)) where
    abbrev a : ℕ
    a = row o.code

    beside : ℕ → Bool
    beside v = G.is_open v && memb (code v) o.neighbours

    good : IsAdmitted G a beside
    unfolding beside
    good = admitted_by o named good'

    after : IsNet (applied_by code row G (opens o))
    unfolding applied_by beside
    after = opened_net code G net o.yard a beside good

    again : IsRelabelled (applied_by code row G (opens o)) (applied H (opens o)) code
    unfolding applied_by applied with_depot beside
    again =
        subst (λ (c : ℕ). IsRelabelled (applied_by code row G (opens o)) (add_depot by_code H o.yard c (λ v. memb v o.neighbours)) code) named.1
        (relabelled_opened G H net.sound sound' code re o.yard a beside (λ v. memb v o.neighbours) good
        (subst (λ (c : ℕ). IsAdmitted H c (λ v. memb v o.neighbours)) (sym named.1) good')
        (λ v ov. ap (λ (b : Bool). b && memb (code v) o.neighbours) (sym (t→true (G.is_open v) ov))))

    abbrev G₁ : Network
    G₁ = applied_by code row G (opens o)

    abbrev H₁ : Network
    H₁ = applied H (opens o)

    -- the pairs agree on the depots after, for the new one has none
    pairs_after : (D : ℕ) (P Q : Pairs) → AreSound G unreached D P → AreSound H unreached D Q → SamePairs G code P Q
        → (u v : ℕ) → Memᴰ u (chart G₁).depots → Memᴰ v (chart G₁).depots → either Q (code u) (code v) ≡ either P u v
    unfolding applied_by add_depot
    pairs_after D P Q s t same u v mu mv = go (cases u (depot_out G₁ after mu)) (cases v (depot_out G₁ after mv))
      where
        cases : (w : ℕ) → T (eqb w a || G.is_open w) → (w ≡ a) ⊎ T (G.is_open w)
        cases w x = which (or_cases (eqb w a) (G.is_open w) (t→true (eqb w a || G.is_open w) x))
          where
            which : (eqb w a ≡ true) ⊎ (G.is_open w ≡ true) → (w ≡ a) ⊎ T (G.is_open w)
            which (inl h) = inl (eqb-true w a h)
            which (inr h) = inr (true→t h)

        new : (u ≡ a) ⊎ (v ≡ a) → either Q (code u) (code v) ≡ either P u v
        new x = no_pair H D Q t o.code good'.fresh (code u) (code v) (coded x) ∙ sym (no_pair G D P s a good.fresh u v x)
          where
            coded : (u ≡ a) ⊎ (v ≡ a) → (code u ≡ o.code) ⊎ (code v ≡ o.code)
            coded (inl q) = inl (ap code q ∙ named.1)
            coded (inr q) = inr (ap code q ∙ named.1)

        go : (u ≡ a) ⊎ T (G.is_open u) → (v ≡ a) ⊎ T (G.is_open v) → either Q (code u) (code v) ≡ either P u v
        go (inl p) x = new (inl p)
        go (inr p) (inl q) = new (inr q)
        go (inr p) (inr q) = same u v p q

    in_after : Memᴰ a (chart G₁).depots
    unfolding applied_by beside
    in_after = (inserted code G net o.yard a beside good).inside

    kept_destinations : (v : ℕ) → (chart G).is_destination v ≡ true → (chart G₁).is_destination v ≡ true
    unfolding applied_by beside
    kept_destinations = (inserted code G net o.yard a beside good).old

    opens_alike : (D : ℕ) (P Q : Pairs) → AreSound G unreached D P → AreSound H unreached D Q → SamePairs G code P Q
        → AreOpenedAlike G₁ H₁ code (steps_by row (chart G₁) (opens o) D P) (steps (chart H₁) (opens o) D Q)
    unfolding steps_by steps
    opens_alike D P Q s t same =
        opened_alike_of G₁ H₁ after.sound law.net.sound code again after (opening (chart G₁) a D P) (opening (chart H₁) o.code D Q)
        (subst (λ (c : ℕ). OpenedAlike (chart G₁) (chart H₁) code (chart_renamed G₁ H₁ after.sound law.net.sound code again) (opening (chart G₁) a D P) (opening (chart H₁) c D Q)) named.1
        (opening_alike (chart G₁) (chart H₁) code (chart_renamed G₁ H₁ after.sound law.net.sound code again) (chart_metric G₁ after) a D in_after (le_of_lt s.below) P Q (pairs_after D P Q s t same)))
        (opening_sound (chart G₁) (chart_metric G₁ after) unreached (below_limit G₁ after unreached (le_of_lt after.small)) a D P (sound_more G G₁ kept_destinations unreached D P (sound_in G unreached D P s)))
        (sound_in H₁ unreached _ _ (law.sound unreached D Q (le_of_lt law.net.small) t))

    opens_same : IsSameStep code row G H (opens o)
    opens_same = record { net = after; relabelled = again; alike = opens_alike }

  -- A LINK
  module _ (x z : ℕ) (named : IsNamed code row G (joins x z)) (good' : IsLinkable H x z) (law : IsLawful H (joins x z)) where
    abbrev rx : ℕ
    rx = row x

    abbrev rz : ℕ
    rz = row z

    good₂ : IsLinkable G rx rz
    good₂ = linkable_by x z named good'

    after₂ : IsNet (applied_by code row G (joins x z))
    unfolding applied_by
    after₂ = linkable_net G net rx rz good₂

    again₂ : IsRelabelled (applied_by code row G (joins x z)) (applied H (joins x z)) code
    unfolding applied_by applied
    again₂ =
        subst (λ (c : ℕ). IsRelabelled (add_link G rx rz) (add_link H x c) code) named.1.1
        (subst (λ (c : ℕ). IsRelabelled (add_link G rx rz) (add_link H c (code rz)) code) named.0.1
        (relabelled_linked G H net.sound sound' code re rx rz named.0.0 named.1.0))

    abbrev G₂ : Network
    G₂ = applied_by code row G (joins x z)

    abbrev H₂ : Network
    H₂ = applied H (joins x z)

    -- the lower code and the higher one are found too
    found_least : IsFound code row G (min x z)
    found_least = go (dec_le x z)
      where
        go : Dec (x ≤ z) → IsFound code row G (min x z)
        go (yes p) = subst (λ (c : ℕ). IsFound code row G c) (sym (min-eq_left p)) named.0
        go (no p) = subst (λ (c : ℕ). IsFound code row G c) (sym (min-eq_right (omega arith))) named.1

    found_greatest : IsFound code row G (max x z)
    found_greatest = go (dec_le x z)
      where
        go : Dec (x ≤ z) → IsFound code row G (max x z)
        go (yes p) = subst (λ (c : ℕ). IsFound code row G c) (sym (max-eq_right p)) named.1
        go (no p) = subst (λ (c : ℕ). IsFound code row G c) (sym (max-eq_left (omega arith))) named.0

    still_open : (v : ℕ) → T (G.is_open v) → T (G₂.is_open v)
    unfolding applied_by add_link
    still_open v ov = ov

    was_open : (v : ℕ) → T (G₂.is_open v) → T (G.is_open v)
    unfolding applied_by add_link
    was_open v ov = ov

    same_destinations : (v : ℕ) → (chart G).is_destination v ≡ true → (chart G₂).is_destination v ≡ true
    unfolding applied_by
    same_destinations v t = (joined G net rx rz good₂).same v ∙ t

    joins_alike : (D : ℕ) (P Q : Pairs) → AreSound G unreached D P → AreSound H unreached D Q → SamePairs G code P Q
        → AreOpenedAlike G₂ H₂ code (steps_by row (chart G₂) (joins x z) D P) (steps (chart H₂) (joins x z) D Q)
    unfolding steps_by steps linking_codes
    joins_alike D P Q s t same =
        opened_alike_of G₂ H₂ after₂.sound law.net.sound code again₂ after₂ (linking (chart G₂) lo hi D P) (linking (chart H₂) (min x z) (max x z) D Q)
        (subst (λ (c : ℕ). OpenedAlike (chart G₂) (chart H₂) code cr (linking (chart G₂) lo hi D P) (linking (chart H₂) (min x z) c D Q)) found_greatest.1
        (subst (λ (c : ℕ). OpenedAlike (chart G₂) (chart H₂) code cr (linking (chart G₂) lo hi D P) (linking (chart H₂) c (code hi) D Q)) found_least.1
        (linking_alike (chart G₂) (chart H₂) code cr (chart_metric G₂ after₂) lo hi D (depot_in G₂ after₂ lo (still_open lo found_least.0)) (depot_in G₂ after₂ hi (still_open hi found_greatest.0))
        (le_of_lt s.below) P Q (λ u v mu mv. same u v (was_open u (depot_out G₂ after₂ mu)) (was_open v (depot_out G₂ after₂ mv))))))
        (ends_sound (chart G₂) (chart_metric G₂ after₂) unreached (below_limit G₂ after₂ unreached (le_of_lt after₂.small)) lo hi D P (sound_more G G₂ same_destinations unreached D P (sound_in G unreached D P s)))
        (sound_in H₂ unreached (linking (chart H₂) (min x z) (max x z) D Q).final.candidate (linking (chart H₂) (min x z) (max x z) D Q).final.pairs (law.sound unreached D Q (le_of_lt law.net.small) t))
      where
        lo : ℕ
        lo = row (min x z)

        hi : ℕ
        hi = row (max x z)

        cr : IsRenamed (chart G₂) (chart H₂) code
        cr = chart_renamed G₂ H₂ after₂.sound law.net.sound code again₂

    joins_same : IsSameStep code row G H (joins x z)
    joins_same = record { net = after₂; relabelled = again₂; alike = joins_alike }

  -- EVERY UPDATE, with room for one depot more
  pub relabelled_update : suc (length (vertices H)) < unreached → (u : Update) → IsNamed code row G u → first_of (update_faults H u) ≡ 0 → IsSameStep code row G H u
  unfolding update_faults
  relabelled_update room (opens o) named ok = opens_same o named (admitted_of H net' o room ok) (update_lawful H net' (opens o) room ok)
  relabelled_update room (joins x z) named ok = joins_same x z named (linkable_of H x z ok) (update_lawful H net' (joins x z) room ok)

  -- A CLOSING
  module _ (c : ℕ) (found : IsFound code row G c) (after' : IsNet (remove_depot H c)) where
    abbrev G₃ : Network
    G₃ = remove_depot G (row c)

    abbrev H₃ : Network
    H₃ = remove_depot H c

    again₃ : IsRelabelled G₃ H₃ code
    again₃ = subst (λ (d : ℕ). IsRelabelled (remove_depot G (row c)) (remove_depot H d) code) found.1 (relabelled_closed G H net.sound sound' code re (row c) found.0)

    sound₃ : IsSound G₃
    sound₃ = left_sound G net.sound (row c)

    few₃ : length (vertices G₃) < unreached
    few₃ = lt_of_le_of_lt (left_few G net.sound (row c)) net.small

    after₃ : IsNet G₃
    after₃ = record {
      sound = sound₃;
      connected =
          connected_of G₃ sound₃ few₃
          (sym (relabelled_distances G₃ H₃ sound₃ after'.sound code again₃).connected ∙ (connected_iff H₃ after'.sound after'.small).1 after'.connected);
      small = few₃;
    }

    closes_same : IsSameClosing code row G H c
    closes_same = record { net = after₃; relabelled = again₃; alike = λ D. closing_same G₃ H₃ after₃ after' code again₃ D }

  pub relabelled_closing : (c : ℕ) → IsFound code row G c → first_of (close_faults H c) ≡ 0 → IsSameClosing code row G H c
  relabelled_closing c found ok = closes_same c found (closed_net H net' c ok)
