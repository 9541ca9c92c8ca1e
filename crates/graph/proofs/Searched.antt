-- References, marks and cover after a reckoning, an opening and a link, over metric spaces, whatever figures were stored. Assumes nothing.
use mathlib.Core.Path.{◌≡◌, refl, sym, ap, ◌∙◌}
use mathlib.Core.Logic.{◌⊎◌, inl, inr}
use mathlib.Core.Bool.{Bool, true, false, cond, ◌||◌}
use mathlib.Core.List.Memᴰ
use mathlib.Core.List.{List, [], ◌∷◌, Memᴰ}
use Prim.Native.Nat.{ℕ, ◌+◌, ◌≤◌, ◌<◌, zero-le}
use native.Mathlib.Nat.{le_refl, le_trans, le_of_lt, lt_irrefl}
use native.Mathlib.Omega.{arith}
use lib.Dec.{eqb}
use lib.ListN.{length}
use borrow.Author.Tests.{eqb-true, ne_eqb}
use Rattle.std.proofs.lemmas.Bool.{or_cases, or_left, or_right}
use Rattle.lists.specs.Lists.{anyb, memb}
use Rattle.lists.proofs.Counts.{count_le_length}
use Rattle.lists.proofs.Distinct.{IsCounted, counted_nil, counted_snoc}
use Rattle.graph.specs.Distance.{unreached}
use Rattle.graph.specs.Chart.{Chart, ecc, Pairs, own_pairs}
use Rattle.graph.specs.Rounds.{Status, waiting, skipped, searched, is_waiting, State, round, rounds, start, reckon}
use Rattle.graph.specs.Opening.{via, staying_pairs, any_pair, shrunk_candidate, searched_once, grows_by, kept_by, opening}
use Rattle.graph.specs.Linking.{via_either, searched_twice, first_two, linking}
use Rattle.outcome.specs.declared.Change.TheVariants.{Shrank}
use Rattle.graph.proofs.Metric.{IsMetric, ecc_small}
use Rattle.graph.proofs.Round.{Fine, Invariant, round_keeps}
use Rattle.graph.proofs.Rounds.{waiting_count, rounds_right, final_cover, start_fine}
use Rattle.graph.proofs.Candidates.{candidate_le_chain}
use Rattle.graph.proofs.FirstTwo.{two_settled}
use Rattle.graph.proofs.Tested.{by_test, by_tests}

-- where a depot stands, against the references
abbrev pub StandsIn : Chart → List ℕ → ℕ → Status → Type 0
StandsIn C refs v (waiting b g) = memb v refs ≡ false
StandsIn C refs v (skipped b g) = (memb v refs ≡ false) × (memb g refs ≡ true) × (b ≡ ecc C g + C.distance g v)
StandsIn C refs v (searched e) = (memb v refs ≡ true) × (e ≡ ecc C v)

pub record ReferencesIn (C : Chart) (S : State) : Type 0 where
  pub inside : (v : ℕ) → memb v S.references ≡ true → Memᴰ v C.depots
  pub stands : (v : ℕ) → Memᴰ v C.depots → StandsIn C S.references v (S.status v)
  pub counted : IsCounted S.references

abbrev pub CoveredIn : Chart → State → Type 0
CoveredIn C S =
    (v : ℕ) → Memᴰ v C.depots → memb v S.references ≡ false
    → (g : ℕ) × (memb g S.references ≡ true) × (ecc C g + C.distance g v < S.candidate)

no_reference : (r : ℕ) → memb r [] ≡ false
unfolding memb anyb
no_reference r = refl

start_free : (c r : ℕ) → memb r (start c).references ≡ false
unfolding start
start_free c r = no_reference r

one_reference : (a v : ℕ) → memb v (a ∷ []) ≡ eqb v a
unfolding memb anyb
one_reference a v = go (eqb v a)
  where
    go : (b : Bool) → (b || false) ≡ b
    go true = refl
    go false = refl

-- ---- what the rounds leave

module _ (C : Chart) (metric : IsMetric C) where
  most : (v : ℕ) → C.is_destination v ≡ true → ecc C v ≤ unreached
  most v t = le_of_lt (ecc_small C metric v (metric.inside v t))

  settled_references : (S : State) → Invariant C metric unreached S → ReferencesIn C S
  settled_references S I = record { inside = I.searched_inside; stands = λ v m. go v (S.status v) (I.fine v m); counted = I.counted }
    where
      go : (v : ℕ) (s : Status) → Fine C metric S.candidate S.references v s → StandsIn C S.references v s
      go v (waiting b g) f = f.0
      go v (skipped b g) f = (f.0, f.2.0, f.2.1)
      go v (searched e) f = (f.0, f.1)

  settled_cover : (S : State) → Invariant C metric unreached S → waiting_count C metric S ≡ 0 → CoveredIn C S
  settled_cover S I z v m h = final_cover C metric unreached most (le_refl unreached) S I z v m h

  -- ---- the whole reckoning

  pub reckon_settled : Invariant C metric unreached (reckon C) × (waiting_count C metric (reckon C) ≡ 0)
  unfolding reckon waiting_count
  reckon_settled =
      rounds_right C metric unreached most (le_refl unreached) (length C.depots) (start 0)
      (start_fine C metric unreached most (le_refl unreached) 0 zero-le) (count_le_length (λ v. is_waiting ((start 0).status v)) C.depots)

  pub reckon_references : ReferencesIn C (reckon C)
  reckon_references = settled_references (reckon C) reckon_settled.0

  pub reckon_cover : CoveredIn C (reckon C)
  reckon_cover = settled_cover (reckon C) reckon_settled.0 reckon_settled.1

  -- ---- an opening

  module _ (a : ℕ) (in-a : Memᴰ a C.depots) (D : ℕ) (small : D ≤ unreached) (P : Pairs) where
    candidate_small : shrunk_candidate C.depots (via C a) D P ≤ unreached
    candidate_small = le_trans (candidate_le_chain C.depots (via C a) D P) small

    shrunk : State
    shrunk = rounds C (length C.depots) (round C a (start (shrunk_candidate C.depots (via C a) D P)))

    shrunk_settled : Invariant C metric unreached shrunk × (waiting_count C metric shrunk ≡ 0)
    unfolding shrunk waiting_count
    shrunk_settled =
        let S = start (shrunk_candidate C.depots (via C a) D P) in
        let I = start_fine C metric unreached most (le_refl unreached) (shrunk_candidate C.depots (via C a) D P) candidate_small in
        let J = round_keeps C metric S a in-a unreached I most (le_refl unreached) (start_free (shrunk_candidate C.depots (via C a) D P) a) in
        rounds_right C metric unreached most (le_refl unreached) (length C.depots) (round C a S) J (count_le_length (λ v. is_waiting ((round C a S).status v)) C.depots)

    once_references : (c : ℕ) (Q : Pairs) → ReferencesIn C (searched_once C a c Q)
    unfolding searched_once
    once_references c Q = record {
      inside = λ v h. Memᴰ.cast (eqb-true v a (sym (one_reference a v) ∙ h)) in-a;
      stands = λ v m. go v (eqb v a) refl;
      counted = counted_snoc [] a counted_nil (no_reference a);
    }
      where
        go : (v : ℕ) (b : Bool) → eqb v a ≡ b → StandsIn C (a ∷ []) v (cond b (searched (ecc C a)) (waiting unreached 0))
        go v true h = (one_reference a v ∙ h, ap (ecc C) (sym (eqb-true v a h)))
        go v false h = one_reference a v ∙ h

    pub opening_references : ReferencesIn C (opening C a D P).final
    unfolding opening shrunk
    opening_references =
        by_tests (λ o. ReferencesIn C o.final) (grows_by C a D) (kept_by C a D) (any_pair C.depots (staying_pairs (via C a) D P))
        (λ p. once_references (ecc C a) (own_pairs C a (ecc C a)))
        (λ p q. once_references D (λ u v. staying_pairs (via C a) D P u v || own_pairs C a D u v))
        (λ p q r. once_references D (staying_pairs (via C a) D P))
        (λ p q r. settled_references shrunk shrunk_settled.0)

    -- after a shrink the rounds have ended
    pub opening_settled : (opening C a D P).change ≡ Shrank → Invariant C metric unreached (opening C a D P).final × (waiting_count C metric (opening C a D P).final ≡ 0)
    unfolding opening shrunk
    opening_settled =
        by_tests (λ o. o.change ≡ Shrank → Invariant C metric unreached o.final × (waiting_count C metric o.final ≡ 0)) (grows_by C a D) (kept_by C a D)
        (any_pair C.depots (staying_pairs (via C a) D P))
        (λ p q. never (cc)) (λ p q r. never (cc)) (λ p q r s. never (cc)) (λ p q r s. shrunk_settled)
      where
        never : {A : Type 0} → ◌≡◌ {A = ℕ} 0 1 → A
        never z = absurd (lt_irrefl 0 (omega arith))

    pub opening_cover : (opening C a D P).change ≡ Shrank → CoveredIn C (opening C a D P).final
    opening_cover q = let s = opening_settled q in settled_cover (opening C a D P).final s.0 s.1

  -- ---- a link

  module _ (a b : ℕ) (ma : Memᴰ a C.depots) (mb : Memᴰ b C.depots) (apart : a ≡ b → ⊥) (D : ℕ) (small : D ≤ unreached) (P : Pairs) where
    shrunk_linked : State
    shrunk_linked = rounds C (length C.depots) (first_two C a b (shrunk_candidate C.depots (via_either C a b) D P))

    linked_settled : Invariant C metric unreached shrunk_linked × (waiting_count C metric shrunk_linked ≡ 0)
    unfolding shrunk_linked
    linked_settled =
        two_settled C metric unreached most (le_refl unreached) a b ma mb apart (shrunk_candidate C.depots (via_either C a b) D P)
        (le_trans (candidate_le_chain C.depots (via_either C a b) D P) small)

    two_references : (v : ℕ) → memb v (a ∷ b ∷ []) ≡ (eqb v a || eqb v b)
    unfolding memb anyb
    two_references v = ap (λ (t : Bool). eqb v a || t) (one_reference b v)

    twice_references : (c : ℕ) (Q : Pairs) → ReferencesIn C (searched_twice C a b c Q)
    unfolding searched_twice
    twice_references c Q = record {
      inside = λ v h. in_either v (or_cases (eqb v a) (eqb v b) (sym (two_references v) ∙ h));
      stands = λ v m. go v (eqb v a) (eqb v b) refl refl;
      counted = counted_snoc (a ∷ []) b (counted_snoc [] a counted_nil (no_reference a)) (one_reference a b ∙ ne_eqb b a (λ e. apart (sym e)));
    }
      where
        in_either : (v : ℕ) → (eqb v a ≡ true) ⊎ (eqb v b ≡ true) → Memᴰ v C.depots
        in_either v (inl h) = Memᴰ.cast (eqb-true v a h) ma
        in_either v (inr h) = Memᴰ.cast (eqb-true v b h) mb

        go : (v : ℕ) (s t : Bool) → eqb v a ≡ s → eqb v b ≡ t
            → StandsIn C (a ∷ b ∷ []) v (cond s (searched (ecc C a)) (cond t (searched (ecc C b)) (waiting unreached 0)))
        go v true t h k = (two_references v ∙ or_left _ (eqb v b) h, ap (ecc C) (sym (eqb-true v a h)))
        go v false true h k = (two_references v ∙ or_right (eqb v a) _ k, ap (ecc C) (sym (eqb-true v b k)))
        go v false false h k = two_references v ∙ rw (h, k)

    pub linking_references : ReferencesIn C (linking C a b D P).final
    unfolding linking shrunk_linked
    linking_references =
        by_test (λ o. ReferencesIn C o.final) (any_pair C.depots (staying_pairs (via_either C a b) D P) || eqb D 0)
        (λ k. twice_references D (staying_pairs (via_either C a b) D P))
        (λ k. settled_references shrunk_linked linked_settled.0)

    -- after a shrink the rounds have ended
    pub linking_settled : (linking C a b D P).change ≡ Shrank
        → Invariant C metric unreached (linking C a b D P).final × (waiting_count C metric (linking C a b D P).final ≡ 0)
    unfolding linking shrunk_linked
    linking_settled =
        by_test (λ o. o.change ≡ Shrank → Invariant C metric unreached o.final × (waiting_count C metric o.final ≡ 0))
        (any_pair C.depots (staying_pairs (via_either C a b) D P) || eqb D 0)
        (λ k q. never (cc)) (λ k q. linked_settled)
      where
        never : {A : Type 0} → ◌≡◌ {A = ℕ} 0 1 → A
        never z = absurd (lt_irrefl 0 (omega arith))

    pub linking_cover : (linking C a b D P).change ≡ Shrank → CoveredIn C (linking C a b D P).final
    linking_cover q = let s = linking_settled q in settled_cover (linking C a b D P).final s.0 s.1
