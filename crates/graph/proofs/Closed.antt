-- Closing a depot: the network stays sound, it is cut exactly if two of those left open lie apart, and what is reckoned afresh is true. Assumes nothing.
use mathlib.Core.Path.{◌≡◌, refl, sym, ap, ◌∙◌}
use mathlib.Core.Logic.{◌⊎◌, inl, inr, ◌↔◌}
use mathlib.Core.Bool.{Bool, true, false, cond, not, ◌&&◌}
use mathlib.Core.List.{[]}
use Prim.Native.Nat.{ℕ, ◌≤◌, ◌<◌}
use native.Mathlib.Nat.{le_antisymm, lt_of_le_of_lt}
use native.Mathlib.Omega.{arith}
use lib.Dec.{T, eqb, ltb}
use lib.ListN.{length}
use borrow.Author.Tests.{ltb-true, ltb-false, not-true, not-false}
use Rattle.std.proofs.lemmas.Bool.{cases_Bool, and_parts, and_from}
use Rattle.lists.specs.Lists.{memb, first_of}
use Rattle.lists.specs.Conditions.{FirstHolds}
use Rattle.lists.proofs.Tests.{t→true, true→t, clash}
use Rattle.lists.proofs.Members.{length-filter, first_zero}
use Rattle.lists.proofs.Distinct.{memb_filter, distinct_filter}
use Rattle.lists.proofs.Conditions.{Decides, decides_test, decides_not, Tells, tells_first}
use Rattle.outcome.specs.declared.Change.TheVariants.{Grew, Kept, Shrank}
use Rattle.graph.specs.Network.{Network, IsSound, delivers, IsEcc, AreTrue}
use Rattle.graph.specs.Distance.{vertices, unreached, connected}
use Rattle.graph.specs.Chart.{chart, ecc, Pairs}
use Rattle.graph.specs.Rounds.{reckon}
use Rattle.graph.specs.Closing.{remove_depot, AreApart, close_faults, change_from, closing}
use Rattle.graph.specs.Refusals.{IsCut, close_conditions}
use Rattle.graph.specs.Correct.{IsNet, Moved, AllSkipped, IsReckoned, IsOpened, AreSound}
use Rattle.graph.proofs.Delivers.{delivers_open}
use Rattle.graph.proofs.Connected.{connected_of, connected_iff}
use Rattle.graph.proofs.Charts.{greatest_unique, chart-ecc}
use Rattle.graph.proofs.Apart.{apart_of}
use Rattle.graph.proofs.Skipped.{reckoning_skipped}
use Rattle.graph.proofs.Theorems.{reckoning_correct}
use Rattle.graph.proofs.Updates.{below_limit}

-- ---- not connected: two depots lie apart

module _ (G : Network) (sound : IsSound G) (small : length (vertices G) < unreached) where
  apart_two : connected G ≡ false → AreApart G
  apart_two h = let a = apart_of G sound small h in record { first = a.lowest; is_first = a.is_open; second = a.depot; is_second = a.is_depot; no_walk = a.no_walk }

  two_apart : AreApart G → connected G ≡ false
  two_apart a = go (cases_Bool (connected G))
    where
      go : (connected G ≡ true) ⊎ (connected G ≡ false) → connected G ≡ false
      go (inl c) = let w = (connected_iff G sound small).0 c a.first a.second a.is_first a.is_second in absurd (a.no_walk w.0 w.1)
      go (inr n) = n

  pub apart_iff : (connected G ≡ false) ↔ AreApart G
  apart_iff = (apart_two, two_apart)

-- ---- without the depot c

module _ (G : Network) (sound : IsSound G) (c : ℕ) where
  abbrev H : Network
  H = remove_depot G c

  pub left_listed : (v : ℕ) → H.is_open v ≡ memb v (vertices H)
  unfolding remove_depot
  left_listed v = ap (λ (b : Bool). b && not (eqb v c)) (sound.listed v) ∙ sym (memb_filter (λ w. not (eqb w c)) (vertices G) v)

  pub left_few : length (vertices H) ≤ length (vertices G)
  unfolding remove_depot
  left_few = length-filter (λ v. not (eqb v c)) (vertices G)

  -- a link left joins two others
  left_link : (u v : ℕ) → T (H.linked u v) → T (G.linked u v) × (not (eqb u c) ≡ true) × (not (eqb v c) ≡ true)
  unfolding remove_depot
  left_link u v l =
      let p = and_parts (G.linked u v && not (eqb u c)) (not (eqb v c)) (t→true (H.linked u v) l) in
      let q = and_parts (G.linked u v) (not (eqb u c)) p.0 in
      (true→t q.0, q.1, p.1)

  pub left_sound : IsSound H
  unfolding remove_depot
  left_sound = record {
    listed = left_listed;
    once = distinct_filter (λ v. not (eqb v c)) (vertices G) sound.once;
    yards = λ v t.
        let p = and_parts (G.is_yard v) (not (eqb v c)) (t→true (H.is_yard v) t) in
        true→t (and_from _ _ (t→true (G.is_open v) (sound.yards v (true→t p.0))) p.1);
    ends = λ u v l. let p = left_link u v l in true→t (and_from _ _ (t→true (G.is_open v) (sound.ends u v p.0)) p.2);
    loopless = λ u v l. sound.loopless u v (left_link u v l).0;
    symmetric = λ u v l.
        let p = left_link u v l in
        true→t (and_from _ _ (and_from _ _ (t→true (G.linked v u) (sound.symmetric u v p.0)) p.2) p.1);
  }

-- a closing that no refusal hits leaves a network that a map can hold
pub closed_net : (G : Network) → IsNet G → (c : ℕ) → first_of (close_faults G c) ≡ 0 → IsNet (remove_depot G c)
unfolding close_faults
closed_net G net c ok =
    let H = remove_depot G c in
    let f4 = first_zero (not (G.is_open c)) 3 _ ok in
    let f17 = first_zero (not (connected H)) 16 [] f4.1 in
    let few = lt_of_le_of_lt (left_few G net.sound c) net.small in
    record {
      sound = left_sound G net.sound c;
      connected = connected_of H (left_sound G net.sound c) few (not-false (connected H) f17.0);
      small = few;
    }

-- CUT: 17 is given exactly if c is open and two of those left open lie apart
pub cut_iff : (G : Network) → IsNet G → (c : ℕ) → (first_of (close_faults G c) ≡ 17) ↔ (T (G.is_open c) × AreApart (remove_depot G c))
unfolding close_faults first_of
cut_iff G net c = (to, λ p. from (t→true (G.is_open c) p.0) (apart.1 p.1))
  where
    H : Network
    H = remove_depot G c

    apart : (connected H ≡ false) ↔ AreApart H
    apart = apart_iff H (left_sound G net.sound c) (lt_of_le_of_lt (left_few G net.sound c) net.small)

    to : first_of (close_faults G c) ≡ 17 → T (G.is_open c) × AreApart H
    to e = go (cases_Bool (G.is_open c)) (cases_Bool (connected H))
      where
        go : (G.is_open c ≡ true) ⊎ (G.is_open c ≡ false) → (connected H ≡ true) ⊎ (connected H ≡ false) → T (G.is_open c) × AreApart H
        go (inl o) (inr n) = (true→t o, apart.0 n)
        go (inl o) (inl y) = let z : ◌≡◌ {A = ℕ} 0 17 = rw (o, y) at e in absurd (omega arith)
        go (inr n) y = let z : ◌≡◌ {A = ℕ} 4 17 = rw n at e in absurd (omega arith)

    from : G.is_open c ≡ true → connected H ≡ false → first_of (close_faults G c) ≡ 17
    from o n = rw (o, n)

-- A CLOSING IS REFUSED by the first condition of its table that holds
module _ (G : Network) (sound : IsSound G) (small : length (vertices G) < unreached) (c : ℕ) where
  decides_cut : Decides (not (connected (remove_depot G c))) (IsCut G c)
  decides_cut =
      let a = apart_iff (remove_depot G c) (left_sound G sound c) (lt_of_le_of_lt (left_few G sound c) small) in
      record {
        holds = λ e. a.0 (not-true (connected (remove_depot G c)) e);
        fails = λ e x. clash (not-false (connected (remove_depot G c)) e) (a.1 x);
      }

  pub close_tells : Tells (close_faults G c) (close_conditions G c)
  unfolding close_faults
  close_tells = (refl, decides_not (G.is_open c) (decides_test (G.is_open c)), λ f4. (refl, decides_cut, λ f17. tt))

  pub close_refusals : (k : ℕ) → (first_of (close_faults G c) ≡ k) ↔ FirstHolds (close_conditions G c) k
  close_refusals k = tells_first (close_faults G c) (close_conditions G c) close_tells k

-- ---- true figures are sound

pub true_sound : (G : Network) → IsNet G → (limit : ℕ) → length (vertices G) ≤ limit → 0 < limit → (D : ℕ) (P : Pairs) → AreTrue G (delivers G) D P → AreSound G limit D P
unfolding chart
true_sound G net limit few positive D P were = record {
  below = go were.chain.attained;
  pairs = λ u v h. let f = (were.pairs u v).0 h in (f.before, f.first, f.second);
}
  where
    go : (D ≡ 0) ⊎ ((u : ℕ) × T (delivers G u) × IsEcc G (delivers G) u D) → D < limit
    go (inl z) = omega (arith, z, positive)
    go (inr x) =
        let e : D ≡ ecc (chart G) x.0 = greatest_unique x.2 (chart-ecc G net x.0 (delivers_open G x.0 x.1)) in
        let b : ecc (chart G) x.0 < limit = below_limit G net limit few x.0 (t→true (delivers G x.0) x.1) in
        omega arith

-- ---- A CLOSING IS CORRECT, whatever figures were stored

change_from_lem : (D E : ℕ) → Moved (change_from D E) D E
unfolding change_from
change_from_lem D E = go (ltb D E) (ltb E D) refl refl
  where
    go : (b c : Bool) → ltb D E ≡ b → ltb E D ≡ c → Moved (cond b Grew (cond c Shrank Kept)) D E
    go true c p q = ltb-true D E p
    go false true p q = ltb-true E D q
    go false false p q = le_antisymm (ltb-false E D q) (ltb-false D E p)

module _ (H : Network) (net : IsNet H) (D : ℕ) where
  -- true figures, and the letter says how the chain moved
  pub closing_correct : IsOpened H D (closing (chart H) D)
  unfolding closing
  closing_correct =
      let r = reckoning_correct H net in
      record {
        figures = r.figures;
        change = change_from_lem D (reckon (chart H)).candidate;
        searched = record { references = r.references; cover = λ q. r.cover };
      }

  -- a whole reckoning: references and marks are right, and all others are covered, whatever the letter
  pub closing_reckoned : IsReckoned H (closing (chart H) D).final
  unfolding closing
  closing_reckoned = reckoning_correct H net

  -- every depot that was not searched was skipped by right, whatever the letter
  pub closing_skipped : AllSkipped H (closing (chart H) D).final
  unfolding closing
  closing_skipped = reckoning_skipped H net

  -- the figures are sound, below every limit that the number of depots does not pass
  pub closing_sound : (limit : ℕ) → length (vertices H) ≤ limit → 0 < limit
      → AreSound H limit (closing (chart H) D).final.candidate (closing (chart H) D).final.pairs
  closing_sound limit few positive = true_sound H net limit few positive (closing (chart H) D).final.candidate (closing (chart H) D).final.pairs closing_correct.figures
