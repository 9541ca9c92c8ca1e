-- AN OPENING IS RIGHT, over metric spaces: if the stored figures are right, and the new distances are the old ones or the ways through a, then chain, pairs and letter are right after it. Assumes nothing.
use mathlib.Core.Path.{◌≡◌, refl, sym, ap, ◌∙◌, subst}
use mathlib.Core.Logic.{◌⊎◌, inl, inr}
use mathlib.Core.Bool.{Bool, true, false, cond, not, ◌||◌}
use mathlib.Core.List.{Memᴰ}
use Prim.Native.Nat.{ℕ, ◌+◌, ◌≤◌, ◌<◌, min}
use native.Mathlib.Nat.{le_refl, le_trans, le_of_lt, lt_irrefl}
use native.Mathlib.Omega.{arith}
use lib.Dec.{eqb, ltb}
use lib.ListN.{length}
use lib.Arith.{lt_of_le-ne}
use borrow.Author.Tests.{ltb-true, ltb-false, lt-ltb, le-ltb, eqb-true, eqb-false, not-true}
use Rattle.std.proofs.lemmas.Bool.{cases_Bool, and_parts, and_from, or_cases, or_left, or_right}
use Rattle.lists.specs.Lists.{anyb, memb}
use Rattle.lists.proofs.Tests.{clash}
use Rattle.lists.proofs.Members.{any_intro, any_elim}
use Rattle.lists.proofs.Counts.{count_le_length}
use Rattle.graph.specs.Chart.{Chart, ecc, greatest_ecc, Pairs, own_pairs}
use Rattle.graph.specs.Rounds.{is_waiting, State, round, rounds, start}
use Rattle.graph.specs.Opening.{Opened, via, staying_pairs, any_pair, shrunk_candidate, searched_once, grows_by, kept_by, opening}
use Rattle.graph.specs.Correct.{Moved}
use Rattle.graph.proofs.Metric.{IsMetric, ecc_ge, ecc_at}
use Rattle.graph.proofs.Round.{Invariant, own_is, own_left, own_right, round_keeps}
use Rattle.graph.proofs.Rounds.{waiting_count, rounds_right, start_fine}
use Rattle.graph.proofs.Right.{IsFar, IsRight, greatest_ge, greatest_small, greatest_pair, right_below, settled}
use Rattle.graph.proofs.Candidates.{candidate_le}

-- C is C₀ with the depot a, a destination or not
pub record IsInserted (C₀ C : Chart) (a : ℕ) : Type 0 where
  pub inside : Memᴰ a C.depots
  pub fresh : C₀.is_destination a ≡ false
  pub old : (v : ℕ) → C₀.is_destination v ≡ true → C.is_destination v ≡ true
  pub back : (v : ℕ) → C.is_destination v ≡ true → (v ≡ a) ⊎ (C₀.is_destination v ≡ true)
  pub through : (u v : ℕ) → C₀.is_destination u ≡ true → C₀.is_destination v ≡ true → C.distance u v ≡ min (C₀.distance u v) (C.distance a u + C.distance a v)

start_free : (c r : ℕ) → memb r (start c).references ≡ false
unfolding start memb anyb
start_free c r = refl

-- the figures after an opening are right, and the letter says how the chain moved
pub record IsRightAfter (C : Chart) (D : ℕ) (o : Opened) : Type 0 where
  pub right : IsRight C o.final.candidate o.final.pairs
  pub letter : Moved o.change D o.final.candidate

module _ (C₀ C : Chart) (metric : IsMetric C) (a D : ℕ) (P : Pairs) (was : IsRight C₀ D P) (ins : IsInserted C₀ C a) where
  e : ℕ
  e = ecc C a

  -- an end of a pair that is a: then a is a destination
  is_one : (u : ℕ) → u ≡ a → C.is_destination u ≡ true → C.is_destination a ≡ true
  is_one u q t = ap C.is_destination (sym q) ∙ t

  -- a distance of two old destinations
  between : (u v : ℕ) → C₀.is_destination u ≡ true → C₀.is_destination v ≡ true → C.distance u v ≤ D
  between u v tu tv =
      let t : C.distance u v ≡ min (C₀.distance u v) (C.distance a u + C.distance a v) = ins.through u v tu tv in
      let w : C₀.distance u v ≤ D = was.upper u v tu tv in
      omega arith

  -- a distance from or to a
  from_a : (v : ℕ) → C.is_destination v ≡ true → C.distance a v ≤ e
  unfolding e
  from_a v t = ecc_ge C metric a v t

  turn : (u : ℕ) → C.is_destination u ≡ true → C.distance u a ≡ C.distance a u
  turn u t = metric.symmetric u a (metric.inside u t) ins.inside

  upper_by : (c : ℕ) → D ≤ c → (C.is_destination a ≡ true → e ≤ c) → (u v : ℕ) → C.is_destination u ≡ true → C.is_destination v ≡ true → C.distance u v ≤ c
  upper_by c p q u v tu tv = go (ins.back u tu) (ins.back v tv)
    where
      go : (u ≡ a) ⊎ (C₀.is_destination u ≡ true) → (v ≡ a) ⊎ (C₀.is_destination v ≡ true) → C.distance u v ≤ c
      go (inl x) y =
          let l : C.distance a v ≤ e = from_a v tv in
          let m : e ≤ c = q (is_one u x tu) in
          let k : C.distance u v ≡ C.distance a v = ap (λ (w : ℕ). C.distance w v) x in
          omega arith
      go (inr x) (inl y) =
          let l : C.distance a u ≤ e = from_a u tu in
          let m : e ≤ c = q (is_one v y tv) in
          let k : C.distance u v ≡ C.distance u a = ap (λ (w : ℕ). C.distance u w) y in
          let t : C.distance u a ≡ C.distance a u = turn u tu in
          omega arith
      go (inr x) (inr y) = le_trans (between u v x y) p

  -- a pair at a distance c: of a, or of two old destinations
  ends : (c u v : ℕ) → IsFar C c u v → (((u ≡ a) × (C.distance a v ≡ c)) ⊎ ((v ≡ a) × (C.distance a u ≡ c))) ⊎ ((C₀.is_destination u ≡ true) × (C₀.is_destination v ≡ true))
  ends c u v p = go (ins.back u p.first) (ins.back v p.second)
    where
      go : (u ≡ a) ⊎ (C₀.is_destination u ≡ true) → (v ≡ a) ⊎ (C₀.is_destination v ≡ true) → (((u ≡ a) × (C.distance a v ≡ c)) ⊎ ((v ≡ a) × (C.distance a u ≡ c))) ⊎ ((C₀.is_destination u ≡ true) × (C₀.is_destination v ≡ true))
      go (inl x) y = inl (inl (x, ap (λ (w : ℕ). C.distance w v) (sym x) ∙ p.far))
      go (inr x) (inl y) = inl (inr (y, sym (turn u p.first) ∙ ap (λ (w : ℕ). C.distance u w) (sym y) ∙ p.far))
      go (inr x) (inr y) = inr (x, y)

  own→far : (c u v : ℕ) → own_pairs C a c u v ≡ true → IsFar C c u v
  own→far c u v h =
      let k = own_is C metric a c u v h in
      record { before = ltb-true u v k.0; first = k.1; second = k.2; far = go k.1 k.3 }
    where
      go : C.is_destination u ≡ true → ((u ≡ a) × (C.distance a v ≡ c)) ⊎ ((v ≡ a) × (C.distance a u ≡ c)) → C.distance u v ≡ c
      go tu (inl x) = ap (λ (w : ℕ). C.distance w v) x.0 ∙ x.1
      go tu (inr x) = ap (λ (w : ℕ). C.distance u w) x.0 ∙ turn u tu ∙ x.1

  far→own : (c u v : ℕ) → IsFar C c u v → ((u ≡ a) × (C.distance a v ≡ c)) ⊎ ((v ≡ a) × (C.distance a u ≡ c)) → own_pairs C a c u v ≡ true
  far→own c u v p (inl x) =
      subst (λ (w : ℕ). own_pairs C a c w v ≡ true) (sym x.0)
      (own_left C metric a c v (lt-ltb a v (subst (λ (w : ℕ). w < v) x.0 p.before)) (is_one u x.0 p.first) p.second x.1)
  far→own c u v p (inr x) =
      subst (λ (w : ℕ). own_pairs C a c u w ≡ true) (sym x.0)
      (own_right C metric a c u (lt-ltb u a (subst (λ (w : ℕ). u < w) x.0 p.before)) p.first (is_one v x.0 p.second) x.1)

  -- a stored pair: its new distance is the lesser of D and the way through a
  stored : (u v : ℕ) → P u v ≡ true → C.distance u v ≡ min D (via C a u v)
  unfolding via
  stored u v h =
      let p = was.is_far u v h in
      let t : C.distance u v ≡ min (C₀.distance u v) (C.distance a u + C.distance a v) = ins.through u v p.first p.second in
      let f : C₀.distance u v ≡ D = p.far in
      omega arith

  left→far : (u v : ℕ) → staying_pairs (via C a) D P u v ≡ true → IsFar C D u v
  unfolding staying_pairs
  left→far u v h =
      let k = and_parts (P u v) (not (ltb (via C a u v) D)) h in
      let p = was.is_far u v k.0 in
      let l : D ≤ via C a u v = ltb-false (via C a u v) D (not-true (ltb (via C a u v) D) k.1) in
      let s : C.distance u v ≡ min D (via C a u v) = stored u v k.0 in
      record { before = p.before; first = ins.old u p.first; second = ins.old v p.second; far = omega arith }

  far→left : (u v : ℕ) → IsFar C D u v → C₀.is_destination u ≡ true → C₀.is_destination v ≡ true → staying_pairs (via C a) D P u v ≡ true
  unfolding staying_pairs via
  far→left u v p tu tv =
      let t : C.distance u v ≡ min (C₀.distance u v) (C.distance a u + C.distance a v) = ins.through u v tu tv in
      let w : C₀.distance u v ≤ D = was.upper u v tu tv in
      let f : C.distance u v ≡ D = p.far in
      and_from _ _ (was.is_pair u v record { before = p.before; first = tu; second = tv; far = omega arith })
      (not_of (ltb (via C a u v) D) (le-ltb (via C a u v) D (omega arith)))
    where
      not_of : (b : Bool) → b ≡ false → not b ≡ true
      not_of b q = rw q

  -- the four cases

  case_grew : grows_by C a D ≡ true → C.is_destination a ≡ true → D < e → IsRightAfter C D (opening C a D P)
  unfolding opening searched_once e
  case_grew p new l = rw p record {
    right = record {
      upper = upper_by (ecc C a) (omega arith) (λ t. le_refl (ecc C a));
      attained = at (ecc_at C metric a);
      is_far = λ u v h. own→far (ecc C a) u v h;
      is_pair = λ u v p. pair u v p (ends (ecc C a) u v p);
    };
    letter = l;
  }
    where
      at : (ecc C a ≡ 0) ⊎ ((v : ℕ) × (C.is_destination v ≡ true) × (C.distance a v ≡ ecc C a)) → (ecc C a ≡ 0) ⊎ ((u v : ℕ) × (C.is_destination u ≡ true) × (C.is_destination v ≡ true) × (C.distance u v ≡ ecc C a))
      at (inl z) = inl z
      at (inr x) = inr (a, x.0, new, x.1, x.2)

      pair : (u v : ℕ) → IsFar C (ecc C a) u v → (((u ≡ a) × (C.distance a v ≡ ecc C a)) ⊎ ((v ≡ a) × (C.distance a u ≡ ecc C a))) ⊎ ((C₀.is_destination u ≡ true) × (C₀.is_destination v ≡ true)) → own_pairs C a (ecc C a) u v ≡ true
      pair u v p (inl x) = far→own (ecc C a) u v p x
      pair u v p (inr x) =
          let k : C.distance u v ≤ D = between u v x.0 x.1 in
          let f : C.distance u v ≡ ecc C a = p.far in
          absurd (lt_irrefl D (omega arith))

  -- a is a destination with e = D, or a yard where the chain was 0
  case_same : grows_by C a D ≡ false → kept_by C a D ≡ true → ((C.is_destination a ≡ true) × (e ≡ D)) ⊎ ((C.is_destination a ≡ false) × (D ≡ 0))
      → IsRightAfter C D (opening C a D P)
  unfolding opening searched_once e
  case_same n k q = rw (n, k) record {
    right = record {
      upper = upper_by D (le_refl D) (most q);
      attained = attained q (ecc_at C metric a);
      is_far = λ u v h. far u v (or_cases (staying_pairs (via C a) D P u v) (own_pairs C a D u v) h);
      is_pair = λ u v p. pair u v p (ends D u v p);
    };
    letter = refl;
  }
    where
      most : ((C.is_destination a ≡ true) × (e ≡ D)) ⊎ ((C.is_destination a ≡ false) × (D ≡ 0)) → C.is_destination a ≡ true → e ≤ D
      most (inl q) t = omega (arith, q.1)
      most (inr q) t = absurd (clash t q.0)

      attained : ((C.is_destination a ≡ true) × (e ≡ D)) ⊎ ((C.is_destination a ≡ false) × (D ≡ 0)) → (ecc C a ≡ 0) ⊎ ((v : ℕ) × (C.is_destination v ≡ true) × (C.distance a v ≡ ecc C a))
          → (D ≡ 0) ⊎ ((u v : ℕ) × (C.is_destination u ≡ true) × (C.is_destination v ≡ true) × (C.distance u v ≡ D))
      attained (inl q) (inl z) = inl (sym q.1 ∙ z)
      attained (inl q) (inr x) = inr (a, x.0, q.0, x.1, x.2 ∙ q.1)
      attained (inr q) x = inl q.1

      far : (u v : ℕ) → (staying_pairs (via C a) D P u v ≡ true) ⊎ (own_pairs C a D u v ≡ true) → IsFar C D u v
      far u v (inl h) = left→far u v h
      far u v (inr h) = own→far D u v h

      pair : (u v : ℕ) → IsFar C D u v → (((u ≡ a) × (C.distance a v ≡ D)) ⊎ ((v ≡ a) × (C.distance a u ≡ D))) ⊎ ((C₀.is_destination u ≡ true) × (C₀.is_destination v ≡ true)) → (staying_pairs (via C a) D P u v || own_pairs C a D u v) ≡ true
      pair u v p (inl x) = or_right (staying_pairs (via C a) D P u v) _ (far→own D u v p x)
      pair u v p (inr x) = or_left _ (own_pairs C a D u v) (far→left u v p x.0 x.1)

  -- below, e < D if a is a destination: a has no pair at distance D
  low_pair : (C.is_destination a ≡ true → e < D) → (u v : ℕ) → IsFar C D u v → staying_pairs (via C a) D P u v ≡ true
  low_pair l u v p = go (ends D u v p)
    where
      go : (((u ≡ a) × (C.distance a v ≡ D)) ⊎ ((v ≡ a) × (C.distance a u ≡ D))) ⊎ ((C₀.is_destination u ≡ true) × (C₀.is_destination v ≡ true)) → staying_pairs (via C a) D P u v ≡ true
      go (inl (inl x)) =
          let k : C.distance a v ≤ e = from_a v p.second in
          let f : C.distance a v ≡ D = x.1 in
          let m : e < D = l (is_one u x.0 p.first) in
          absurd (lt_irrefl D (omega arith))
      go (inl (inr x)) =
          let k : C.distance a u ≤ e = from_a u p.first in
          let f : C.distance a u ≡ D = x.1 in
          let m : e < D = l (is_one v x.0 p.second) in
          absurd (lt_irrefl D (omega arith))
      go (inr x) = far→left u v p x.0 x.1

  case_left : grows_by C a D ≡ false → kept_by C a D ≡ false → (C.is_destination a ≡ true → e < D) → any_pair C.depots (staying_pairs (via C a) D P) ≡ true
      → IsRightAfter C D (opening C a D P)
  unfolding opening searched_once any_pair
  case_left n o l h =
      let x = any_elim (λ u. anyb (λ v. staying_pairs (via C a) D P u v) C.depots) C.depots h in
      let y = any_elim (λ v. staying_pairs (via C a) D P x.0 v) C.depots x.2 in
      let p = left→far x.0 y.0 y.2 in
      rw (n, o, h) record {
        right = record {
          upper = upper_by D (le_refl D) (λ t. le_of_lt (l t));
          attained = inr (x.0, y.0, p.first, p.second, p.far);
          is_far = left→far;
          is_pair = low_pair l;
        };
        letter = refl;
      }

  -- the candidate after a shrink is a distance
  shrunk_candidate_le : shrunk_candidate C.depots (via C a) D P ≤ greatest_ecc C
  shrunk_candidate_le = candidate_le C.depots (via C a) D P (greatest_ecc C) at
    where
      at : (u v : ℕ) → P u v ≡ true → min D (via C a u v) ≤ greatest_ecc C
      at u v h =
          let p = was.is_far u v h in
          let s : C.distance u v ≡ min D (via C a u v) = stored u v h in
          let k : C.distance u v ≤ greatest_ecc C = greatest_pair C metric u v (ins.old u p.first) (ins.old v p.second) in
          omega arith

  pub shrunk : State
  shrunk = rounds C (length C.depots) (round C a (start (shrunk_candidate C.depots (via C a) D P)))

  pub shrunk_settled : Invariant C metric (greatest_ecc C) shrunk × (waiting_count C metric shrunk ≡ 0)
  unfolding shrunk waiting_count
  shrunk_settled =
      let S = start (shrunk_candidate C.depots (via C a) D P) in
      let I = start_fine C metric (greatest_ecc C) (greatest_ge C metric) (greatest_small C metric) (shrunk_candidate C.depots (via C a) D P) shrunk_candidate_le in
      let J = round_keeps C metric S a ins.inside (greatest_ecc C) I (greatest_ge C metric) (greatest_small C metric) (start_free (shrunk_candidate C.depots (via C a) D P) a) in
      rounds_right C metric (greatest_ecc C) (greatest_ge C metric) (greatest_small C metric) (length C.depots) (round C a S) J
      (count_le_length (λ v. is_waiting ((round C a S).status v)) C.depots)

  no_left : (C.is_destination a ≡ true → e < D) → any_pair C.depots (staying_pairs (via C a) D P) ≡ false → (u v : ℕ) → IsFar C D u v → ⊥
  unfolding any_pair
  no_left l h u v p =
      clash
      (any_intro (λ u. anyb (λ v. staying_pairs (via C a) D P u v) C.depots) C.depots (metric.inside u p.first)
      (any_intro (λ v. staying_pairs (via C a) D P u v) C.depots (metric.inside v p.second) (low_pair l u v p)))
      h

  case_shrank : grows_by C a D ≡ false → kept_by C a D ≡ false → 0 < D → (C.is_destination a ≡ true → e < D)
      → any_pair C.depots (staying_pairs (via C a) D P) ≡ false → IsRightAfter C D (opening C a D P)
  unfolding opening shrunk
  case_shrank m o n l h =
      let r = settled C metric shrunk shrunk_settled.0 shrunk_settled.1 in
      rw (m, o, h) record {
        right = r;
        letter = right_below C metric shrunk.candidate D shrunk.pairs r n (upper_by D (le_refl D) (λ t. le_of_lt (l t))) (no_left l h);
      }

  -- ---- what the two tests say

  grows_is : grows_by C a D ≡ true → (C.is_destination a ≡ true) × (D < e)
  unfolding grows_by e
  grows_is p = let h = and_parts (C.is_destination a) (ltb D (ecc C a)) p in (h.0, ltb-true D (ecc C a) h.1)

  kept_is : kept_by C a D ≡ true → ((C.is_destination a ≡ true) × (e ≡ D)) ⊎ ((C.is_destination a ≡ false) × (D ≡ 0))
  unfolding kept_by e
  kept_is = go (C.is_destination a) refl
    where
      go : (b : Bool) → C.is_destination a ≡ b → cond b (eqb (ecc C a) D) (eqb D 0) ≡ true → ((C.is_destination a ≡ true) × (e ≡ D)) ⊎ ((C.is_destination a ≡ false) × (D ≡ 0))
      go true t q = inl (t, eqb-true (ecc C a) D q)
      go false t q = inr (t, eqb-true D 0 q)

  -- where neither holds, a destination is nearer than D, and the chain was not 0
  low : grows_by C a D ≡ false → kept_by C a D ≡ false → C.is_destination a ≡ true → e < D
  unfolding grows_by kept_by e
  low p q t = lt_of_le-ne (ltb-false D (ecc C a) (rw t at p)) (eqb-false (ecc C a) D (rw t at q))

  positive : grows_by C a D ≡ false → kept_by C a D ≡ false → 0 < D
  unfolding kept_by
  positive p q = go (cases_Bool (C.is_destination a))
    where
      go : (C.is_destination a ≡ true) ⊎ (C.is_destination a ≡ false) → 0 < D
      go (inl t) = let l : e < D = low p q t in omega arith
      go (inr t) = let n = eqb-false D 0 (rw t at q) in omega (arith, n)

  -- THE OPENING IS RIGHT
  pub opening_right : IsRightAfter C D (opening C a D P)
  opening_right = go (grows_by C a D) (kept_by C a D) (any_pair C.depots (staying_pairs (via C a) D P)) refl refl refl
    where
      go : (b s k : Bool) → grows_by C a D ≡ b → kept_by C a D ≡ s → any_pair C.depots (staying_pairs (via C a) D P) ≡ k → IsRightAfter C D (opening C a D P)
      go true s k p q r = let h = grows_is p in case_grew p h.0 h.1
      go false true k p q r = case_same p q (kept_is q)
      go false false true p q r = case_left p q (low p q) r
      go false false false p q r = case_shrank p q (positive p q) (low p q) r
