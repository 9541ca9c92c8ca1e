-- A LINK IS RIGHT, over metric spaces: if the stored figures are right, and each new distance is the least of the old one and the ways through both
-- ends, then chain, pairs and letter are right after it. Assumes nothing.
use mathlib.Core.Path.{◌≡◌, refl, sym, ◌∙◌}
use mathlib.Core.Logic.{◌⊎◌, inl, inr}
use mathlib.Core.Bool.{Bool, true, false, not, ◌||◌}
use mathlib.Core.List.{Memᴰ}
use Prim.Native.Nat.{ℕ, ◌≤◌, ◌<◌, min}
use native.Mathlib.Decide.{dec_lt}
use native.Mathlib.Omega.{arith}
use lib.Dec.{eqb, ltb}
use lib.ListN.{length}
use borrow.Author.Tests.{ltb-false, le-ltb, eqb-true, eqb-false, not-true}
use Rattle.std.proofs.lemmas.Bool.{cases_Bool, and_parts, and_from, or_cases, or_parts}
use Rattle.lists.specs.Lists.{anyb}
use Rattle.lists.proofs.Tests.{clash}
use Rattle.lists.proofs.Members.{any_intro, any_elim}
use Rattle.graph.specs.Chart.{Chart, greatest_ecc, Pairs}
use Rattle.graph.specs.Rounds.{rounds}
use Rattle.graph.specs.Opening.{staying_pairs, any_pair, shrunk_candidate}
use Rattle.graph.specs.Linking.{via_either, searched_twice, first_two, linking}
use Rattle.graph.proofs.Metric.{IsMetric}
use Rattle.graph.proofs.Right.{IsFar, IsRight, greatest_ge, greatest_small, greatest_pair, right_below, settled}
use Rattle.graph.proofs.Candidates.{candidate_le}
use Rattle.graph.proofs.OpeningCases.{IsRightAfter}
use Rattle.graph.proofs.FirstTwo.{two_settled}

-- C is C₀ with a link of the depots a and b
pub record IsJoined (C₀ C : Chart) (a b : ℕ) : Type 0 where
  pub first : Memᴰ a C.depots
  pub second : Memᴰ b C.depots
  pub apart : a ≡ b → ⊥
  pub same : (v : ℕ) → C.is_destination v ≡ C₀.is_destination v
  pub through : (u v : ℕ) → C₀.is_destination u ≡ true → C₀.is_destination v ≡ true → C.distance u v ≡ min (C₀.distance u v) (via_either C a b u v)

module _ (C₀ C : Chart) (metric : IsMetric C) (a b D : ℕ) (P : Pairs) (was : IsRight C₀ D P) (j : IsJoined C₀ C a b) where
  was_one : (v : ℕ) → C.is_destination v ≡ true → C₀.is_destination v ≡ true
  was_one v t = sym (j.same v) ∙ t

  is_one : (v : ℕ) → C₀.is_destination v ≡ true → C.is_destination v ≡ true
  is_one v t = j.same v ∙ t

  -- no distance is above D
  between : (u v : ℕ) → C.is_destination u ≡ true → C.is_destination v ≡ true → C.distance u v ≤ D
  between u v tu tv =
      let t : C.distance u v ≡ min (C₀.distance u v) (via_either C a b u v) = j.through u v (was_one u tu) (was_one v tv) in
      let w : C₀.distance u v ≤ D = was.upper u v (was_one u tu) (was_one v tv) in
      omega arith

  -- a pair of the old diameter: its new distance is the least of D and the two ways
  stored : (u v : ℕ) → IsFar C₀ D u v → C.distance u v ≡ min D (via_either C a b u v)
  stored u v p =
      let t : C.distance u v ≡ min (C₀.distance u v) (via_either C a b u v) = j.through u v p.first p.second in
      let f : C₀.distance u v ≡ D = p.far in
      omega arith

  left→far : (u v : ℕ) → staying_pairs (via_either C a b) D P u v ≡ true → IsFar C D u v
  unfolding staying_pairs
  left→far u v h =
      let k = and_parts (P u v) (not (ltb (via_either C a b u v) D)) h in
      let p = was.is_far u v k.0 in
      let l : D ≤ via_either C a b u v = ltb-false (via_either C a b u v) D (not-true (ltb (via_either C a b u v) D) k.1) in
      let s : C.distance u v ≡ min D (via_either C a b u v) = stored u v p in
      record { before = p.before; first = is_one u p.first; second = is_one v p.second; far = omega arith }

  far→left : (u v : ℕ) → IsFar C D u v → staying_pairs (via_either C a b) D P u v ≡ true
  unfolding staying_pairs
  far→left u v q =
      let tu = was_one u q.first in
      let tv = was_one v q.second in
      let t : C.distance u v ≡ min (C₀.distance u v) (via_either C a b u v) = j.through u v tu tv in
      let w : C₀.distance u v ≤ D = was.upper u v tu tv in
      let f : C.distance u v ≡ D = q.far in
      and_from _ _ (was.is_pair u v record { before = q.before; first = tu; second = tv; far = omega arith })
      (not_of (ltb (via_either C a b u v) D) (le-ltb (via_either C a b u v) D (omega arith)))
    where
      not_of : (b : Bool) → b ≡ false → not b ≡ true
      not_of b q = rw q

  -- ---- kept

  -- a pair is left, or D is 0: so D is attained
  attained : (any_pair C.depots (staying_pairs (via_either C a b) D P) ≡ true) ⊎ (eqb D 0 ≡ true)
      → (D ≡ 0) ⊎ ((u v : ℕ) × (C.is_destination u ≡ true) × (C.is_destination v ≡ true) × (C.distance u v ≡ D))
  unfolding any_pair
  attained (inl h) =
      let x = any_elim (λ u. anyb (λ v. staying_pairs (via_either C a b) D P u v) C.depots) C.depots h in
      let y = any_elim (λ v. staying_pairs (via_either C a b) D P x.0 v) C.depots x.2 in
      let p = left→far x.0 y.0 y.2 in
      inr (x.0, y.0, p.first, p.second, p.far)
  attained (inr h) = inl (eqb-true D 0 h)

  case_kept : (any_pair C.depots (staying_pairs (via_either C a b) D P) || eqb D 0) ≡ true → IsRightAfter C D (linking C a b D P)
  unfolding linking searched_twice
  case_kept h = rw h record {
    right = record {
      upper = between;
      attained = attained (or_cases (any_pair C.depots (staying_pairs (via_either C a b) D P)) (eqb D 0) h);
      is_far = left→far;
      is_pair = far→left;
    };
    letter = refl;
  }

  -- ---- shrank

  -- the candidate is a distance
  link_candidate_le : shrunk_candidate C.depots (via_either C a b) D P ≤ greatest_ecc C
  link_candidate_le = candidate_le C.depots (via_either C a b) D P (greatest_ecc C) at
    where
      at : (u v : ℕ) → P u v ≡ true → min D (via_either C a b u v) ≤ greatest_ecc C
      at u v h =
          let p = was.is_far u v h in
          let s : C.distance u v ≡ min D (via_either C a b u v) = stored u v p in
          let k : C.distance u v ≤ greatest_ecc C = greatest_pair C metric u v (is_one u p.first) (is_one v p.second) in
          omega arith

  none_left : any_pair C.depots (staying_pairs (via_either C a b) D P) ≡ false → (u v : ℕ) → IsFar C D u v → ⊥
  unfolding any_pair
  none_left h u v p =
      clash
      (any_intro (λ u. anyb (λ v. staying_pairs (via_either C a b) D P u v) C.depots) C.depots (metric.inside u p.first)
      (any_intro (λ v. staying_pairs (via_either C a b) D P u v) C.depots (metric.inside v p.second) (far→left u v p)))
      h

  case_shrank : (any_pair C.depots (staying_pairs (via_either C a b) D P) || eqb D 0) ≡ false → IsRightAfter C D (linking C a b D P)
  unfolding linking
  case_shrank h =
      let c = shrunk_candidate C.depots (via_either C a b) D P in
      let S = rounds C (length C.depots) (first_two C a b c) in
      let x = two_settled C metric (greatest_ecc C) (greatest_ge C metric) (greatest_small C metric) a b j.first j.second j.apart c link_candidate_le in
      let r = settled C metric S x.0 x.1 in
      let k = or_parts (any_pair C.depots (staying_pairs (via_either C a b) D P)) (eqb D 0) h in
      rw h record { right = r; letter = right_below C metric S.candidate D S.pairs r (positive (dec_lt 0 D) k.1) between (none_left k.0) }
    where
      positive : Dec (0 < D) → eqb D 0 ≡ false → 0 < D
      positive (yes l) n = l
      positive (no l) n = absurd (eqb-false D 0 n (omega arith))

  -- THE LINK IS RIGHT
  pub linking_right : IsRightAfter C D (linking C a b D P)
  linking_right = go (cases_Bool (any_pair C.depots (staying_pairs (via_either C a b) D P) || eqb D 0))
    where
      go : ((any_pair C.depots (staying_pairs (via_either C a b) D P) || eqb D 0) ≡ true) ⊎ ((any_pair C.depots (staying_pairs (via_either C a b) D P) || eqb D 0) ≡ false)
          → IsRightAfter C D (linking C a b D P)
      go (inl h) = case_kept h
      go (inr h) = case_shrank h
