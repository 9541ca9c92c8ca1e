-- Right figures of a chart: the greatest distance between destinations, and the pairs at it. The whole reckoning leaves them. Assumes nothing.
use mathlib.Core.Path.{◌≡◌, sym, ap, ◌∙◌, subst}
use mathlib.Core.Logic.{◌⊎◌, inl, inr}
use mathlib.Core.Bool.{true}
use mathlib.Core.List.{Memᴰ}
use Prim.Native.Nat.{ℕ, ◌≤◌, ◌<◌, zero-le}
use native.Mathlib.Nat.{le_antisymm, le_trans, lt_irrefl}
use native.Mathlib.Decide.{dec_lt}
use native.Mathlib.Omega.{arith}
use lib.ListN.{length}
use borrow.Author.Tests.{ltb-true}
use Rattle.lists.specs.Lists.{filterb, max_of}
use Rattle.lists.proofs.Members.{filter_in, filter_out}
use Rattle.lists.proofs.Counts.{max_ge, max_le_of, max_at, count_le_length}
use Rattle.graph.specs.Distance.{unreached}
use Rattle.graph.specs.Chart.{Chart, destinations, ecc, greatest_ecc, Pairs}
use Rattle.graph.specs.Rounds.{is_waiting, State, rounds, start, reckon}
use Rattle.graph.proofs.Metric.{IsMetric, ecc_ge, ecc_le, ecc_at, ecc_small}
use Rattle.graph.proofs.Round.{Invariant}
use Rattle.graph.proofs.Rounds.{waiting_count, rounds_right, final_ge, final_pair, start_fine}

-- u < v are destinations at distance c
pub record IsFar (C : Chart) (c u v : ℕ) : Type 0 where
  pub before : u < v
  pub first : C.is_destination u ≡ true
  pub second : C.is_destination v ≡ true
  pub far : C.distance u v ≡ c

-- c is the greatest distance between destinations, and P tells the pairs at that distance
pub record IsRight (C : Chart) (c : ℕ) (P : Pairs) : Type 0 where
  pub upper : (u v : ℕ) → C.is_destination u ≡ true → C.is_destination v ≡ true → C.distance u v ≤ c
  pub attained : (c ≡ 0) ⊎ ((u v : ℕ) × (C.is_destination u ≡ true) × (C.is_destination v ≡ true) × (C.distance u v ≡ c))
  pub is_far : (u v : ℕ) → P u v ≡ true → IsFar C c u v
  pub is_pair : (u v : ℕ) → IsFar C c u v → P u v ≡ true

module _ (C : Chart) (metric : IsMetric C) where
  far_positive : (c u v : ℕ) → IsFar C c u v → 0 < c
  far_positive c u v p = go (dec_lt 0 c)
    where
      go : Dec (0 < c) → 0 < c
      go (yes l) = l
      go (no l) =
          let f : C.distance u v ≡ c = p.far in
          let e : u ≡ v = metric.apart u v (metric.inside u p.first) (metric.inside v p.second) (omega arith) in
          let b : u < v = p.before in
          absurd (lt_irrefl u (omega arith))

  -- ---- the greatest eccentricity of a destination

  pub greatest_ge : (v : ℕ) → C.is_destination v ≡ true → ecc C v ≤ greatest_ecc C
  unfolding greatest_ecc destinations
  greatest_ge v t = max_ge (ecc C) (filterb C.is_destination C.depots) (filter_in C.is_destination C.depots (metric.inside v t) t)

  pub greatest_small : greatest_ecc C ≤ unreached
  unfolding greatest_ecc destinations
  greatest_small = max_le_of (ecc C) (filterb C.is_destination C.depots) unreached (λ x m. let l : ecc C x < unreached = ecc_small C metric x (filter_out C.is_destination C.depots m).0 in omega arith)

  pub greatest_at : (greatest_ecc C ≡ 0) ⊎ ((u v : ℕ) × (C.is_destination u ≡ true) × (C.is_destination v ≡ true) × (C.distance u v ≡ greatest_ecc C))
  unfolding greatest_ecc destinations
  greatest_at = go (max_at (ecc C) (filterb C.is_destination C.depots))
    where
      inner : (x : ℕ) → C.is_destination x ≡ true → greatest_ecc C ≡ ecc C x → (ecc C x ≡ 0) ⊎ ((v : ℕ) × (C.is_destination v ≡ true) × (C.distance x v ≡ ecc C x))
          → (greatest_ecc C ≡ 0) ⊎ ((u v : ℕ) × (C.is_destination u ≡ true) × (C.is_destination v ≡ true) × (C.distance u v ≡ greatest_ecc C))
      inner x t e (inl z) = inl (e ∙ z)
      inner x t e (inr y) = inr (x, y.0, t, y.1, y.2 ∙ sym e)

      go : (max_of (ecc C) (filterb C.is_destination C.depots) ≡ 0) ⊎ ((x : ℕ) × Memᴰ x (filterb C.is_destination C.depots) × (max_of (ecc C) (filterb C.is_destination C.depots) ≡ ecc C x))
          → (greatest_ecc C ≡ 0) ⊎ ((u v : ℕ) × (C.is_destination u ≡ true) × (C.is_destination v ≡ true) × (C.distance u v ≡ greatest_ecc C))
      go (inl z) = inl z
      go (inr x) = inner x.0 (filter_out C.is_destination C.depots x.1).1 x.2 (ecc_at C metric x.0)

  pub greatest_le : (c : ℕ) → ((v : ℕ) → C.is_destination v ≡ true → ecc C v ≤ c) → greatest_ecc C ≤ c
  unfolding greatest_ecc destinations
  greatest_le c h = max_le_of (ecc C) (filterb C.is_destination C.depots) c (λ x m. h x (filter_out C.is_destination C.depots m).1)

  pub greatest_pair : (u v : ℕ) → C.is_destination u ≡ true → C.is_destination v ≡ true → C.distance u v ≤ greatest_ecc C
  greatest_pair u v tu tv = le_trans (ecc_ge C metric u v tv) (greatest_ge u tu)

  -- the greatest distance is one
  pub right_is_greatest : (c : ℕ) (P : Pairs) → IsRight C c P → c ≡ greatest_ecc C
  right_is_greatest c P R = le_antisymm (go R.attained) (greatest_le c (λ v t. ecc_le C metric v c (λ w tw m. R.upper v w t tw)))
    where
      go : (c ≡ 0) ⊎ ((u v : ℕ) × (C.is_destination u ≡ true) × (C.is_destination v ≡ true) × (C.distance u v ≡ c)) → c ≤ greatest_ecc C
      go (inl z) = omega arith
      go (inr x) = subst (λ (n : ℕ). n ≤ greatest_ecc C) x.4 (greatest_pair x.0 x.1 x.2 x.3)

  -- right figures lie below D, if no distance is above D and no pair is at D
  pub right_below : (c D : ℕ) (P : Pairs) → IsRight C c P → 0 < D
      → ((u v : ℕ) → C.is_destination u ≡ true → C.is_destination v ≡ true → C.distance u v ≤ D) → ((u v : ℕ) → IsFar C D u v → ⊥) → c < D
  right_below c D P R positive most none-far = go (dec_lt c D) R.attained
    where
      apart : (u v : ℕ) → C.is_destination u ≡ true → C.is_destination v ≡ true → C.distance u v ≡ D → Dec (u < v) → Dec (v < u) → ⊥
      apart u v tu tv f (yes b) o = none-far u v record { before = b; first = tu; second = tv; far = f }
      apart u v tu tv f (no n) (yes b) =
          none-far v u record { before = b; first = tv; second = tu; far = metric.symmetric v u (metric.inside v tv) (metric.inside u tu) ∙ f }
      apart u v tu tv f (no n) (no o) =
          let e : v ≡ u = le_antisymm (omega arith) (omega arith) in
          let z : C.distance u u ≡ 0 = metric.self u (metric.inside u tu) in
          let k : C.distance u v ≡ C.distance u u = ap (C.distance u) e in
          lt_irrefl 0 (omega arith)

      go : Dec (c < D) → (c ≡ 0) ⊎ ((u v : ℕ) × (C.is_destination u ≡ true) × (C.is_destination v ≡ true) × (C.distance u v ≡ c)) → c < D
      go (yes p) t = p
      go (no p) (inl z) = omega arith
      go (no p) (inr x) =
          let f : C.distance x.0 x.1 ≡ c = x.4 in
          let k : C.distance x.0 x.1 ≤ D = most x.0 x.1 x.2 x.3 in
          absurd (apart x.0 x.1 x.2 x.3 (omega arith) (dec_lt x.0 x.1) (dec_lt x.1 x.0))

  -- what the rounds leave is right
  pub settled : (S : State) → Invariant C metric (greatest_ecc C) S → waiting_count C metric S ≡ 0 → IsRight C S.candidate S.pairs
  settled S I z =
      let ge : (v : ℕ) → C.is_destination v ≡ true → ecc C v ≤ S.candidate = final_ge C metric (greatest_ecc C) greatest_ge greatest_small S I z in
      let b : S.candidate ≤ greatest_ecc C = I.bounded in
      let e : greatest_ecc C ≡ S.candidate = le_antisymm (greatest_le S.candidate ge) b in
      record {
        upper = λ u v tu tv. let p : C.distance u v ≤ ecc C u = ecc_ge C metric u v tv in let q : ecc C u ≤ S.candidate = ge u tu in omega arith;
        attained = subst (λ (c : ℕ). (c ≡ 0) ⊎ ((u v : ℕ) × (C.is_destination u ≡ true) × (C.is_destination v ≡ true) × (C.distance u v ≡ c))) e greatest_at;
        is_far = λ u v h. let p = I.is_pair u v h in record { before = ltb-true u v p.before; first = p.first; second = p.second; far = p.far };
        is_pair = λ u v p. final_pair C metric (greatest_ecc C) greatest_ge greatest_small S I z u v p.before p.first p.second p.far (far_positive S.candidate u v p);
      }

  -- THE WHOLE RECKONING IS RIGHT
  pub reckon_right : IsRight C (reckon C).candidate (reckon C).pairs
  unfolding reckon waiting_count
  reckon_right =
      let S = start 0 in
      let r = rounds_right C metric (greatest_ecc C) greatest_ge greatest_small (length C.depots) S (start_fine C metric (greatest_ecc C) greatest_ge greatest_small 0 zero-le) (count_le_length (λ v. is_waiting (S.status v)) C.depots) in
      settled (rounds C (length C.depots) S) r.0 r.1
