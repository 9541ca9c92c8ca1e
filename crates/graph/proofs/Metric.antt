-- A chart as a finite metric space, and its eccentricities. Assumes nothing.
use mathlib.Core.Path.{◌≡◌, sym}
use mathlib.Core.Logic.{◌⊎◌, inl, inr}
use mathlib.Core.Bool.{true}
use mathlib.Core.List.{Memᴰ}
use Prim.Native.Nat.{ℕ, ◌+◌, ◌≤◌, ◌<◌}
use native.Mathlib.Omega.{arith}
use Rattle.lists.specs.Lists.{filterb, max_of}
use Rattle.lists.proofs.Members.{filter_in, filter_out}
use Rattle.lists.proofs.Counts.{max_ge, max_le_of, max_at}
use Rattle.graph.specs.Distance.{unreached}
use Rattle.graph.specs.Chart.{Chart, destinations, ecc}

pub record IsMetric (C : Chart) : Type 0 where
  pub inside : (v : ℕ) → C.is_destination v ≡ true → Memᴰ v C.depots
  pub symmetric : (u v : ℕ) → Memᴰ u C.depots → Memᴰ v C.depots → C.distance u v ≡ C.distance v u
  pub triangle : (u v w : ℕ) → Memᴰ u C.depots → Memᴰ v C.depots → Memᴰ w C.depots → C.distance u w ≤ C.distance u v + C.distance v w
  pub small : (u v : ℕ) → Memᴰ u C.depots → Memᴰ v C.depots → C.distance u v < unreached
  pub self : (u : ℕ) → Memᴰ u C.depots → C.distance u u ≡ 0
  pub apart : (u v : ℕ) → Memᴰ u C.depots → Memᴰ v C.depots → C.distance u v ≡ 0 → u ≡ v

module _ (C : Chart) (metric : IsMetric C) where
  -- ---- eccentricities

  pub ecc_ge : (u v : ℕ) → C.is_destination v ≡ true → C.distance u v ≤ ecc C u
  unfolding ecc destinations
  ecc_ge u v t = max_ge (C.distance u) (filterb C.is_destination C.depots) (filter_in C.is_destination C.depots (metric.inside v t) t)

  pub ecc_le : (u b : ℕ) → ((v : ℕ) → C.is_destination v ≡ true → Memᴰ v C.depots → C.distance u v ≤ b) → ecc C u ≤ b
  unfolding ecc destinations
  ecc_le u b h =
      max_le_of (C.distance u) (filterb C.is_destination C.depots) b
      (λ x m. let r = filter_out C.is_destination C.depots m in h x r.1 r.0)

  -- a search from r bounds the eccentricity of v
  pub ecc_bound : (r v : ℕ) → Memᴰ r C.depots → Memᴰ v C.depots → ecc C v ≤ ecc C r + C.distance r v
  ecc_bound r v mr mv =
      ecc_le v (ecc C r + C.distance r v)
      (λ t ht mt.
      let a : C.distance v t ≤ C.distance v r + C.distance r t = metric.triangle v r t mv mr mt in
      let b : C.distance r t ≤ ecc C r = ecc_ge r t ht in
      let e : C.distance v r ≡ C.distance r v = metric.symmetric v r mv mr in
      omega arith)

  pub ecc_small : (v : ℕ) → Memᴰ v C.depots → ecc C v < unreached
  ecc_small v m = let h : ecc C v ≤ 65534 = ecc_le v 65534 (λ t ht mt. let l : C.distance v t < unreached = metric.small v t m mt in omega arith) in omega arith

  -- a destination's eccentricity is attained
  pub ecc_at : (u : ℕ) → (ecc C u ≡ 0) ⊎ ((v : ℕ) × (C.is_destination v ≡ true) × (C.distance u v ≡ ecc C u))
  unfolding ecc destinations
  ecc_at u = go (max_at (C.distance u) (filterb C.is_destination C.depots))
    where
      go : (max_of (C.distance u) (filterb C.is_destination C.depots) ≡ 0) ⊎ ((x : ℕ) × Memᴰ x (filterb C.is_destination C.depots) × (max_of (C.distance u) (filterb C.is_destination C.depots) ≡ C.distance u x))
          → (ecc C u ≡ 0) ⊎ ((v : ℕ) × (C.is_destination v ≡ true) × (C.distance u v ≡ ecc C u))
      go (inl z) = inl z
      go (inr x) = inr (x.0, (filter_out C.is_destination C.depots x.1).1, sym x.2)
