-- A sound network is connected, or some open depot is not reached from its lowest open code. Assumes nothing.
use mathlib.Core.Path.{◌≡◌, refl, sym, subst}
use mathlib.Core.Logic.{◌⊎◌, inl, inr}
use mathlib.Core.Bool.{true, false}
use mathlib.Core.List.Memᴰ
use mathlib.Core.List.{List, [], ◌∷◌, Memᴰ}
use Prim.Native.Nat.{ℕ, ◌+◌, ◌≤◌, ◌<◌}
use native.Mathlib.Nat.{le_of_eq}
use native.Mathlib.Omega.{arith}
use lib.Dec.{T, ltb}
use lib.ListN.{length}
use borrow.Author.Tests.{ltb-true, lt-ltb}
use Rattle.std.proofs.lemmas.Bool.{cases_Bool, cases_lt}
use Rattle.lists.proofs.Tests.{clash}
use Rattle.lists.proofs.Members.{all-fails}
use Rattle.graph.specs.Network.{Network, IsSound, Walk}
use Rattle.graph.specs.Distance.{vertices, unreached, dist, reached_all, connected}
use Rattle.graph.proofs.Walks.{append, reverse}
use Rattle.graph.proofs.Distances.{vertices_in, vertices_out, dist_is, dist-reached, dist_below}
use Rattle.graph.proofs.Connected.{connected_iff}
use Rattle.graph.specs.Refusals.{IsApart}

-- a list that is not empty has a least number
least_of : (r : ℕ) (vs : List ℕ) → (m : ℕ) × Memᴰ m (r ∷ vs) × ((u : ℕ) → Memᴰ u (r ∷ vs) → m ≤ u)
least_of r [] = (r, Memᴰ.head refl, λ u n. go u (Memᴰ.cases_cons n))
  where
    go : (u : ℕ) → (u ≡ r) ⊎ Memᴰ u [] → r ≤ u
    go u (inl e) = le_of_eq (sym e)
    go u (inr n) = absurd (Memᴰ.not-nil n)
least_of r (y ∷ ys) = go (least_of y ys)
  where
    go : (m : ℕ) × Memᴰ m (y ∷ ys) × ((u : ℕ) → Memᴰ u (y ∷ ys) → m ≤ u)
        → (m : ℕ) × Memᴰ m (r ∷ y ∷ ys) × ((u : ℕ) → Memᴰ u (r ∷ y ∷ ys) → m ≤ u)
    go x = lower (cases_lt r x.0)
      where
        lower : (r < x.0) ⊎ (x.0 ≤ r) → (m : ℕ) × Memᴰ m (r ∷ y ∷ ys) × ((u : ℕ) → Memᴰ u (r ∷ y ∷ ys) → m ≤ u)
        lower (inl l) = (r, Memᴰ.head refl, λ u n. at u (Memᴰ.cases_cons n))
          where
            at : (u : ℕ) → (u ≡ r) ⊎ Memᴰ u (y ∷ ys) → r ≤ u
            at u (inl e) = le_of_eq (sym e)
            at u (inr n) = omega (arith, x.2 u n, l)
        lower (inr g) = (x.0, Memᴰ.tail x.1, λ u n. at u (Memᴰ.cases_cons n))
          where
            at : (u : ℕ) → (u ≡ r) ⊎ Memᴰ u (y ∷ ys) → x.0 ≤ u
            at u (inl e) = omega (arith, e, g)
            at u (inr n) = x.2 u n

module _ (G : Network) (sound : IsSound G) (small : length (vertices G) < unreached) where
  -- what the search does not reach no walk reaches
  no_walk_lem : (r v : ℕ) → T (G.is_open r) → ltb (dist G r v) unreached ≡ false → (k : ℕ) → Walk G k r v → ⊥
  no_walk_lem r v o e k w =
      let d : dist G r v < length (vertices G) = dist_below G sound small r o (dist G r v) v (dist_is G sound small r o k v w) in
      clash (lt-ltb (dist G r v) unreached (omega (arith, d, small))) e

  -- two depots that no walk joins: the lowest lies apart from one of them
  apart_from : (m : ℕ) → T (G.is_open m) → ((u : ℕ) → T (G.is_open u) → m ≤ u) → (r v : ℕ) → T (G.is_open r) → T (G.is_open v)
      → ((k : ℕ) → Walk G k r v → ⊥) → IsApart G
  apart_from m om least r v or ov none = go (cases_Bool (ltb (dist G m r) unreached))
    where
      go : (ltb (dist G m r) unreached ≡ true) ⊎ (ltb (dist G m r) unreached ≡ false) → IsApart G
      go (inr e) = record { lowest = m; is_open = om; is_lowest = least; depot = r; is_depot = or; no_walk = no_walk_lem m r om e }
      go (inl t) =
          let w = (dist-reached G sound small m om r (ltb-true (dist G m r) unreached t)).walk in
          record { lowest = m; is_open = om; is_lowest = least; depot = v; is_depot = ov; no_walk = λ k x. none (dist G m r + k) (append (reverse sound w) x) }

  pub apart_of : connected G ≡ false → IsApart G
  unfolding connected reached_all
  apart_of h = go (vertices G) refl h
    where
      go : (vs : List ℕ) → vertices G ≡ vs → reached_all G vs ≡ false → IsApart G
      go [] q e = absurd (clash refl e)
      go (r ∷ vs) q e =
          let x = all-fails (λ v. ltb (dist G r v) unreached) vs e in
          let low = least_of r vs in
          let o = out r (Memᴰ.head refl) in
          apart_from low.0 (out low.0 low.1) (λ u ou. low.2 u (into u ou)) r x.0 o (out x.0 (Memᴰ.tail x.1)) (no_walk_lem r x.0 o x.2)
        where
          out : (v : ℕ) → Memᴰ v (r ∷ vs) → T (G.is_open v)
          out v m = vertices_out G sound (subst (λ (l : List ℕ). Memᴰ v l) (sym q) m)

          into : (v : ℕ) → T (G.is_open v) → Memᴰ v (r ∷ vs)
          into v o = subst (λ (l : List ℕ). Memᴰ v l) q (vertices_in G sound v o)

  pub apart_not : connected G ≡ true → IsApart G → ⊥
  apart_not c a = let w = (connected_iff G sound small).0 c a.lowest a.depot a.is_open a.is_depot in a.no_walk w.0 w.1
