-- Walks and distances: appending, turning round, uniqueness, symmetry, the triangle inequality. Assumes nothing.
use mathlib.Core.Path.{◌≡◌, refl, sym, subst}
use Prim.Native.Nat.{ℕ, zero, suc, ◌+◌, ◌≤◌}
use native.Mathlib.Nat.{zero-add, suc-add, le_antisymm}
use native.Mathlib.Omega.{arith}
use lib.Dec.{T}
use Rattle.graph.specs.Network.{Network, IsSound, Walk, stay, step, IsDist}

module _ {G : Network} where
  pub cast : {j k u v : ℕ} → j ≡ k → Walk G j u v → Walk G k u v
  cast {u = u} {v = v} e p = subst (λ (n : ℕ). Walk G n u v) e p

  -- one link more at the end
  pub snoc : {k u v w : ℕ} → Walk G k u v → T (G.linked v w) → Walk G (suc k) u w
  snoc stay l = step l stay
  snoc (step m p) l = step m (snoc p l)

  pub append : {j k u v w : ℕ} → Walk G j u v → Walk G k v w → Walk G (j + k) u w
  append {k = k} stay q = cast (sym (zero-add k)) q
  append {k = k} (step {k = j} l p) q = cast (sym (suc-add j k)) (step l (append p q))

  -- a walk of no link stays; a walk's last link
  pub walk_zero : {u v : ℕ} → Walk G 0 u v → u ≡ v
  walk_zero stay = refl

  pub unsnoc : {k u w : ℕ} → Walk G (suc k) u w → (v : ℕ) × Walk G k u v × T (G.linked v w)
  unsnoc {k = zero} (step {u = u} l stay) = (u, stay, l)
  unsnoc {k = suc k} (step l p) = let r = unsnoc p in (r.0, step l r.1, r.2)

  pub dist_unique : {u v d e : ℕ} → IsDist G u v d → IsDist G u v e → d ≡ e
  dist_unique {d = d} {e = e} p q = le_antisymm (p.least e q.walk) (q.least d p.walk)

  pub dist_triangle : {u v w a b c : ℕ} → IsDist G u v a → IsDist G v w b → IsDist G u w c → c ≤ a + b
  dist_triangle {a = a} {b = b} p q r = r.least (a + b) (append p.walk q.walk)

  pub dist_self : {u : ℕ} → IsDist G u u 0
  dist_self = record { walk = stay; least = λ k p. omega arith }

  -- one link back from a depot at distance k + 1 there is one at distance k
  pub dist_before : {k u w : ℕ} → IsDist G u w (suc k) → (v : ℕ) × IsDist G u v k × T (G.linked v w)
  dist_before {k} {u} {w} p =
      let r = unsnoc p.walk in
      (r.0, record { walk = r.1; least = λ j q. let h : suc k ≤ suc j = p.least (suc j) (snoc q r.2) in omega arith }, r.2)

module _ {G : Network} (sound : IsSound G) where
  pub reverse : {k u v : ℕ} → Walk G k u v → Walk G k v u
  reverse stay = stay
  reverse (step {u = u} {v = v} l p) = snoc (reverse p) (sound.symmetric u v l)

  pub dist-sym : {u v d : ℕ} → IsDist G u v d → IsDist G v u d
  dist-sym p = record { walk = reverse p.walk; least = λ k q. p.least k (reverse q) }

  -- a walk from an open depot ends at one
  pub walk_open : {k u v : ℕ} → T (G.is_open u) → Walk G k u v → T (G.is_open v)
  walk_open o stay = o
  walk_open o (step {u = u} {v = v} l p) = walk_open (sound.ends u v l) p
