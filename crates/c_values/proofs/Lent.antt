-- LENT TABLES ONE BY ONE: equal tables are the same lent tables, so that those of a struct are those that a call for C was lent. Assumes nothing.
use mathlib.Core.Path.{◌≡◌}
use mathlib.Core.List.{List}
use Prim.Native.Nat.{ℕ}
use Rattle.map.specs.Room.{tables, lent}

pub same_lent : (p h e o b s p' h' e' o' b' s' : List ℕ) → p' ≡ p → h' ≡ h → e' ≡ e → o' ≡ o → b' ≡ b → s' ≡ s
    → lent p' (tables h' e' o') b' s' ≡ lent p (tables h e o) b s
same_lent p h e o b s p' h' e' o' b' s' qp qh qe qo qb qs = rw (qp, qh, qe, qo, qb, qs)
