-- Destinations: open depots that are no yards. Assumes nothing.
use mathlib.Core.Path.{◌≡◌, ap}
use mathlib.Core.Bool.{false, not}
use Prim.Native.Nat.{ℕ}
use lib.Dec.{T}
use borrow.Author.Tests.{not-true}
use Rattle.std.proofs.lemmas.Bool.{and_parts, and_from}
use Rattle.lists.proofs.Tests.{t→true, true→t}
use Rattle.graph.specs.Network.{Network, delivers}

module _ (G : Network) (v : ℕ) where
  -- The converse is not to be used: an open depot may be a yard.
  pub delivers_open : T (delivers G v) → T (G.is_open v)
  unfolding delivers
  delivers_open t = true→t (and_parts (G.is_open v) (not (G.is_yard v)) (t→true (delivers G v) t)).0

  pub delivers-not : T (delivers G v) → G.is_yard v ≡ false
  unfolding delivers
  delivers-not t = not-true (G.is_yard v) (and_parts (G.is_open v) (not (G.is_yard v)) (t→true (delivers G v) t)).1

  pub delivers_of : T (G.is_open v) → G.is_yard v ≡ false → T (delivers G v)
  unfolding delivers
  delivers_of o n = true→t (and_from _ _ (t→true (G.is_open v) o) (ap not n))
