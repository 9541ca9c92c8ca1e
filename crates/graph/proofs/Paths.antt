-- THE PATHS 0-1-..-(k - 1) are networks that a map can hold. Assumes nothing.
use mathlib.Core.Path.{◌≡◌, refl, sym}
use mathlib.Core.Logic.{◌⊎◌, inl, inr}
use mathlib.Core.Bool.{true, ◌&&◌, ◌||◌}
use Prim.Native.Nat.{ℕ, zero, suc, ◌+◌, ◌≤◌, ◌<◌}
use native.Mathlib.Nat.{lt_irrefl}
use native.Mathlib.Omega.{arith}
use lib.Dec.{T, eqb, ltb}
use lib.ListN.{length}
use borrow.Author.Tests.{ltb-true, lt-ltb, eqb-true, eq-eqb}
use Rattle.std.proofs.lemmas.Bool.{and_parts, and_from, or_cases, or_left, or_right}
use Rattle.lists.specs.Lists.{memb, distinct}
use Rattle.lists.proofs.Tests.{t→true, true→t}
use Rattle.lists.proofs.Members.{length-range}
use Rattle.lists.proofs.Distinct.{memb-range, distinct-range}
use Rattle.graph.specs.Network.{IsSound, Walk, stay, step}
use Rattle.graph.specs.Correct.{IsNet}
use Rattle.graph.specs.Cases.{path}
use Rattle.graph.proofs.Walks.{append, reverse}

-- ---- its links

pub linked_is : (k u v : ℕ) → T ((path k).linked u v) → (u < k) × (v < k) × ((suc u ≡ v) ⊎ (u ≡ suc v))
unfolding path
linked_is k u v h =
    let p = and_parts (ltb u k && ltb v k) (eqb (suc u) v || eqb u (suc v)) (t→true (ltb u k && ltb v k && (eqb (suc u) v || eqb u (suc v))) h) in
    let q = and_parts (ltb u k) (ltb v k) p.0 in
    (ltb-true u k q.0, ltb-true v k q.1, go (or_cases (eqb (suc u) v) (eqb u (suc v)) p.1))
  where
    go : (eqb (suc u) v ≡ true) ⊎ (eqb u (suc v) ≡ true) → (suc u ≡ v) ⊎ (u ≡ suc v)
    go (inl e) = inl (eqb-true (suc u) v e)
    go (inr e) = inr (eqb-true u (suc v) e)

pub linked_by_lem : (k u v : ℕ) → u < k → v < k → (suc u ≡ v) ⊎ (u ≡ suc v) → T ((path k).linked u v)
unfolding path
linked_by_lem k u v l m e = true→t (and_from _ _ (and_from _ _ (lt-ltb u k l) (lt-ltb v k m)) (go e))
  where
    go : (suc u ≡ v) ⊎ (u ≡ suc v) → (eqb (suc u) v || eqb u (suc v)) ≡ true
    go (inl e) = or_left _ (eqb u (suc v)) (eq-eqb (suc u) v e)
    go (inr e) = or_right (eqb (suc u) v) _ (eq-eqb u (suc v) e)

pub open_is : (k u : ℕ) → T ((path k).is_open u) → u < k
unfolding path
open_is k u o = ltb-true u k (t→true (ltb u k) o)

pub open_by : (k u : ℕ) → u < k → T ((path k).is_open u)
unfolding path
open_by k u l = true→t (lt-ltb u k l)

-- none of them is a yard
yardless : (k u : ℕ) → T ((path k).is_yard u) → ⊥
unfolding path
yardless k u y = y

-- its depots are 0 to k - 1
listed_is : (k u : ℕ) → (path k).is_open u ≡ memb u (path k).depots
unfolding path
listed_is k u = sym (memb-range k u)

once_is : (k : ℕ) → distinct (path k).depots ≡ true
unfolding path
once_is k = distinct-range k

number_is : (k : ℕ) → length (path k).depots ≡ k
unfolding path
number_is k = length-range k

-- ---- it is sound and connected

pub path_sound : (k : ℕ) → IsSound (path k)
path_sound k = record {
  listed = listed_is k;
  once = once_is k;
  yards = λ u y. absurd (yardless k u y);
  ends = λ u v h. open_by k v (linked_is k u v h).1;
  loopless = λ u v h q. differ u v q (linked_is k u v h).2;
  symmetric = λ u v h. let x = linked_is k u v h in linked_by_lem k v u x.1 x.0 (turn u v x.2);
}
  where
    differ : (u v : ℕ) → u ≡ v → (suc u ≡ v) ⊎ (u ≡ suc v) → ⊥
    differ u v q (inl e) = lt_irrefl u (omega arith)
    differ u v q (inr e) = lt_irrefl u (omega arith)

    turn : (u v : ℕ) → (suc u ≡ v) ⊎ (u ≡ suc v) → (suc v ≡ u) ⊎ (v ≡ suc u)
    turn u v (inl e) = inr (sym e)
    turn u v (inr e) = inl (sym e)

-- a walk down to depot 0
to_zero : (k u : ℕ) → u < k → Walk (path k) u u 0
to_zero k zero l = stay
to_zero k (suc u) l = step (linked_by_lem k (suc u) u l (omega arith) (inr refl)) (to_zero k u (omega arith))

pub path_net : (k : ℕ) → k ≤ 256 → IsNet (path k)
path_net k low = record {
  sound = path_sound k;
  connected = λ u v ou ov. (u + v, append (to_zero k u (open_is k u ou)) (reverse (path_sound k) (to_zero k v (open_is k v ov))));
  small = omega (arith, number_is k, low);
}
