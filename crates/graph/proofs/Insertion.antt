-- THE INSERTION LAW: with further links at a alone, the distance of two old depots is the lesser of the old one and the way through a. Assumes nothing.
use mathlib.Core.Path.{◌≡◌, sym, ap, ◌∙◌, subst}
use mathlib.Core.Logic.{◌⊎◌, inl, inr}
use mathlib.Core.Bool.{Bool, ◌&&◌, ◌||◌}
use Prim.Native.Nat.{ℕ, suc, ◌+◌, ◌≤◌, min}
use native.Mathlib.Nat.{suc-add, min-eq_left, min-eq_right}
use native.Mathlib.Decide.{dec_le, ℕ_discrete}
use native.Mathlib.Omega.{arith}
use lib.Dec.{T, eqb}
use borrow.Author.Tests.{ne_eqb}
use Rattle.std.proofs.lemmas.Bool.{or_right}
use Rattle.lists.proofs.Tests.{t→true, true→t}
use Rattle.graph.specs.Network.{Network, Walk, stay, step, IsDist}
use Rattle.graph.specs.Opening.{add_depot}
use Rattle.graph.proofs.Walks.{cast, append, dist_unique, dist_self}

-- G' has the links of G, and further links at a alone: an opening of a (below), and a later link of a to another open depot.
pub record IsGrownAt (G G' : Network) (a : ℕ) : Type 0 where
  pub more : (u v : ℕ) → T (G.linked u v) → T (G'.linked u v)
  pub only : (u v : ℕ) → (u ≡ a → ⊥) → (v ≡ a → ⊥) → T (G'.linked u v) → T (G.linked u v)

module _ (G G' : Network) (a : ℕ) (grown : IsGrownAt G G' a) where
  pub walk_old : {k u v : ℕ} → Walk G k u v → Walk G' k u v
  walk_old stay = stay
  walk_old (step {u = u} {v = v} l p) = step (grown.more u v l) (walk_old p)

  -- a walk of the new network goes through a, or is one of the old
  pub walk_split : {k u v : ℕ} → (u ≡ a → ⊥) → Walk G' k u v → Walk G k u v ⊎ ((i j : ℕ) × (i + j ≡ k) × Walk G' i u a × Walk G' j a v)
  walk_split p stay = inl stay
  walk_split {v = w} p (step {k = k} {u = u} {v = v} l q) = go (ℕ_discrete v a) (λ n. walk_split n q)
    where
      deeper : T (G.linked u v) → Walk G k v w ⊎ ((i j : ℕ) × (i + j ≡ k) × Walk G' i v a × Walk G' j a w)
          → Walk G (suc k) u w ⊎ ((i j : ℕ) × (i + j ≡ suc k) × Walk G' i u a × Walk G' j a w)
      deeper m (inl r) = inl (step m r)
      deeper m (inr r) = inr (suc r.0, r.1, suc-add r.0 r.1 ∙ ap suc r.2, step l r.3, r.4)

      go : Dec (v ≡ a) → ((v ≡ a → ⊥) → Walk G k v w ⊎ ((i j : ℕ) × (i + j ≡ k) × Walk G' i v a × Walk G' j a w))
          → Walk G (suc k) u w ⊎ ((i j : ℕ) × (i + j ≡ suc k) × Walk G' i u a × Walk G' j a w)
      go (yes e) ih = inr (1, k, omega arith, subst (λ (x : ℕ). Walk G' 1 u x) e (step l stay), subst (λ (x : ℕ). Walk G' k x w) e q)
      go (no n) ih = deeper (grown.only u v p n l) (ih n)

  -- d'(u,v) = min (d(u,v)) (d'(u,a) + d'(a,v))
  pub insertion : {u v d x y : ℕ} → (u ≡ a → ⊥) → IsDist G u v d → IsDist G' u a x → IsDist G' a v y → IsDist G' u v (min d (x + y))
  insertion {u} {v} {d} {x} {y} n p q r = record { walk = short (dec_le d (x + y)); least = λ k w. under k (walk_split n w) }
    where
      short : Dec (d ≤ x + y) → Walk G' (min d (x + y)) u v
      short (yes l) = cast (sym (min-eq_left l)) (walk_old p.walk)
      short (no l) = cast (sym (min-eq_right (omega arith))) (append q.walk r.walk)

      under : (k : ℕ) → Walk G k u v ⊎ ((i j : ℕ) × (i + j ≡ k) × Walk G' i u a × Walk G' j a v) → min d (x + y) ≤ k
      under k (inl w) = let m : d ≤ k = p.least k w in omega arith
      under k (inr w) =
          let m : x ≤ w.0 = q.least w.0 w.3 in
          let n : y ≤ w.1 = r.least w.1 w.4 in
          let e : w.0 + w.1 ≡ k = w.2 in
          omega arith

  -- the same from a itself: it holds wherever the walk starts
  pub insertion_anywhere : {u v d x y : ℕ} → IsDist G u v d → IsDist G' u a x → IsDist G' a v y → IsDist G' u v (min d (x + y))
  insertion_anywhere {u} {v} {d} {x} {y} p q r = go (ℕ_discrete u a)
    where
      go : Dec (u ≡ a) → IsDist G' u v (min d (x + y))
      go (yes e) =
          let z : x ≡ 0 = dist_unique q (subst (λ (w : ℕ). IsDist G' u w 0) e dist_self) in
          let s : IsDist G' u v y = subst (λ (w : ℕ). IsDist G' w v y) (sym e) r in
          let l : y ≤ d = s.least d (walk_old p.walk) in
          let m : y ≡ min d (x + y) = omega arith in
          subst (λ (k : ℕ). IsDist G' u v k) m s
      go (no n) = insertion n p q r

-- with further links that are both at a alone and at b alone, the ways through both are as good: d'(u,v) is the least of all three
module _ (G G' : Network) (a b : ℕ) (at_a : IsGrownAt G G' a) (at_b : IsGrownAt G G' b) where
  pub insertion_both : {u v d x y z w : ℕ} → IsDist G u v d → IsDist G' u a x → IsDist G' a v y → IsDist G' u b z → IsDist G' b v w
      → IsDist G' u v (min d (min (x + y) (z + w)))
  insertion_both {u} {v} {d} {x} {y} {z} {w} p q r s t =
      let one = insertion_anywhere G G' a at_a p q r in
      let e : min d (x + y) ≡ min d (z + w) = dist_unique one (insertion_anywhere G G' b at_b p s t) in
      let m : min d (x + y) ≡ min d (min (x + y) (z + w)) = omega arith in
      subst (λ (k : ℕ). IsDist G' u v k) m one

-- opening a depot
pub opened_grown : (key : ℕ → ℕ) (G : Network) (y : Bool) (a : ℕ) (beside : ℕ → Bool) → IsGrownAt G (add_depot key G y a beside) a
unfolding add_depot
opened_grown key G y a beside = record {
  more = λ u v l. true→t (or_right ((eqb u a && beside v) || (eqb v a && beside u)) _ (t→true (G.linked u v) l));
  only = λ u v p q l. rw (ne_eqb u a p, ne_eqb v a q) at l;
}
