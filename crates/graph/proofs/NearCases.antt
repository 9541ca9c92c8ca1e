-- WHAT IS NEAR DEPOT 3 ON THE PATH OF SEVEN, in the published words, each case with the misreadings that it excludes; and that these words leave no
-- second answer. The cases rest on distances alone, not on `within_is` and `nearest_is`. Assumes nothing.
use mathlib.Core.Path.{◌≡◌, refl, sym, ap, subst}
use mathlib.Core.Logic.{◌⊎◌, inl, inr}
use mathlib.Core.Bool.{true, ◌||◌, not}
use mathlib.Core.List.Memᴰ
use mathlib.Core.List.{List, [], ◌∷◌, Memᴰ}
use Prim.Native.Nat.{ℕ, suc, ◌≤◌, ◌<◌}
use native.Mathlib.Nat.{le_antisymm}
use native.Mathlib.Omega.{arith}
use lib.Dec.{T, ltb, leb}
use lib.ListN.{length}
use borrow.Author.Tests.{leb-true, ltb-true}
use Rattle.std.proofs.lemmas.Bool.{or_cases}
use Rattle.std.specs.Prelude.{get_or}
use Rattle.lists.specs.Lists.{range, allb, memb}
use Rattle.lists.proofs.Tests.{t→true, true→t, same_test}
use Rattle.lists.proofs.Members.{all_elim, memb_in, in_memb, range_in}
use Rattle.lists.proofs.Rising.{rises_unique}
use Rattle.graph.specs.Network.{Network, IsDist}
use Rattle.graph.specs.Distance.{dist}
use Rattle.graph.specs.Correct.{IsNet}
use Rattle.graph.specs.Nearby.{IsRising, AreWithin, IsNearest}
use Rattle.graph.specs.Cases.{path}
use Rattle.graph.proofs.Walks.{dist_unique}
use Rattle.graph.proofs.Distances.{vertices_in}
use Rattle.graph.proofs.Connected.{hop_open}
use Rattle.graph.proofs.Paths.{path_net, open_by}
use Rattle.graph.proofs.Rising.{rising_codes}

net : IsNet (path 7)
net = path_net 7 (omega arith)

-- the distances from 3 are those computed
far : (v : ℕ) → T ((path 7).is_open v) → IsDist (path 7) 3 v (dist (path 7) 3 v)
far = hop_open (path 7) net 3 (open_by 7 3 (omega arith))

-- ---- WITHIN 2 HANDOVERS. Wrong: below 2, or at most 3; without 3 itself; falling; 3 alone

abbrev listed : List ℕ
listed = 1 ∷ 2 ∷ 3 ∷ 4 ∷ 5 ∷ []

pub within_two : AreWithin (path 7) 3 2 listed
unfolding path dist allb memb
within_two = record { listed = λ v. (there v, back v); rising = rising; alone = λ z. absurd (omega arith) }
  where
    there : (v : ℕ) → Memᴰ v listed → T ((path 7).is_open v) × ((d : ℕ) × IsDist (path 7) 3 v d × (d ≤ 2))
    there v m =
        let ov = open_by 7 v (ltb-true v 7 (all_elim (λ w. ltb w 7) listed refl m)) in
        (ov, (dist (path 7) 3 v, far v ov, leb-true (dist (path 7) 3 v) 2 (all_elim (λ w. leb (dist (path 7) 3 w) 2) listed refl m)))

    back : (v : ℕ) → T ((path 7).is_open v) × ((d : ℕ) × IsDist (path 7) 3 v d × (d ≤ 2)) → Memᴰ v listed
    back v h = go (or_cases (ltb 2 (dist (path 7) 3 v)) (memb v listed)
        (all_elim (λ w. ltb 2 (dist (path 7) 3 w) || memb w listed) (path 7).depots refl (vertices_in (path 7) net.sound v h.0)))
      where
        go : (ltb 2 (dist (path 7) 3 v) ≡ true) ⊎ (memb v listed ≡ true) → Memᴰ v listed
        go (inl e) = let q : dist (path 7) 3 v ≡ h.1.0 = dist_unique (far v h.0) h.1.1 in let l = ltb-true 2 (dist (path 7) 3 v) e in let m : h.1.0 ≤ 2 = h.1.2 in absurd (omega arith)
        go (inr e) = memb_in v listed e

    rising : IsRising listed
    rising i l =
        ltb-true (get_or listed i 0) (get_or listed (suc i) 0)
        (all_elim (λ j. ltb (get_or listed j 0) (get_or listed (suc j) 0)) (range 4) refl (range_in 4 (omega (arith, l))))

-- no other list is. Wrong: codes that may be left out or repeated, or stand in any order
pub within_only : (G : Network) (s k : ℕ) (codes others : List ℕ) → AreWithin G s k codes → AreWithin G s k others → codes ≡ others
within_only G s k codes others a b = rises_unique (λ c. c) codes others (rising_codes codes a.rising) (rising_codes others b.rising) same
  where
    same : (v : ℕ) → memb v codes ≡ memb v others
    same v =
        same_test (memb v codes) (memb v others) (λ m. in_memb v others ((b.listed v).1 ((a.listed v).0 (memb_in v codes m))))
        (λ m. in_memb v codes ((a.listed v).1 ((b.listed v).0 (memb_in v others m))))

-- ---- THE NEAREST OF 9, 5, 1, 0 AND 5, of which 9 is closed. Wrong: the higher code or the first listed on a tie; the lowest of all codes; the farthest

abbrev asked : List ℕ
asked = 9 ∷ 5 ∷ 1 ∷ 0 ∷ 5 ∷ []

pub nearest_two : IsNearest (path 7) 3 asked 1 2
unfolding path dist allb memb
nearest_two = record { is_listed = memb_in 1 asked refl; is_open = open_by 7 1 (omega arith); is_dist = far 1 (open_by 7 1 (omega arith)); nearest = near; lowest = low }
  where
    near : (w e : ℕ) → Memᴰ w asked → T ((path 7).is_open w) → IsDist (path 7) 3 w e → 2 ≤ e
    near w e m ow p = go (or_cases (not (ltb w 7)) (leb 2 (dist (path 7) 3 w)) (all_elim (λ x. not (ltb x 7) || leb 2 (dist (path 7) 3 x)) asked refl m))
      where
        go : (not (ltb w 7) ≡ true) ⊎ (leb 2 (dist (path 7) 3 w) ≡ true) → 2 ≤ e
        go (inl n) = absurd (subst T (ap not (t→true (ltb w 7) ow)) (true→t n))
        go (inr l) = let q : dist (path 7) 3 w ≡ e = dist_unique (far w ow) p in let k = leb-true 2 (dist (path 7) 3 w) l in omega arith

    low : (w : ℕ) → Memᴰ w asked → T ((path 7).is_open w) → IsDist (path 7) 3 w 2 → 1 ≤ w
    low w m ow p = go (or_cases (ltb 2 (dist (path 7) 3 w)) (leb 1 w) (all_elim (λ x. ltb 2 (dist (path 7) 3 x) || leb 1 x) asked refl m))
      where
        go : (ltb 2 (dist (path 7) 3 w) ≡ true) ⊎ (leb 1 w ≡ true) → 1 ≤ w
        go (inl l) = let q : dist (path 7) 3 w ≡ 2 = dist_unique (far w ow) p in let k = ltb-true 2 (dist (path 7) 3 w) l in absurd (omega arith)
        go (inr l) = leb-true 1 w l

-- no other code and distance are. Wrong: any of those at the least distance; a code that is not listed
pub nearest_only : (G : Network) (s : ℕ) (codes : List ℕ) (v d w e : ℕ) → IsNearest G s codes v d → IsNearest G s codes w e → (v ≡ w) × (d ≡ e)
nearest_only G s codes v d w e a b = (le_antisymm (a.lowest w b.is_listed b.is_open there) (b.lowest v a.is_listed a.is_open here), same)
  where
    same : d ≡ e
    same = le_antisymm (a.nearest w e b.is_listed b.is_open b.is_dist) (b.nearest v d a.is_listed a.is_open a.is_dist)

    there : IsDist G s w d
    there = subst (λ (n : ℕ). IsDist G s w n) (sym same) b.is_dist

    here : IsDist G s v e
    here = subst (λ (n : ℕ). IsDist G s v n) same a.is_dist
