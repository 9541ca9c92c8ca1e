-- A link added later: the network stays sound and connected, and each new distance is the least of the old one and the ways through both ends.
-- Assumes nothing.
use mathlib.Core.Path.{◌≡◌, refl, sym, ◌∙◌, subst}
use mathlib.Core.Logic.{◌⊎◌, inl, inr}
use mathlib.Core.Bool.{true, ◌&&◌, ◌||◌}
use Prim.Native.Nat.{ℕ, ◌≤◌, ◌<◌, max, min}
use native.Mathlib.Nat.{min-eq_left, min-eq_right, max-eq_left, max-eq_right}
use native.Mathlib.Decide.{dec_le}
use native.Mathlib.Omega.{arith}
use lib.Dec.{T, eqb}
use lib.ListN.{length}
use borrow.Author.Tests.{eqb-true, eq-eqb, eqb-false, not-false}
use Rattle.std.proofs.lemmas.Bool.{and_parts, and_from, or_cases, or_left, or_right}
use Rattle.lists.specs.Lists.{memb, distinct, first_of}
use Rattle.lists.proofs.Tests.{t→true, true→t}
use Rattle.lists.proofs.Members.{first_zero}
use Rattle.graph.specs.Network.{Network, IsSound, IsDist, delivers}
use Rattle.graph.specs.Distance.{vertices, unreached}
use Rattle.graph.specs.Chart.{chart}
use Rattle.graph.specs.Linking.{add_link, link_faults, via_either}
use Rattle.graph.specs.Opening.{via}
use Rattle.graph.specs.Correct.{IsNet}
use Rattle.graph.proofs.Walks.{dist-sym}
use Rattle.graph.proofs.Insertion.{IsGrownAt, walk_old, insertion_both}
use Rattle.graph.proofs.LinkingCases.{IsJoined}
use Rattle.graph.proofs.Charts.{depot_in, chart-dist, chart-only}
use Rattle.graph.proofs.Delivers.{delivers_open}

-- a link that no refusal hits joins two different open depots
pub record IsLinkable (G : Network) (a b : ℕ) : Type 0 where
  pub first : T (G.is_open a)
  pub second : T (G.is_open b)
  pub apart : a ≡ b → ⊥

pub linkable_of : (G : Network) (a b : ℕ) → first_of (link_faults G a b) ≡ 0 → IsLinkable G a b
unfolding link_faults
linkable_of G a b ok =
    let f4 = first_zero _ 3 _ ok in
    let f13 = first_zero _ 12 _ f4.1 in
    let both = and_parts (G.is_open a) (G.is_open b) (not-false (G.is_open a && G.is_open b) f4.0) in
    record { first = true→t both.0; second = true→t both.1; apart = eqb-false a b f13.0 }

-- ---- the links after it: the further ones are at a alone, and at b alone

module _ (G : Network) (a b : ℕ) where
  -- a link there is the new one, the new one turned, or an old one
  pub either_link : (u v : ℕ) → T ((add_link G a b).linked u v) → ((u ≡ a) × (v ≡ b)) ⊎ (((u ≡ b) × (v ≡ a)) ⊎ T (G.linked u v))
  unfolding add_link
  either_link u v l =
      go (or_cases ((eqb u a && eqb v b) || (eqb v a && eqb u b)) (G.linked u v)
      (t→true ((eqb u a && eqb v b) || (eqb v a && eqb u b) || G.linked u v) l))
    where
      inner : ((eqb u a && eqb v b) ≡ true) ⊎ ((eqb v a && eqb u b) ≡ true) → ((u ≡ a) × (v ≡ b)) ⊎ (((u ≡ b) × (v ≡ a)) ⊎ T (G.linked u v))
      inner (inl h) = let k = and_parts (eqb u a) (eqb v b) h in inl (eqb-true u a k.0, eqb-true v b k.1)
      inner (inr h) = let k = and_parts (eqb v a) (eqb u b) h in inr (inl (eqb-true u b k.1, eqb-true v a k.0))

      go : (((eqb u a && eqb v b) || (eqb v a && eqb u b)) ≡ true) ⊎ (G.linked u v ≡ true)
          → ((u ≡ a) × (v ≡ b)) ⊎ (((u ≡ b) × (v ≡ a)) ⊎ T (G.linked u v))
      go (inl h) = inner (or_cases (eqb u a && eqb v b) (eqb v a && eqb u b) h)
      go (inr h) = inr (inr (true→t h))

  old_link : (u v : ℕ) → T (G.linked u v) → T ((add_link G a b).linked u v)
  unfolding add_link
  old_link u v l = true→t (or_right ((eqb u a && eqb v b) || (eqb v a && eqb u b)) _ (t→true (G.linked u v) l))

  pub grown_first : IsGrownAt G (add_link G a b) a
  grown_first = record { more = old_link; only = λ u v p q l. go u v p q (either_link u v l) }
    where
      go : (u v : ℕ) → (u ≡ a → ⊥) → (v ≡ a → ⊥) → ((u ≡ a) × (v ≡ b)) ⊎ (((u ≡ b) × (v ≡ a)) ⊎ T (G.linked u v)) → T (G.linked u v)
      go u v p q (inl x) = absurd (p x.0)
      go u v p q (inr (inl x)) = absurd (q x.1)
      go u v p q (inr (inr l)) = l

  pub grown_second : IsGrownAt G (add_link G a b) b
  grown_second = record { more = old_link; only = λ u v p q l. go u v p q (either_link u v l) }
    where
      go : (u v : ℕ) → (u ≡ b → ⊥) → (v ≡ b → ⊥) → ((u ≡ a) × (v ≡ b)) ⊎ (((u ≡ b) × (v ≡ a)) ⊎ T (G.linked u v)) → T (G.linked u v)
      go u v p q (inl x) = absurd (q x.1)
      go u v p q (inr (inl x)) = absurd (p x.0)
      go u v p q (inr (inr l)) = l

-- ---- the network after it

module _ (G : Network) (net : IsNet G) (a b : ℕ) (good : IsLinkable G a b) where
  abbrev H : Network
  H = add_link G a b

  -- the open depots are those of G, in their order, and so are the destinations
  same_listed : (v : ℕ) → H.is_open v ≡ memb v (vertices H)
  unfolding add_link
  same_listed = net.sound.listed

  same_once : distinct (vertices H) ≡ true
  unfolding add_link
  same_once = net.sound.once

  same_few : length (vertices H) < unreached
  unfolding add_link
  same_few = net.small

  open_old : (v : ℕ) → T (G.is_open v) → T (H.is_open v)
  unfolding add_link
  open_old v o = o

  open_back : (v : ℕ) → T (H.is_open v) → T (G.is_open v)
  unfolding add_link
  open_back v o = o

  same_yards : (v : ℕ) → T (H.is_yard v) → T (H.is_open v)
  unfolding add_link
  same_yards = net.sound.yards

  link_there : (u v : ℕ) → u ≡ a → v ≡ b → T (H.linked u v)
  unfolding add_link
  link_there u v p q = true→t (or_left _ (G.linked u v) (or_left _ (eqb v a && eqb u b) (and_from _ _ (eq-eqb u a p) (eq-eqb v b q))))

  link_back : (u v : ℕ) → u ≡ b → v ≡ a → T (H.linked u v)
  unfolding add_link
  link_back u v p q = true→t (or_left _ (G.linked u v) (or_right (eqb u a && eqb v b) _ (and_from _ _ (eq-eqb v a q) (eq-eqb u b p))))

  linked_sound : IsSound H
  linked_sound = record {
    listed = same_listed;
    once = same_once;
    yards = same_yards;
    ends = λ u v l. open_old v (end u v (either_link G a b u v l));
    loopless = λ u v l. loop u v (either_link G a b u v l);
    symmetric = λ u v l. turn u v (either_link G a b u v l);
  }
    where
      end : (u v : ℕ) → ((u ≡ a) × (v ≡ b)) ⊎ (((u ≡ b) × (v ≡ a)) ⊎ T (G.linked u v)) → T (G.is_open v)
      end u v (inl x) = subst (λ (w : ℕ). T (G.is_open w)) (sym x.1) good.second
      end u v (inr (inl x)) = subst (λ (w : ℕ). T (G.is_open w)) (sym x.1) good.first
      end u v (inr (inr l)) = net.sound.ends u v l

      loop : (u v : ℕ) → ((u ≡ a) × (v ≡ b)) ⊎ (((u ≡ b) × (v ≡ a)) ⊎ T (G.linked u v)) → u ≡ v → ⊥
      loop u v (inl x) q = good.apart (sym x.0 ∙ q ∙ x.1)
      loop u v (inr (inl x)) q = good.apart (sym x.1 ∙ sym q ∙ x.0)
      loop u v (inr (inr l)) q = net.sound.loopless u v l q

      turn : (u v : ℕ) → ((u ≡ a) × (v ≡ b)) ⊎ (((u ≡ b) × (v ≡ a)) ⊎ T (G.linked u v)) → T (H.linked v u)
      turn u v (inl x) = link_back v u x.1 x.0
      turn u v (inr (inl x)) = link_there v u x.1 x.0
      turn u v (inr (inr l)) = old_link G a b v u (net.sound.symmetric u v l)

  pub linkable_net : IsNet H
  linkable_net = record {
    sound = linked_sound;
    connected = λ u v ou ov. let p = net.connected u v (open_back u ou) (open_back v ov) in (p.0, walk_old G H a (grown_first G a b) p.1);
    small = same_few;
  }

  -- the distance of u and v, x and y being the ends in either order
  nearer : (x y : ℕ) → T (G.is_open x) → T (G.is_open y) → IsGrownAt G H x → IsGrownAt G H y → (u v : ℕ) → T (G.is_open u) → T (G.is_open v)
      → (chart H).distance u v ≡ min ((chart G).distance u v) (via_either (chart H) x y u v)
  unfolding via_either via
  nearer x y ox oy at_x at_y u v ou ov =
      chart-only H linkable_net u v (min ((chart G).distance u v) (via_either (chart H) x y u v)) (open_old u ou) (open_old v ov)
      (insertion_both G H x y at_x at_y (chart-dist G net u v ou ov) (to x ox) (from x ox) (to y oy) (from y oy))
    where
      from : (z : ℕ) (oz : T (G.is_open z)) → IsDist H z v ((chart H).distance z v)
      from z oz = chart-dist H linkable_net z v (open_old z oz) (open_old v ov)

      to : (z : ℕ) (oz : T (G.is_open z)) → IsDist H u z ((chart H).distance z u)
      to z oz = dist-sym linked_sound (chart-dist H linkable_net z u (open_old z oz) (open_old u ou))

  -- the chart after is the chart before with the link, whichever end comes first
  pub joined_at : (x y : ℕ) → T (G.is_open x) → T (G.is_open y) → (x ≡ y → ⊥) → IsGrownAt G H x → IsGrownAt G H y → IsJoined (chart G) (chart H) x y
  unfolding chart add_link delivers
  joined_at x y ox oy n at_x at_y = record {
    first = depot_in H linkable_net x ox;
    second = depot_in H linkable_net y oy;
    apart = n;
    same = λ v. refl;
    through = λ u v tu tv. nearer x y ox oy at_x at_y u v (delivers_open G u (true→t tu)) (delivers_open G v (true→t tv));
  }

  pub joined : IsJoined (chart G) (chart H) (min a b) (max a b)
  joined = go (dec_le a b)
    where
      go : Dec (a ≤ b) → IsJoined (chart G) (chart H) (min a b) (max a b)
      go (yes l) =
          subst (λ (x : ℕ). IsJoined (chart G) (chart H) x (max a b)) (sym (min-eq_left l))
          (subst (λ (y : ℕ). IsJoined (chart G) (chart H) a y) (sym (max-eq_right l))
          (joined_at a b good.first good.second good.apart (grown_first G a b) (grown_second G a b)))
      go (no l) =
          let k : b ≤ a = omega arith in
          subst (λ (x : ℕ). IsJoined (chart G) (chart H) x (max a b)) (sym (min-eq_right k))
          (subst (λ (y : ℕ). IsJoined (chart G) (chart H) b y) (sym (max-eq_left k))
          (joined_at b a good.second good.first (λ e. good.apart (sym e)) (grown_second G a b) (grown_first G a b)))
