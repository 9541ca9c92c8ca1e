-- Opening a depot: the network stays sound and connected, and its chart is the old one with the depot inserted. Assumes nothing.
use mathlib.Core.Path.{◌≡◌, refl, sym, ap, ◌∙◌, subst}
use mathlib.Core.Logic.{◌⊎◌, inl, inr}
use mathlib.Core.Bool.{Bool, true, false, not, ◌&&◌, ◌||◌}
use mathlib.Core.List.Memᴰ
use mathlib.Core.List.{List, [], ◌∷◌, Memᴰ}
use Prim.Native.Nat.{ℕ, suc, ◌+◌, ◌<◌, min}
use native.Mathlib.Omega.{arith}
use lib.Dec.{T, eqb, ltb}
use lib.ListN.{length}
use borrow.Author.Tests.{lt-ltb, eqb-true, eq-eqb, not-false}
use Rattle.std.proofs.lemmas.Bool.{and_parts, and_from, or_cases, or_left, or_right}
use Rattle.lists.specs.Lists.{allb, memb, distinct, first_of}
use Rattle.lists.proofs.Tests.{t→true, true→t, false→not, clash, not→false}
use Rattle.lists.proofs.Members.{first_zero, all_elim, memb_in, in_memb}
use Rattle.lists.proofs.Distinct.{insert_memb, insert_distinct, insert_length}
use Rattle.graph.specs.Network.{Network, IsSound, Walk, stay, delivers}
use Rattle.graph.specs.Distance.{vertices, unreached}
use Rattle.graph.specs.Chart.{chart}
use Rattle.graph.specs.Opening.{Notice, add_depot, strictly_rising, is_empty, notice_faults, open_faults}
use Rattle.graph.specs.Correct.{IsNet}
use Rattle.graph.proofs.Walks.{snoc, append, reverse, dist-sym}
use Rattle.graph.proofs.Distances.{vertices_in}
use Rattle.graph.proofs.Insertion.{walk_old, insertion, opened_grown}
use Rattle.graph.proofs.OpeningCases.{IsInserted}
use Rattle.graph.proofs.Charts.{depot_in, chart-dist, chart-only}
use Rattle.graph.proofs.Delivers.{delivers_open, delivers-not, delivers_of}

-- an opening that no refusal hits, with room for one more: the code is closed, the neighbours are open, and there is one unless the map is empty
pub record IsAdmitted (G : Network) (a : ℕ) (beside : ℕ → Bool) : Type 0 where
  pub room : suc (length (vertices G)) < unreached
  pub fresh : G.is_open a ≡ false
  pub known : (v : ℕ) → beside v ≡ true → T (G.is_open v)
  pub joined : (v : ℕ) → T (G.is_open v) → (w : ℕ) × (beside w ≡ true)

-- the four tests of an opening, none of which is true
open_tests : (G : Network) (o : Notice) → first_of (open_faults G o) ≡ 0
    → (G.is_open o.code ≡ false) × ((is_empty o.neighbours && ltb 0 (length (vertices G))) ≡ false) × (allb G.is_open o.neighbours ≡ true)
unfolding open_faults notice_faults
open_tests G o ok =
    let f5 = first_zero (G.is_open o.code) 4 _ ok in
    let f6 = first_zero (is_empty o.neighbours && ltb 0 (length (vertices G))) 5 _ f5.1 in
    let f7 = first_zero (not (strictly_rising o.neighbours)) 6 _ f6.1 in
    let f8 = first_zero (not (allb G.is_open o.neighbours)) 7 [] f7.1 in
    (f5.0, f6.0, not-false (allb G.is_open o.neighbours) f8.0)

-- its neighbours are open
pub known_of : (G : Network) (o : Notice) → first_of (open_faults G o) ≡ 0 → (v : ℕ) → memb v o.neighbours ≡ true → T (G.is_open v)
known_of G o ok v m = true→t (all_elim G.is_open o.neighbours (open_tests G o ok).2 (memb_in v o.neighbours m))

-- where a depot is open, it has a neighbour
pub joined_of : (G : Network) → IsSound G → (o : Notice) → first_of (open_faults G o) ≡ 0 → (v : ℕ) → T (G.is_open v) → (w : ℕ) × (memb w o.neighbours ≡ true)
unfolding is_empty
joined_of G sound o ok v p = some o.neighbours (vertices G) (vertices_in G sound v p) (open_tests G o ok).1
  where
    some : (xs vs : List ℕ) {v : ℕ} → Memᴰ v vs → (is_empty xs && ltb 0 (length vs)) ≡ false → (w : ℕ) × (memb w xs ≡ true)
    some [] [] m e = absurd (Memᴰ.not-nil m)
    some [] (y ∷ ys) m e = absurd (clash (lt-ltb 0 (suc (length ys)) (omega arith)) e)
    some (x ∷ xs) vs m e = (x, in_memb x (x ∷ xs) (Memᴰ.head refl))

pub admitted_of : (G : Network) (net : IsNet G) (o : Notice) → suc (length (vertices G)) < unreached → first_of (open_faults G o) ≡ 0
    → IsAdmitted G o.code (λ v. memb v o.neighbours)
admitted_of G net o room ok = record { room = room; fresh = (open_tests G o ok).0; known = known_of G o ok; joined = joined_of G net.sound o ok }

module _ (key : ℕ → ℕ) (G : Network) (net : IsNet G) (y : Bool) (a : ℕ) (beside : ℕ → Bool) (good : IsAdmitted G a beside) where
  abbrev H : Network
  H = add_depot key G y a beside

  new_listed : (v : ℕ) → H.is_open v ≡ memb v (vertices H)
  unfolding add_depot
  new_listed v = ap (λ (b : Bool). eqb v a || b) (net.sound.listed v) ∙ sym (insert_memb key a (vertices G) v)

  new_once : distinct (vertices H) ≡ true
  unfolding add_depot
  new_once = insert_distinct key a (vertices G) (sym (net.sound.listed a) ∙ good.fresh) net.sound.once

  not_a : (v : ℕ) → T (G.is_open v) → v ≡ a → ⊥
  not_a v o q = false→not good.fresh (subst (λ (w : ℕ). T (G.is_open w)) q o)

  open_old : (v : ℕ) → T (G.is_open v) → T (H.is_open v)
  unfolding add_depot
  open_old v o = true→t (or_right (eqb v a) _ (t→true (G.is_open v) o))

  open_new : T (H.is_open a)
  unfolding add_depot
  open_new = true→t (or_left _ (G.is_open a) (eq-eqb a a refl))

  open_cases : (v : ℕ) → T (H.is_open v) → (v ≡ a) ⊎ T (G.is_open v)
  unfolding add_depot
  open_cases v o = go (or_cases (eqb v a) (G.is_open v) (t→true (eqb v a || G.is_open v) o))
    where
      go : (eqb v a ≡ true) ⊎ (G.is_open v ≡ true) → (v ≡ a) ⊎ T (G.is_open v)
      go (inl h) = inl (eqb-true v a h)
      go (inr h) = inr (true→t h)

  -- a yard is the new depot, or an old one
  yard_cases : (v : ℕ) → T (H.is_yard v) → ((y ≡ true) × (v ≡ a)) ⊎ T (G.is_yard v)
  unfolding add_depot
  yard_cases v t = go (or_cases (y && eqb v a) (G.is_yard v) (t→true ((y && eqb v a) || G.is_yard v) t))
    where
      go : ((y && eqb v a) ≡ true) ⊎ (G.is_yard v ≡ true) → ((y ≡ true) × (v ≡ a)) ⊎ T (G.is_yard v)
      go (inl h) = let k = and_parts y (eqb v a) h in inl (k.0, eqb-true v a k.1)
      go (inr h) = inr (true→t h)

  yard_old : (v : ℕ) → T (G.is_yard v) → T (H.is_yard v)
  unfolding add_depot
  yard_old v t = true→t (or_right (y && eqb v a) _ (t→true (G.is_yard v) t))

  link_cases : (u v : ℕ) → T (H.linked u v) → ((u ≡ a) × (beside v ≡ true)) ⊎ (((v ≡ a) × (beside u ≡ true)) ⊎ T (G.linked u v))
  unfolding add_depot
  link_cases u v l = go (or_cases ((eqb u a && beside v) || (eqb v a && beside u)) (G.linked u v) (t→true ((eqb u a && beside v) || (eqb v a && beside u) || G.linked u v) l))
    where
      inner : ((eqb u a && beside v) ≡ true) ⊎ ((eqb v a && beside u) ≡ true) → ((u ≡ a) × (beside v ≡ true)) ⊎ (((v ≡ a) × (beside u ≡ true)) ⊎ T (G.linked u v))
      inner (inl h) = let k = and_parts (eqb u a) (beside v) h in inl (eqb-true u a k.0, k.1)
      inner (inr h) = let k = and_parts (eqb v a) (beside u) h in inr (inl (eqb-true v a k.0, k.1))

      go : (((eqb u a && beside v) || (eqb v a && beside u)) ≡ true) ⊎ (G.linked u v ≡ true) → ((u ≡ a) × (beside v ≡ true)) ⊎ (((v ≡ a) × (beside u ≡ true)) ⊎ T (G.linked u v))
      go (inl h) = inner (or_cases (eqb u a && beside v) (eqb v a && beside u) h)
      go (inr h) = inr (inr (true→t h))

  link_from : (u v : ℕ) → u ≡ a → beside v ≡ true → T (H.linked u v)
  unfolding add_depot
  link_from u v q m = true→t (or_left _ (G.linked u v) (or_left _ (eqb v a && beside u) (and_from _ _ (eq-eqb u a q) m)))

  link_to : (u v : ℕ) → v ≡ a → beside u ≡ true → T (H.linked u v)
  unfolding add_depot
  link_to u v q m = true→t (or_left _ (G.linked u v) (or_right (eqb u a && beside v) _ (and_from _ _ (eq-eqb v a q) m)))

  link_kept : (u v : ℕ) → T (G.linked u v) → T (H.linked u v)
  unfolding add_depot
  link_kept u v l = true→t (or_right ((eqb u a && beside v) || (eqb v a && beside u)) _ (t→true (G.linked u v) l))

  pub opened_sound : IsSound H
  opened_sound = record {
    listed = new_listed;
    once = new_once;
    yards = λ v t. yard v (yard_cases v t);
    ends = λ u v l. end u v (link_cases u v l);
    loopless = λ u v l. loop u v (link_cases u v l);
    symmetric = λ u v l. turn u v (link_cases u v l);
  }
    where
      yard : (v : ℕ) → ((y ≡ true) × (v ≡ a)) ⊎ T (G.is_yard v) → T (H.is_open v)
      yard v (inl x) = subst (λ (w : ℕ). T (H.is_open w)) (sym x.1) open_new
      yard v (inr t) = open_old v (net.sound.yards v t)

      end : (u v : ℕ) → ((u ≡ a) × (beside v ≡ true)) ⊎ (((v ≡ a) × (beside u ≡ true)) ⊎ T (G.linked u v)) → T (H.is_open v)
      end u v (inl x) = open_old v (good.known v x.1)
      end u v (inr (inl x)) = subst (λ (w : ℕ). T (H.is_open w)) (sym x.0) open_new
      end u v (inr (inr l)) = open_old v (net.sound.ends u v l)

      loop : (u v : ℕ) → ((u ≡ a) × (beside v ≡ true)) ⊎ (((v ≡ a) × (beside u ≡ true)) ⊎ T (G.linked u v)) → u ≡ v → ⊥
      loop u v (inl x) q = not_a v (good.known v x.1) (sym q ∙ x.0)
      loop u v (inr (inl x)) q = not_a u (good.known u x.1) (q ∙ x.0)
      loop u v (inr (inr l)) q = net.sound.loopless u v l q

      turn : (u v : ℕ) → ((u ≡ a) × (beside v ≡ true)) ⊎ (((v ≡ a) × (beside u ≡ true)) ⊎ T (G.linked u v)) → T (H.linked v u)
      turn u v (inl x) = link_to v u x.0 x.1
      turn u v (inr (inl x)) = link_from v u x.0 x.1
      turn u v (inr (inr l)) = link_kept v u (net.sound.symmetric u v l)

  -- a walk from any depot to a
  to_a : (v : ℕ) → (v ≡ a) ⊎ T (G.is_open v) → (k : ℕ) × Walk H k v a
  to_a v (inl q) = (0, subst (λ (w : ℕ). Walk H 0 v w) q stay)
  to_a v (inr o) =
      let w = good.joined v o in
      let p = net.connected v w.0 o (good.known w.0 w.1) in
      (suc p.0, snoc (walk_old G H a (opened_grown key G y a beside) p.1) (link_to w.0 a refl w.1))

  opened_few : length (vertices H) < unreached
  unfolding add_depot
  opened_few = rw (insert_length key a (vertices G)) good.room

  pub opened_net : IsNet H
  opened_net = record { sound = opened_sound; connected = λ u v ou ov. join u v (to_a u (open_cases u ou)) (to_a v (open_cases v ov)); small = opened_few }
    where
      join : (u v : ℕ) → (k : ℕ) × Walk H k u a → (k : ℕ) × Walk H k v a → (k : ℕ) × Walk H k u v
      join u v p q = (p.0 + q.0, append p.1 (reverse opened_sound q.1))

  -- an old destination stays one; the new depot is one unless it is a yard, and nothing else is
  pub delivers_old : (v : ℕ) → T (delivers G v) → T (delivers H v)
  delivers_old v t = delivers_of H v (open_old v old) (not→false (H.is_yard v) (λ k. go (yard_cases v k)))
    where
      old : T (G.is_open v)
      old = delivers_open G v t

      go : ((y ≡ true) × (v ≡ a)) ⊎ T (G.is_yard v) → ⊥
      go (inl x) = not_a v old x.1
      go (inr k) = false→not (delivers-not G v t) k

  delivers_back : (v : ℕ) → T (delivers H v) → (v ≡ a) ⊎ T (delivers G v)
  delivers_back v t = go (open_cases v (delivers_open H v t))
    where
      go : (v ≡ a) ⊎ T (G.is_open v) → (v ≡ a) ⊎ T (delivers G v)
      go (inl q) = inl q
      go (inr o) = inr (delivers_of G v o (not→false (G.is_yard v) (λ k. false→not (delivers-not H v t) (yard_old v k))))

  pub delivers_new : delivers H a ≡ not y
  unfolding delivers add_depot
  delivers_new = rw (eq-eqb a a refl, not→false (G.is_yard a) (λ k. not_a a (net.sound.yards a k) refl)) (go y)
    where
      go : (b : Bool) → not ((b && true) || false) ≡ not b
      go true = refl
      go false = refl

  -- the chart after is the chart before with a inserted
  pub inserted : IsInserted (chart G) (chart H) a
  unfolding chart
  inserted = record {
    inside = depot_in H opened_net a open_new;
    fresh = not→false (delivers G a) (λ t. not_a a (delivers_open G a t) refl);
    old = λ v t. t→true (delivers H v) (delivers_old v (true→t t));
    back = λ v t. back v (delivers_back v (true→t t));
    through = λ u v tu tv. thru u v (delivers_open G u (true→t tu)) (delivers_open G v (true→t tv));
  }
    where
      back : (v : ℕ) → (v ≡ a) ⊎ T (delivers G v) → (v ≡ a) ⊎ (delivers G v ≡ true)
      back v (inl q) = inl q
      back v (inr t) = inr (t→true (delivers G v) t)

      thru : (u v : ℕ) → T (G.is_open u) → T (G.is_open v) → (chart H).distance u v ≡ min ((chart G).distance u v) ((chart H).distance a u + (chart H).distance a v)
      thru u v ou ov =
          chart-only H opened_net u v (min ((chart G).distance u v) ((chart H).distance a u + (chart H).distance a v)) (open_old u ou) (open_old v ov)
          (insertion G H a (opened_grown key G y a beside) (not_a u ou) (chart-dist G net u v ou ov) (dist-sym opened_sound (chart-dist H opened_net a u open_new (open_old u ou))) (chart-dist H opened_net a v open_new (open_old v ov)))
