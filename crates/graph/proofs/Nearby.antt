-- DEPOTS NEAR ONE, by the published words: what `within_list` lists, and what `nearest_listed` answers. Assumes nothing.
use mathlib.Core.Path.{◌≡◌, refl, sym, ap, ◌∙◌, subst}
use mathlib.Core.Logic.{◌⊎◌, inl, inr}
use mathlib.Core.Bool.{Bool, true, false, cond, ◌&&◌, ◌||◌}
use mathlib.Core.List.Memᴰ
use mathlib.Core.List.{List, [], ◌∷◌, Memᴰ}
use Prim.Native.Nat.{ℕ, ◌≤◌, ◌<◌}
use native.Mathlib.Nat.{lt_irrefl}
use native.Mathlib.Omega.{arith}
use lib.Dec.{T, eqb, ltb, leb}
use borrow.Author.Tests.{leb-true, le-leb, ltb-true, ltb-false, eqb-true, eq-eqb}
use Rattle.std.proofs.lemmas.Bool.{cases_Bool, or_cases, and_parts, or_left, or_right, and_from}
use Rattle.lists.specs.Lists.{filterb, anyb}
use Rattle.lists.proofs.Tests.{clash, t→true, true→t}
use Rattle.lists.proofs.Members.{any_elim, filter_in, filter_out}
use Rattle.graph.specs.Network.{Network, IsDist, Walk}
use Rattle.graph.specs.Distance.{vertices, dist}
use Rattle.graph.specs.Correct.{IsNet}
use Rattle.graph.specs.Nearby.{within_list, IsRising, AreWithin, nearer_of, nearest_from, nearest_of, nearest_listed, IsNearest}
use Rattle.graph.proofs.Walks.{walk_zero, dist_unique, dist_self}
use Rattle.graph.proofs.Distances.{vertices_in, vertices_out}
use Rattle.graph.proofs.Connected.{hop_open}
use Rattle.graph.proofs.Rising.{filter_rising, rising_one}

-- ---- THE DEPOTS WITHIN k LINKS

module _ (G : Network) (net : IsNet G) (s : ℕ) (o : T (G.is_open s)) (k : ℕ) where
  within_there : (v : ℕ) → Memᴰ v (within_list G s k) → T (G.is_open v) × ((d : ℕ) × IsDist G s v d × (d ≤ k))
  unfolding within_list
  within_there v m =
      let r = filter_out (λ v. leb (dist G s v) k) (vertices G) m in
      let ov = vertices_out G net.sound r.0 in
      (ov, (dist G s v, hop_open G net s o v ov, leb-true (dist G s v) k r.1))

  within_back : (v : ℕ) → T (G.is_open v) × ((d : ℕ) × IsDist G s v d × (d ≤ k)) → Memᴰ v (within_list G s k)
  unfolding within_list
  within_back v h =
      let e : dist G s v ≡ h.1.0 = dist_unique (hop_open G net s o v h.0) h.1.1 in
      let l : h.1.0 ≤ k = h.1.2 in
      filter_in (λ v. leb (dist G s v) k) (vertices G) (vertices_in G net.sound v h.0) (le-leb (dist G s v) k (omega arith))

  pub within_is : IsRising (vertices G) → AreWithin G s k (within_list G s k)
  unfolding within_list
  within_is up = record {
    listed = λ v. (within_there v, within_back v);
    rising = rising;
    alone = λ z. rising_one s (within_list G s k) rising (within_back s (o, (0, dist_self, omega arith))) (λ v m. only v z (within_there v m));
  }
    where
      rising : IsRising (within_list G s k)
      rising = filter_rising (λ v. leb (dist G s v) k) (vertices G) up

      only : (v : ℕ) → k ≡ 0 → T (G.is_open v) × ((d : ℕ) × IsDist G s v d × (d ≤ k)) → v ≡ s
      only v z h =
          let l : h.1.0 ≤ k = h.1.2 in
          let e : h.1.0 ≡ 0 = omega arith in
          sym (walk_zero (subst (λ (d : ℕ). Walk G d s v) e h.1.1.walk))

-- ---- THE NEAREST OF A LIST

-- r is least in a list by h, then by code
record IsLeastBy (h : ℕ → ℕ) (xs : List ℕ) (r : ℕ) : Type 0 where
  member : Memᴰ r xs
  near : (w : ℕ) → Memᴰ w xs → h r ≤ h w
  low : (w : ℕ) → Memᴰ w xs → h r ≡ h w → r ≤ w

module _ (h : ℕ → ℕ) where
  -- which of two is taken, and what that says of the other
  nearer_cases : (c v : ℕ)
      → ((nearer_of h c v ≡ v) × (h v ≤ h c) × (h v ≡ h c → v ≤ c)) ⊎ ((nearer_of h c v ≡ c) × (h c ≤ h v) × (h c ≡ h v → c ≤ v))
  unfolding nearer_of
  nearer_cases c v = go (cases_Bool (ltb (h v) (h c) || (eqb (h v) (h c) && ltb v c)))
    where
      test : Bool
      test = ltb (h v) (h c) || (eqb (h v) (h c) && ltb v c)

      taken : (ltb (h v) (h c) ≡ true) ⊎ ((eqb (h v) (h c) && ltb v c) ≡ true) → (h v ≤ h c) × (h v ≡ h c → v ≤ c)
      taken (inl t) = let l : h v < h c = ltb-true (h v) (h c) t in (omega arith, λ e. absurd (lt_irrefl (h v) (omega arith)))
      taken (inr t) =
          let p = and_parts (eqb (h v) (h c)) (ltb v c) t in
          let e : h v ≡ h c = eqb-true (h v) (h c) p.0 in
          let l : v < c = ltb-true v c p.1 in
          (omega arith, λ q. omega arith)

      first : test ≡ false → ltb (h v) (h c) ≡ false
      first f = miss (cases_Bool (ltb (h v) (h c)))
        where
          miss : (ltb (h v) (h c) ≡ true) ⊎ (ltb (h v) (h c) ≡ false) → ltb (h v) (h c) ≡ false
          miss (inl t) = absurd (clash (or_left _ (eqb (h v) (h c) && ltb v c) t) f)
          miss (inr n) = n

      second : test ≡ false → h c ≡ h v → ltb v c ≡ false
      second f e = miss (cases_Bool (ltb v c))
        where
          miss : (ltb v c ≡ true) ⊎ (ltb v c ≡ false) → ltb v c ≡ false
          miss (inl t) = absurd (clash (or_right (ltb (h v) (h c)) _ (and_from _ _ (eq-eqb (h v) (h c) (sym e)) t)) f)
          miss (inr n) = n

      go : (test ≡ true) ⊎ (test ≡ false) → ((cond test v c ≡ v) × (h v ≤ h c) × (h v ≡ h c → v ≤ c)) ⊎ ((cond test v c ≡ c) × (h c ≤ h v) × (h c ≡ h v → c ≤ v))
      go (inl t) = let x = taken (or_cases (ltb (h v) (h c)) (eqb (h v) (h c) && ltb v c) t) in inl (rw t, x.0, x.1)
      go (inr f) = inr (rw f, ltb-false (h v) (h c) (first f), λ e. ltb-false v c (second f e))

  -- the head of a list exchanged for the nearer of it and one more
  least_more : (c v b r : ℕ) (vs : List ℕ) → Memᴰ b (c ∷ v ∷ []) → (h b ≤ h c) → (h b ≡ h c → b ≤ c) → (h b ≤ h v) → (h b ≡ h v → b ≤ v)
      → IsLeastBy h (b ∷ vs) r → IsLeastBy h (c ∷ v ∷ vs) r
  least_more c v b r vs m bc bc' bv bv' is = record {
    member = inside (Memᴰ.cases_cons is.member) (Memᴰ.cases_cons m);
    near = λ w n. near w (Memᴰ.cases_cons n);
    low = λ w n. low w (Memᴰ.cases_cons n);
  }
    where
      head : h r ≤ h b
      head = is.near b (Memᴰ.head refl)

      below : h r ≡ h b → r ≤ b
      below = is.low b (Memᴰ.head refl)

      inside : (r ≡ b) ⊎ Memᴰ r vs → (b ≡ c) ⊎ Memᴰ b (v ∷ []) → Memᴰ r (c ∷ v ∷ vs)
      inside (inl e) (inl f) = Memᴰ.head (e ∙ f)
      inside (inl e) (inr n) = Memᴰ.tail (Memᴰ.head (e ∙ one (Memᴰ.cases_cons n)))
        where
          one : (b ≡ v) ⊎ Memᴰ b [] → b ≡ v
          one (inl q) = q
          one (inr q) = absurd (Memᴰ.not-nil q)
      inside (inr n) f = Memᴰ.tail (Memᴰ.tail n)

      near : (w : ℕ) → (w ≡ c) ⊎ Memᴰ w (v ∷ vs) → h r ≤ h w
      near w (inl e) = let q : h w ≡ h c = ap h e in omega (arith, head)
      near w (inr n) = rest (Memᴰ.cases_cons n)
        where
          rest : (w ≡ v) ⊎ Memᴰ w vs → h r ≤ h w
          rest (inl e) = let q : h w ≡ h v = ap h e in omega (arith, head)
          rest (inr x) = is.near w (Memᴰ.tail x)

      low : (w : ℕ) → (w ≡ c) ⊎ Memᴰ w (v ∷ vs) → h r ≡ h w → r ≤ w
      low w (inl e) t =
          let q : h w ≡ h c = ap h e in
          let x : b ≤ c = bc' (omega (arith, head)) in
          let y : r ≤ b = below (omega (arith, head)) in
          omega arith
      low w (inr n) t = rest (Memᴰ.cases_cons n)
        where
          rest : (w ≡ v) ⊎ Memᴰ w vs → r ≤ w
          rest (inl e) =
              let q : h w ≡ h v = ap h e in
              let x : b ≤ v = bv' (omega (arith, head)) in
              let y : r ≤ b = below (omega (arith, head)) in
              omega arith
          rest (inr x) = is.low w (Memᴰ.tail x) t

  least_from : (c : ℕ) (vs : List ℕ) → IsLeastBy h (c ∷ vs) (nearest_from h c vs)
  unfolding nearest_from
  least_from c [] = record { member = Memᴰ.head refl; near = λ w m. near w (Memᴰ.cases_cons m); low = λ w m e. low w (Memᴰ.cases_cons m) }
    where
      near : (w : ℕ) → (w ≡ c) ⊎ Memᴰ w [] → h c ≤ h w
      near w (inl e) = let q : h w ≡ h c = ap h e in omega arith
      near w (inr m) = absurd (Memᴰ.not-nil m)

      low : (w : ℕ) → (w ≡ c) ⊎ Memᴰ w [] → c ≤ w
      low w (inl e) = omega arith
      low w (inr m) = absurd (Memᴰ.not-nil m)
  least_from c (v ∷ vs) = go (nearer_cases c v) (least_from (nearer_of h c v) vs)
    where
      b : ℕ
      b = nearer_of h c v

      go : ((b ≡ v) × (h v ≤ h c) × (h v ≡ h c → v ≤ c)) ⊎ ((b ≡ c) × (h c ≤ h v) × (h c ≡ h v → c ≤ v)) → IsLeastBy h (b ∷ vs) (nearest_from h b vs)
          → IsLeastBy h (c ∷ v ∷ vs) (nearest_from h b vs)
      go (inl x) is =
          let e : h b ≡ h v = ap h x.0 in
          let q : b ≡ v = x.0 in
          let l : h v ≤ h c = x.1 in
          least_more c v b (nearest_from h b vs) vs (Memᴰ.tail (Memᴰ.head x.0)) (omega arith)
          (λ t. let y : v ≤ c = x.2 (omega arith) in omega arith) (omega arith) (λ t. omega arith) is
      go (inr x) is =
          let e : h b ≡ h c = ap h x.0 in
          let q : b ≡ c = x.0 in
          let l : h c ≤ h v = x.1 in
          least_more c v b (nearest_from h b vs) vs (Memᴰ.head x.0) (omega arith) (λ t. omega arith) (omega arith)
          (λ t. let y : c ≤ v = x.2 (omega arith) in omega arith) is

  least_listed : (vs : List ℕ) {x : ℕ} → Memᴰ x vs → IsLeastBy h vs (nearest_of h vs)
  unfolding nearest_of
  least_listed [] m = absurd (Memᴰ.not-nil m)
  least_listed (v ∷ vs) m = least_from v vs

-- of a list in which some depot is open
pub nearest_is : (G : Network) → IsNet G → (s : ℕ) → T (G.is_open s) → (listed : List ℕ) → anyb G.is_open listed ≡ true
    → IsNearest G s listed (nearest_listed G s listed) (dist G s (nearest_listed G s listed))
unfolding nearest_listed
nearest_is G net s o listed some = record {
  is_listed = here.0;
  is_open = true→t here.1;
  is_dist = hop_open G net s o r (true→t here.1);
  nearest = λ w e m ow d. (let q : dist G s w ≡ e = dist_unique (hop_open G net s o w ow) d in omega (arith, is.near w (among w m ow)));
  lowest = λ w m ow d. is.low w (among w m ow) (dist_unique d (hop_open G net s o w ow));
}
  where
    depots : List ℕ
    depots = filterb G.is_open listed

    r : ℕ
    r = nearest_of (dist G s) depots

    among : (w : ℕ) → Memᴰ w listed → T (G.is_open w) → Memᴰ w depots
    among w m ow = filter_in G.is_open listed m (t→true (G.is_open w) ow)

    is : IsLeastBy (dist G s) depots r
    is = let x = any_elim G.is_open listed some in least_listed (dist G s) depots (filter_in G.is_open listed x.1 x.2)

    here : Memᴰ r listed × (G.is_open r ≡ true)
    here = filter_out G.is_open listed is.member
