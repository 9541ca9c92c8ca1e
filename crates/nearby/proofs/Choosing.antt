-- The first of a list that passes, and a loop that goes through a list of codes and keeps the nearest. Assumes nothing.
use mathlib.Core.Path.{◌≡◌, refl, sym, ap, ◌∙◌, subst}
use mathlib.Core.Logic.{◌⊎◌, inl, inr}
use mathlib.Core.Bool.{Bool, true, false, cond, ◌&&◌, ◌||◌}
use mathlib.Core.List.{List, [], ◌∷◌, Memᴰ, map}
use Prim.Native.Nat.{ℕ, ◌+◌, ◌≤◌, ◌<◌}
use native.Mathlib.Omega.{arith}
use lib.Dec.{eqb, ltb}
use lib.ListN.{length, get_or, drop}
use borrow.Author.Tests.{lt-ltb, le-ltb, eq-eqb, ne_eqb}
use Rattle.std.proofs.lemmas.Bool.{cases_Bool}
use Rattle.lists.specs.Lists.{filterb}
use Rattle.lists.proofs.Scans.{filter-took, filter-passed, filter-done}
use Rattle.graph.specs.Nearby.{nearer_of, nearest_from, nearest_of}
use Rattle.std.specs.Prelude.{Option}
use Rattle.std.specs.List.{find}
use Rattle.std.specs.Option.{option_map}
use Rattle.std.proofs.lemmas.List.{map-id}
use Rattle.std.proofs.lemmas.Iterator.Adapters.{option_map_id}
use Rattle.nearby.specs.Steps.{FirstListed}

-- ---- the first of a list that passes

found_is : (p : ℕ → Bool) (l : List ℕ) → FirstListed (filterb p l) (find p l)
unfolding filterb
found_is p [] = refl
found_is p (v ∷ vs) = go (cases_Bool (p v)) (found_is p vs)
  where
    go : (p v ≡ true) ⊎ (p v ≡ false) → FirstListed (filterb p vs) (find p vs) → FirstListed (filterb p (v ∷ vs)) (find p (v ∷ vs))
    go (inl t) h = rw t (filterb p vs, refl)
    go (inr f) h = rw f h

pub first_found : (p : ℕ → Bool) (l : List ℕ) (r : Option ℕ) → option_map (λ x. x) r ≡ find p (map (λ x. x) l) → FirstListed (filterb p l) r
first_found p l r e = subst (FirstListed (filterb p l)) (sym (sym (option_map_id r) ∙ e ∙ ap (find p) (map-id l))) (found_is p l)

-- ---- of two codes

module _ (h : ℕ → ℕ) (c v : ℕ) where
  pub nearer_near : h v < h c → v ≡ nearer_of h c v
  unfolding nearer_of
  nearer_near l = rw (lt-ltb (h v) (h c) l)

  pub nearer_far : h c < h v → c ≡ nearer_of h c v
  unfolding nearer_of
  nearer_far l = rw (le-ltb (h v) (h c) (omega arith), ne_eqb (h v) (h c) (λ e. omega arith))

  pub nearer_low : h c ≤ h v → h v ≤ h c → v < c → v ≡ nearer_of h c v
  unfolding nearer_of
  nearer_low a b l = rw (le-ltb (h v) (h c) a, eq-eqb (h v) (h c) (omega arith), lt-ltb v c l)

  pub nearer_high : h c ≤ h v → h v ≤ h c → c ≤ v → c ≡ nearer_of h c v
  unfolding nearer_of
  nearer_high a b l = rw (le-ltb (h v) (h c) a, eq-eqb (h v) (h c) (omega arith), le-ltb v c l)

  -- it is one of the two
  pub nearer_below : (n : ℕ) → c < n → v < n → nearer_of h c v < n
  unfolding nearer_of
  nearer_below n a b = go (ltb (h v) (h c) || (eqb (h v) (h c) && ltb v c))
    where
      go : (t : Bool) → cond t v c < n
      go true = b
      go false = a

-- what the check is told of two codes
pub ruleset nearer_two = (nearer_near, nearer_far, nearer_low, nearer_high)

-- with itself
pub nearer_self : (h : ℕ → ℕ) (c : ℕ) → nearer_of h c c ≡ c
nearer_self h c = sym (nearer_high h c c (omega arith) (omega arith) (omega arith))

-- ---- of a list: what is found so far with what is left gives what the whole gives

module _ (h : ℕ → ℕ) (p : ℕ → Bool) (s : List ℕ) (first : ℕ) where
  -- the loop's invariant, at place i with `found` so far
  pub record IsChoosing (found i : ℕ) : Type 0 where
    pub within : i ≤ length s
    pub same : nearest_from h first (filterb p s) ≡ nearest_from h found (filterb p (drop i s))

  module _ {found i : ℕ} (w : IsChoosing found i) where
    -- one code more: it counts where it passes
    pub choosing_took : {next : ℕ} → i < length s → p (get_or s i 0) ≡ true → next ≡ nearer_of h found (get_or s i 0) → IsChoosing next (i + 1)
    unfolding nearest_from
    choosing_took l t e = rw e (record { within = omega arith; same = w.same ∙ ap (nearest_from h found) (filter-took p s i 0 l t) })

    pub choosing_passed : {next : ℕ} → i < length s → p (get_or s i 0) ≡ false → next ≡ found → IsChoosing next (i + 1)
    choosing_passed l f e = rw e (record { within = omega arith; same = w.same ∙ ap (nearest_from h found) (filter-passed p s i 0 l f) })

    pub choosing_all : length s ≤ i → found ≡ nearest_from h first (filterb p s)
    unfolding nearest_from
    choosing_all l = sym (w.same ∙ ap (nearest_from h found) (filter-done p s i l))

-- and of the loop
pub ruleset choosing = (nearer_below, choosing_took, choosing_passed, choosing_all)

-- ---- by another measure that is the same on what is listed

module _ (h g : ℕ → ℕ) where
  nearer_ext : (c v : ℕ) → h c ≡ g c → h v ≡ g v → (nearer_of h c v ≡ nearer_of g c v) × (h (nearer_of g c v) ≡ g (nearer_of g c v))
  unfolding nearer_of
  nearer_ext c v p q = (rw (p, q), go (ltb (g v) (g c) || (eqb (g v) (g c) && ltb v c)))
    where
      go : (t : Bool) → h (cond t v c) ≡ g (cond t v c)
      go true = q
      go false = p

  nearest_ext : (c : ℕ) (vs : List ℕ) → h c ≡ g c → ((w : ℕ) → Memᴰ w vs → h w ≡ g w) → nearest_from h c vs ≡ nearest_from g c vs
  unfolding nearest_from
  nearest_ext c [] p q = refl
  nearest_ext c (v ∷ vs) p q =
      let r = nearer_ext c v p (q v (Memᴰ.head refl)) in
      ap (λ (b : ℕ). nearest_from h b vs) r.0 ∙ nearest_ext (nearer_of g c v) vs r.1 (λ w m. q w (Memᴰ.tail m))

-- the first of a list with the whole list
pub nearest_whole : (h g : ℕ → ℕ) (l : List ℕ) (first : ℕ) (rest : List ℕ) → l ≡ first ∷ rest → ((w : ℕ) → Memᴰ w l → h w ≡ g w) → nearest_from h first l ≡ nearest_of g l
unfolding nearest_of nearest_from
nearest_whole h g l first rest e same =
    ap (nearest_from h first) e
    ∙ ap (λ (b : ℕ). nearest_from h b rest) (nearer_self h first)
    ∙ nearest_ext h g first rest (same first (subst (Memᴰ first) (sym e) (Memᴰ.head refl)))
    (λ w m. same w (subst (Memᴰ w) (sym e) (Memᴰ.tail m)))
    ∙ ap (nearest_of g) (sym e)
