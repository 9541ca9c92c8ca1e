-- What a step makes of next and the other row, and what it leaves. Assumes nothing.
use mathlib.Core.Path.{◌≡◌, refl, sym, ap, ap₂, ◌∙◌, subst}
use mathlib.Core.Logic.{◌≢◌, ◌⊎◌, inl, inr}
use mathlib.Core.Bool.{Bool, true, false, cond, not, ◌&&◌, and-false}
use mathlib.Core.List.{List}
use Prim.Native.Nat.{ℕ, ◌*◌, ◌%◌, ◌≤◌, ◌<◌}
use lib.Dec.{eqb}
use lib.ListN.{length, get_or}
use borrow.Author.Tests.{eq-eqb, ne_eqb, not-true, not-false}
use Rattle.lists.specs.Lists.{range, mapl, anyb, overwrite}
use Rattle.std.proofs.lemmas.Bool.{cases_Bool}
use Rattle.lists.proofs.Tests.{clash}
use Rattle.lists.proofs.Members.{any_none, any_intro, any_ext, range_in, range_out}
use Rattle.rows.specs.Rows.{row_bit, encode_row}
use Rattle.rows.proofs.Written.{row_at}
use Rattle.rows.proofs.Wholes.{encode_row_ext}
use Rattle.frontier.specs.Steps.{hop_set, reaches, fresh, Visited, visited, visit_of, is_taken, Taken, taken, take_of, Stepped, stepped, step_of, left_after, row_of, turned, turn_of}

module _ (W : ℕ) (links layer left : List ℕ) (next₀ next₁ next₂ left' : List ℕ) (k : ℕ) (hops₀ hops₁ : List ℕ) (b : Bool)
    (visit : visited next₁ hops₁ ≡ visit_of W links layer k (visited next₀ hops₀))
    (take : taken b next₂ left' ≡ take_of W next₁ left) where
  hops_are : hops₁ ≡ overwrite (mapl (λ v. cond (row_bit W layer v) k (get_or hops₀ v 0)) (range (64 * W))) hops₀
  unfolding visit_of
  hops_are = ap (λ (x : Visited). x.hops) visit

  -- the codes of next that are left are the fresh ones
  new_is : (v : ℕ) → v < 64 * W → is_taken W next₁ left v ≡ fresh W links layer left v
  unfolding is_taken fresh visit_of
  new_is v l = ap (λ (b : Bool). b && row_bit W left v) (ap (λ (x : Visited). row_bit W x.next v) visit ∙ row_at W (reaches W links layer) next₀ v l)

  new_bit : (v : ℕ) → v < 64 * W → row_bit W next₂ v ≡ fresh W links layer left v
  unfolding take_of
  new_bit v l = ap (λ (x : Taken). row_bit W x.next v) take ∙ row_at W (is_taken W next₁ left) next₁ v l ∙ new_is v l

  more_is : anyb (fresh W links layer left) (range (64 * W)) ≡ b
  unfolding take_of
  more_is = sym (ap (λ (x : Taken). x.some) take ∙ any_ext (is_taken W next₁ left) (fresh W links layer left) (range (64 * W)) (λ v m. new_is v (range_out (64 * W) m)))

  -- no code is fresh
  pub step_none : (other : List ℕ) → not b ≡ true → stepped false hops₁ other ≡ step_of W links layer k hops₀ other left
  unfolding step_of
  step_none other q = rw (more_is ∙ not-true b q, hops_are)

  -- some code is
  pub step_more : (other other' : List ℕ) → not b ≡ false → other' ≡ overwrite (encode_row W (row_bit W next₂)) other
      → stepped true hops₁ other' ≡ step_of W links layer k hops₀ other left
  unfolding step_of
  step_more other other' q e = rw (more_is ∙ not-false b q, hops_are, is_other)
    where
      is_other : other' ≡ overwrite (encode_row W (fresh W links layer left)) other
      is_other = e ∙ ap (λ (r : List ℕ). overwrite r other) (encode_row_ext W (row_bit W next₂) (fresh W links layer left) new_bit)

  pub step_left : left' ≡ left_after W links layer left
  unfolding take_of left_after
  step_left =
      ap (λ (x : Taken). x.left) take
      ∙ ap (λ (r : List ℕ). overwrite r left)
      (encode_row_ext W (λ v. row_bit W left v && not (is_taken W next₁ left v)) (λ v. row_bit W left v && not (fresh W links layer left v))
      (λ v l. ap (λ (b : Bool). row_bit W left v && not b) (new_is v l)))

-- no code is left, so that the layer is the last one
pub step_last : (W : ℕ) (links layer left : List ℕ) (k : ℕ) (hops₀ hops₁ other : List ℕ) → not (anyb (row_bit W left) (range (64 * W))) ≡ true
    → hops₁ ≡ hop_set W k (row_bit W layer) hops₀ → stepped false hops₁ other ≡ step_of W links layer k hops₀ other left
unfolding step_of hop_set fresh
step_last W links layer left k hops₀ hops₁ other z e = rw (none, e)
  where
    bare : (v : ℕ) → v < 64 * W → row_bit W left v ≡ false
    bare v l = go (cases_Bool (row_bit W left v))
      where
        go : (row_bit W left v ≡ true) ⊎ (row_bit W left v ≡ false) → row_bit W left v ≡ false
        go (inl e) = absurd (clash (any_intro (row_bit W left) (range (64 * W)) (range_in (64 * W) l) e) (not-true _ z))
        go (inr e) = e

    none : anyb (fresh W links layer left) (range (64 * W)) ≡ false
    none = any_none (fresh W links layer left) (range (64 * W)) (λ v m. ap (λ (b : Bool). reaches W links layer v && b) (bare v (range_out (64 * W) m)) ∙ and-false (reaches W links layer v))

-- ---- by turns

module _ (k : ℕ) (even odd : List ℕ) where
  pub row_even : k % 2 ≡ 0 → row_of k even odd ≡ even
  unfolding row_of
  row_even p = rw (eq-eqb (k % 2) 0 p)

  pub row_odd : k % 2 ≢ 0 → row_of k even odd ≡ odd
  unfolding row_of
  row_odd p = rw (ne_eqb (k % 2) 0 p)

  pub row_long : (n : ℕ) (layer : List ℕ) → layer ≡ row_of k even odd → n ≤ length even → n ≤ length odd → n ≤ length layer
  unfolding row_of
  row_long n layer q e o = subst (λ (l : List ℕ). n ≤ length l) (sym q) (go (eqb (k % 2) 0))
    where
      go : (b : Bool) → n ≤ length (cond b even odd)
      go true = e
      go false = o

-- what is left after a layer in the even row, and in the odd one
module _ (W : ℕ) (links : List ℕ) (k : ℕ) (even odd left left' : List ℕ) (b : Bool) where
  pub left_even : k % 2 ≡ 0 → (b ≡ true → left' ≡ left_after W links even left) → b ≡ true → left' ≡ left_after W links (row_of k even odd) left
  left_even p h e = h e ∙ ap (λ (l : List ℕ). left_after W links l left) (sym (row_even k even odd p))

  pub left_odd : k % 2 ≢ 0 → (b ≡ true → left' ≡ left_after W links odd left) → b ≡ true → left' ≡ left_after W links (row_of k even odd) left
  left_odd p h e = h e ∙ ap (λ (l : List ℕ). left_after W links l left) (sym (row_odd k even odd p))

module _ (W : ℕ) (links : List ℕ) (k : ℕ) (hops even odd left hops' : List ℕ) (b : Bool) where
  -- into the odd row
  pub turn_even : (odd' : List ℕ) → k % 2 ≡ 0 → stepped b hops' odd' ≡ step_of W links even k hops odd left
      → turned b hops' even odd' ≡ turn_of W links k hops even odd left
  unfolding turn_of row_of
  turn_even odd' p e = rw (eq-eqb (k % 2) 0 p) (ap (λ (S : Stepped). turned S.more S.hops even S.other) e)

  -- into the even row
  pub turn_odd : (even' : List ℕ) → k % 2 ≢ 0 → stepped b hops' even' ≡ step_of W links odd k hops even left
      → turned b hops' even' odd ≡ turn_of W links k hops even odd left
  unfolding turn_of row_of
  turn_odd even' p e = rw (ne_eqb (k % 2) 0 p) (ap (λ (S : Stepped). turned S.more S.hops S.other odd) e)

  -- into neither
  pub turn_stays : stepped b hops' (row_of k odd even) ≡ step_of W links (row_of k even odd) k hops (row_of k odd even) left
      → turned b hops' even odd ≡ turn_of W links k hops even odd left
  unfolding turn_of row_of
  turn_stays e =
      ap₂ (turned b hops') (first (eqb (k % 2) 0)) (second (eqb (k % 2) 0))
      ∙ ap (λ (S : Stepped). turned S.more S.hops (row_of k even S.other) (row_of k S.other odd)) e
    where
      first : (c : Bool) → even ≡ cond c even (cond c odd even)
      first true = refl
      first false = refl

      second : (c : Bool) → odd ≡ cond c (cond c odd even) odd
      second true = refl
      second false = refl
