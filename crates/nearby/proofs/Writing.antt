-- A loop that goes through the depots in rising code and writes those that pass a test over the first places of a buffer. Assumes nothing.
use mathlib.Core.Path.{◌≡◌, refl, sym, ap, ap₂, ◌∙◌}
use mathlib.Core.Logic.{◌⊎◌, inl, inr}
use mathlib.Core.Bool.{Bool, true, false}
use mathlib.Core.List.{List, [], ◌∷◌, ◌++◌}
use Prim.Native.Nat.{ℕ, ◌+◌, ◌≤◌, ◌<◌}
use native.Mathlib.Omega.{arith}
use lib.ListN.{length, set, length-append}
use Rattle.std.proofs.lemmas.Bool.{cases_Bool}
use Rattle.lists.specs.Lists.{filterb, overwrite}
use Rattle.lists.proofs.Members.{length-filter}
use Rattle.lists.proofs.Appends.{append_none}
use Rattle.lists.proofs.Copies.{overwrite_snoc}
use Rattle.nearby.specs.Steps.{CodesListed, codes_listed, list_more, list_over}

module _ (p : ℕ → Bool) where
  -- of two parts
  filter_parts : (xs ys : List ℕ) → filterb p (xs ++ ys) ≡ filterb p xs ++ filterb p ys
  unfolding filterb
  filter_parts [] ys = refl
  filter_parts (x ∷ xs) ys = go (cases_Bool (p x)) (filter_parts xs ys)
    where
      go : (p x ≡ true) ⊎ (p x ≡ false) → filterb p (xs ++ ys) ≡ filterb p xs ++ filterb p ys
          → filterb p (x ∷ xs ++ ys) ≡ filterb p (x ∷ xs) ++ filterb p ys
      go (inl t) ih = rw t (ap (λ (l : List ℕ). x ∷ l) ih)
      go (inr f) ih = rw f ih

  pub writing_none : (old : List ℕ) → codes_listed 0 old ≡ list_over (filterb p []) old
  unfolding list_over overwrite filterb
  writing_none old = refl

  module _ (xs old : List ℕ) {new : List ℕ} {count : ℕ} (is : codes_listed count new ≡ list_over (filterb p xs) old) where
    counted : count ≡ length (filterb p xs)
    unfolding list_over
    counted = ap (λ (c : CodesListed). c.count) is

    -- no depot is left
    pub writing_all : {all : List ℕ} → xs ++ [] ≡ all → codes_listed count new ≡ list_over (filterb p all) old
    writing_all e = is ∙ ap (λ (l : List ℕ). list_over (filterb p l) old) (sym (append_none xs) ∙ e)

    -- so many depots are there
    pub writing_few : (left : List ℕ) {all : List ℕ} → xs ++ left ≡ all → count ≤ length all
    writing_few left e = omega (arith, counted, length-filter p xs, ap length e, length-append xs left)

    -- there is a place for one more
    pub writing_room : (v : ℕ) (left : List ℕ) {all : List ℕ} → (xs ++ v ∷ []) ++ left ≡ all → count < length all
    writing_room v left e =
        omega (arith, counted, length-filter p xs, ap length e, length-append (xs ++ v ∷ []) left, length-append xs (v ∷ []))

    -- one depot more: written where it passes
    pub writing_more : (v : ℕ) {new' : List ℕ} {count' : ℕ} → count < length old → codes_listed count' new' ≡ list_more (p v) v count new
        → codes_listed count' new' ≡ list_over (filterb p (xs ++ v ∷ [])) old
    unfolding list_more list_over filterb
    writing_more v {new'} {count'} room e = go (cases_Bool (p v))
      where
        ys : List ℕ
        ys = filterb p xs

        go : (p v ≡ true) ⊎ (p v ≡ false) → codes_listed count' new' ≡ list_over (filterb p (xs ++ v ∷ [])) old
        go (inl t) =
            let x : codes_listed count' new' ≡ codes_listed (count + 1) (set new count v) = rw t at e in
            let f : filterb p (xs ++ v ∷ []) ≡ ys ++ v ∷ [] = filter_parts xs (v ∷ []) ∙ rw t refl in
            x
            ∙ ap₂ codes_listed
            (ap (λ (i : ℕ). i + 1) counted ∙ sym (length-append ys (v ∷ [])))
            (ap₂ (λ (l : List ℕ) (i : ℕ). set l i v) (ap (λ (c : CodesListed). c.codes) is) counted ∙ overwrite_snoc ys old v (omega (arith, room, counted)))
            ∙ ap (λ (l : List ℕ). list_over l old) (sym f)
        go (inr f) =
            let x : codes_listed count' new' ≡ codes_listed count new = rw f at e in
            let g : filterb p (xs ++ v ∷ []) ≡ ys = filter_parts xs (v ∷ []) ∙ rw f (append_none ys) in
            x ∙ is ∙ ap (λ (l : List ℕ). list_over l old) (sym g)
