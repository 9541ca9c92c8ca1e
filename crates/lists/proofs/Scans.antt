-- A loop that goes through a list until an element decides: what is left decides as the whole does. Assumes nothing.
use mathlib.Core.Path.{◌≡◌}
use mathlib.Core.Bool.{Bool, true, false}
use mathlib.Core.List.{List, [], ◌∷◌}
use Prim.Native.Nat.{ℕ, zero, suc, ◌+◌, ◌≤◌, ◌<◌}
use native.Mathlib.Numerals.{add-one}
use native.Mathlib.Omega.{arith}
use lib.ListN.{length, get_or, drop, drop_of_length-le}
use lib.Seq.{drop-cons}
use Rattle.std.proofs.lemmas.Bool.{and_parts}
use Rattle.lists.specs.Lists.{filterb, allb}

-- of a list whose elements all pass, each does
pub all-at {ℓ} : {A : Type ℓ} (p : A → Bool) (s : List A) (i : ℕ) (x : A) → i < length s → allb p s ≡ true → p (get_or s i x) ≡ true
unfolding allb
all-at p [] i x h e = absurd (omega arith)
all-at p (y ∷ ys) zero x h e = (and_parts (p y) (allb p ys) e).0
all-at p (y ∷ ys) (suc i) x h e = all-at p ys i x (omega arith) (and_parts (p y) (allb p ys) e).1

-- ---- a loop that keeps the elements that pass: what the rest of the list gives

pub filter-took {ℓ} : {A : Type ℓ} (p : A → Bool) (s : List A) (i : ℕ) (x : A) → i < length s → p (get_or s i x) ≡ true → filterb p (drop i s) ≡ get_or s i x ∷ filterb p (drop (i + 1) s)
unfolding filterb
filter-took p s i x h e = rw (add-one, drop-cons s i x h, e)

pub filter-passed {ℓ} : {A : Type ℓ} (p : A → Bool) (s : List A) (i : ℕ) (x : A) → i < length s → p (get_or s i x) ≡ false → filterb p (drop i s) ≡ filterb p (drop (i + 1) s)
unfolding filterb
filter-passed p s i x h e = rw (add-one, drop-cons s i x h, e)

pub filter-done {ℓ} : {A : Type ℓ} (p : A → Bool) (s : List A) (i : ℕ) → length s ≤ i → filterb p (drop i s) ≡ []
unfolding filterb
filter-done p s i h = rw (drop_of_length-le s h)
