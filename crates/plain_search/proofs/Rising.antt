-- Whether a list of codes rises, as the library's `is_sorted_by` finds it. Assumes nothing.
use mathlib.Core.Path.{◌≡◌, refl, sym, ap}
use mathlib.Core.Bool.{Bool, true, false, ◌&&◌, and-false}
use mathlib.Core.List.{List, [], ◌∷◌}
use Prim.Native.Nat.{ℕ, zero, suc, ◌<◌}
use native.Mathlib.Omega.{arith}
use lib.Dec.{ltb}
use lib.ListN.{length, get_or}
use Rattle.std.proofs.lemmas.Bool.{and_from}
use Rattle.std.specs.List.{IsAllAdjacentAnswer}
use Rattle.std.proofs.Math.Numerals.{add-one}
use Rattle.plain_search.specs.Sheets.{rising}

rising_all : (xs : List ℕ) → ((k : ℕ) → suc k < length xs → ltb (get_or xs k 0) (get_or xs (suc k) 0) ≡ true) → rising xs ≡ true
unfolding rising
rising_all [] h = refl
rising_all (x ∷ []) h = refl
rising_all (x ∷ y ∷ ys) h = and_from _ _ (h 0 (omega arith)) (rising_all (y ∷ ys) (λ k l. h (suc k) (omega arith)))

rising_fault : (xs : List ℕ) (k : ℕ) → suc k < length xs → ltb (get_or xs k 0) (get_or xs (suc k) 0) ≡ false → rising xs ≡ false
unfolding rising
rising_fault [] k l e = absurd (omega arith)
rising_fault (x ∷ []) k l e = absurd (omega arith)
rising_fault (x ∷ y ∷ ys) zero l e = ap (λ (b : Bool). b && rising (y ∷ ys)) e
rising_fault (x ∷ y ∷ ys) (suc k) l e = rw (rising_fault (y ∷ ys) k (omega arith) e) (and-false (ltb x y))

pub rising_is : (xs : List ℕ) (r : Bool) → IsAllAdjacentAnswer (λ x y b. b ≡ ltb x y) xs r → r ≡ rising xs
rising_is xs true h = sym (rising_all xs (λ k l. sym (rw add-one at (h k 0 (omega arith)))))
rising_is xs false h = sym (rising_fault xs h.0 (omega (arith, h.1)) (sym (rw add-one at (h.2 0))))
