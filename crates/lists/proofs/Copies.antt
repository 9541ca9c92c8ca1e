-- A loop that writes a list over the first part of a buffer, one element after the other. Assumes nothing.
use mathlib.Core.Path.{◌≡◌, refl, sym, ap, ap₂, ◌∙◌}
use mathlib.Core.List.{List, [], ◌∷◌, ◌++◌}
use Prim.Native.Nat.{ℕ, suc, ◌+◌, ◌≤◌, ◌<◌}
use native.Mathlib.Numerals.{add-one}
use native.Mathlib.Omega.{arith}
use lib.ListN.{length, get_or, set, take, drop, length-append, length-set}
use lib.Seq.{length-take-le, take-length, take-suc, drop-cons, append_snoc, set-append_seam}
use Rattle.lists.specs.Lists.{overwrite}

-- one element more
pub overwrite_snoc : (new old : List ℕ) (x : ℕ) → length new < length old → set (overwrite new old) (length new) x ≡ overwrite (new ++ (x ∷ [])) old
unfolding overwrite
overwrite_snoc new old x h =
    let e : length (new ++ (x ∷ [])) ≡ suc (length new) = length-append new (x ∷ []) ∙ add-one (length new) in
    ap (λ (r : List ℕ). set (new ++ r) (length new) x) (drop-cons old (length new) 0 h)
    ∙ set-append_seam new (get_or old (length new) 0) (drop (suc (length new)) old) x
    ∙ sym (append_snoc new x (drop (suc (length new)) old))
    ∙ ap (λ (i : ℕ). (new ++ (x ∷ [])) ++ drop i old) (sym e)

copy_more : (new old : List ℕ) (j : ℕ) → j < length new → length new ≤ length old → set (overwrite (take j new) old) j (get_or new j 0) ≡ overwrite (take (j + 1) new) old
copy_more new old j h k =
    let n : length (take j new) ≡ j = length-take-le j new (omega arith) in
    ap (λ (i : ℕ). set (overwrite (take j new) old) i (get_or new j 0)) (sym n)
    ∙ overwrite_snoc (take j new) old (get_or new j 0) (omega arith)
    ∙ ap (λ (r : List ℕ). overwrite r old) (sym (ap (λ (i : ℕ). take i new) (add-one j) ∙ take-suc new j 0 h))

-- the first j elements of `new` are written over `old`, which is now `l`: the invariant of such a loop
pub record Copied (new old l : List ℕ) (j : ℕ) : Type 0 where
  pub size : length l ≡ length old
  pub is : l ≡ overwrite (take j new) old

pub copied_none : (new old : List ℕ) → Copied new old old 0
unfolding overwrite
copied_none new old = record { size = refl; is = refl }

pub copied_more : {new old l : List ℕ} {j x : ℕ} → Copied new old l j → x ≡ get_or new j 0 → j < length new → length new ≤ length old → Copied new old (set l j x) (j + 1)
copied_more {new} {old} {l} {j} {x} w e h k =
    record { size = length-set l j x ∙ w.size; is = ap₂ (λ (r : List ℕ) (y : ℕ). set r j y) w.is e ∙ copy_more new old j h k }

pub copied_at : {new old l : List ℕ} {j k : ℕ} → Copied new old l j → j ≡ k → Copied new old l k
copied_at {new} {old} w e = record { size = w.size; is = w.is ∙ ap (λ (i : ℕ). overwrite (take i new) old) e }

pub copied_all : {new old l : List ℕ} {j : ℕ} → Copied new old l j → j ≡ length new → l ≡ overwrite new old
copied_all {new} {old} w e = w.is ∙ ap (λ (r : List ℕ). overwrite r old) (ap (λ (i : ℕ). take i new) e ∙ take-length new)
