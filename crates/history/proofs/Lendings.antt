-- A table of the map lent and restored: a refused call's comes back as it was; one lent whole is read behind its own words, and comes back as the
-- words written over it. Assumes nothing.
use mathlib.Core.Path.{◌≡◌, sym, ap, ◌∙◌}
use mathlib.Core.List.{List, ◌++◌, append-nil}
use Prim.Native.Nat.{ℕ, ◌+◌, ◌≤◌, min}
use native.Mathlib.Omega.{arith}
use lib.ListN.{length, take, length-append, length-take, take-append-drop, drop_of_length-le}
use Rattle.lists.proofs.Buffers.{overwrite_all}
use lib.Seq.{take_all, take-append_seam, drop-append_seam}
use Rattle.lists.specs.Lists.{overwrite}
use Rattle.lists.proofs.Fills.{overwrite_take}
use Rattle.history.specs.History.{Part, first, whole, lend, restore, lent_size}

-- words over themselves with further words behind
overwrite_self : (new rest : List ℕ) → new ++ rest ≡ overwrite new (new ++ rest)
unfolding overwrite
overwrite_self new rest = sym (ap (λ (l : List ℕ). new ++ l) (drop-append_seam new rest))

-- the lent size is the one that the plain list is fed
pub lent_length : (size : ℕ) (p : Part) (t : List ℕ) → length t ≡ size → length (lend p t) ≡ lent_size size p
unfolding lend lent_size
lent_length size (first k) t e = length-take k t ∙ ap (min k) e
lent_length size (whole xs) t e = length-append t xs ∙ ap (λ (n : ℕ). n + length xs) e

-- a table lent whole stands first in what is lent
pub lent-whole : (size : ℕ) (p : Part) (t : List ℕ) → length t ≡ size → size ≤ lent_size size p → lend p t ≡ overwrite t (lend p t)
unfolding lend lent_size
lent-whole size (first k) t e l = let s : take k t ≡ t = take_all k t (omega arith) in s ∙ sym (overwrite_all t (take k t) (ap length (sym s)))
lent-whole size (whole xs) t e l = overwrite_self t xs

-- nothing was written, or a whole table was
pub restored_same : (p : Part) (t : List ℕ) → restore p t (lend p t) ≡ t
unfolding lend restore
restored_same (first k) t = take-append-drop k t
restored_same (whole xs) t = take-append_seam t xs

pub restored_new : (size : ℕ) (p : Part) (t new : List ℕ) → length t ≡ size → length new ≡ size → size ≤ lent_size size p → restore p t (overwrite new (lend p t)) ≡ new
unfolding lend restore lent_size
restored_new size (first k) t new e f l =
    ap (λ (x : List ℕ). overwrite new (take k t) ++ x) (drop_of_length-le t {i = k} (omega arith))
    ∙ append-nil (overwrite new (take k t))
    ∙ overwrite_all new (take k t) (omega (arith, length-take k t))
restored_new size (whole xs) t new e f l = ap (λ (n : ℕ). take n (overwrite new (t ++ xs))) (e ∙ sym f) ∙ overwrite_take new (t ++ xs)
