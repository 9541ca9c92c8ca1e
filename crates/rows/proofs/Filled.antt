-- The first n places of a buffer filled with one element. Assumes nothing.
use mathlib.Core.Path.{◌≡◌, refl, sym, ap, ap₂, ◌∙◌}
use mathlib.Core.Bool.{false}
use mathlib.Core.List.{List, ◌∷◌, ◌++◌}
use Prim.Native.Nat.{ℕ, zero, suc}
use lib.ListN.{drop, replicate}
use Rattle.lists.specs.Lists.{from, range, mapl, overwrite}
use Rattle.lists.proofs.Fills.{length_fill}
use Rattle.words.proofs.Bits.{word_of-none}
use Rattle.rows.specs.Rows.{encode_row}

replicate_from : {A : Type 0} (x : A) (i n : ℕ) → replicate n x ≡ mapl (λ v. x) (from i n)
unfolding mapl from
replicate_from x i zero = refl
replicate_from {A} x i (suc n) = ap (λ (r : List A). x ∷ r) (replicate_from x (suc i) n)

pub filled : {A : Type 0} (x : A) (n : ℕ) (new old : List A) → new ≡ replicate n x → new ++ drop n old ≡ overwrite (mapl (λ v. x) (range n)) old
unfolding overwrite range
filled {A} x n new old e = ap₂ (λ (r : List A) (k : ℕ). r ++ drop k old) (e ∙ replicate_from x 0 n) (sym (length_fill (λ v. x) n))

-- words filled with 0 are a row without members
pub filled_zero : (n : ℕ) (new old : List ℕ) → new ≡ replicate n 0 → new ++ drop n old ≡ overwrite (encode_row n (λ v. false)) old
unfolding encode_row
filled_zero n new old e = filled 0 n new old e ∙ ap (λ (x : ℕ). overwrite (mapl (λ v. x) (range n)) old) (sym (word_of-none 64))
