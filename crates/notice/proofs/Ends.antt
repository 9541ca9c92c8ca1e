-- Where a line ends, and how long it is. Assumes nothing.
use mathlib.Core.Path.{◌≡◌, refl, sym, ap, ◌∙◌}
use mathlib.Core.Logic.{◌⊎◌, inl, inr}
use mathlib.Core.Bool.{Bool, true, false, cond}
use mathlib.Core.List.{List, [], ◌∷◌, ◌++◌}
use Prim.Native.Nat.{ℕ, zero, suc, ◌+◌, ◌≤◌, ◌<◌, ◌*◌}
use native.Mathlib.Numerals.{add-one}
use native.Mathlib.Omega.{arith}
use lib.Dec.{eqb}
use lib.ListN.{length, get_or, take, drop, drop_of_length-le, length-append, length-take}
use lib.Seq.{drop-cons, get_or-take}
use borrow.Author.Tests.{eq-eqb, ne_eqb, eqb-true}
use Rattle.std.proofs.lemmas.Bool.{cases_Bool, and_parts}
use Rattle.lists.specs.Lists.{allb}
use Rattle.lists.proofs.Tests.{clash}
use Rattle.lists.proofs.Scans.{all-at}
use Rattle.hexadecimal.specs.Hex.{is_digit, digits_of}
use Rattle.notice.specs.Lines.{line_end, end_of, line_of}
use Rattle.hexadecimal.proofs.DigitLaws.{digit_no_end}
use Rattle.hexadecimal.proofs.Spelling.{length_digits}

-- the end is further on, is here, or is none
end_more : (s : List ℕ) (i : ℕ) → i < length s → (get_or s i 0 ≡ line_end → ⊥) → i + end_of (drop i s) ≡ i + 1 + end_of (drop (i + 1) s)
unfolding end_of
end_more s i h e = rw (add-one, drop-cons s i 0 h, ne_eqb (get_or s i 0) line_end e) (omega arith)

end_here : (s : List ℕ) (i : ℕ) → i < length s → get_or s i 0 ≡ line_end → i ≡ i + end_of (drop i s)
unfolding end_of
end_here s i h e = rw (drop-cons s i 0 h, eq-eqb (get_or s i 0) line_end e) (omega arith)

end_out : (s : List ℕ) (i : ℕ) → length s ≤ i → i ≡ i + end_of (drop i s)
unfolding end_of
end_out s i h = rw (drop_of_length-le s h) (omega arith)

-- ---- what stands at the end

pub end_is : (s : List ℕ) → end_of s < length s → get_or s (end_of s) 0 ≡ line_end
unfolding end_of
end_is [] h = absurd (omega arith)
end_is (c ∷ cs) h = go (eqb c line_end) refl h (λ k. end_is cs k)
  where
    go : (b : Bool) → eqb c line_end ≡ b → cond b 0 (suc (end_of cs)) < suc (length cs) → (end_of cs < length cs → get_or cs (end_of cs) 0 ≡ line_end) → get_or (c ∷ cs) (cond b 0 (suc (end_of cs))) 0 ≡ line_end
    go true e k ih = eqb-true c line_end e
    go false e k ih = ih (omega arith)

-- digits go on to the first 0A
pub end_digits : (ds rest : List ℕ) → allb is_digit ds ≡ true → end_of (ds ++ line_end ∷ rest) ≡ length ds
unfolding allb end_of
end_digits [] rest h = refl
end_digits (d ∷ ds) rest h =
    let p = and_parts (is_digit d) (allb is_digit ds) h in
    rw (digit_no_end d p.0) (ap suc (end_digits ds rest p.1))

-- ---- the first byte that is no digit, at e

-- no digit ends a line: the end is as far behind digits as what follows them says
end_behind : (s : List ℕ) (e : ℕ) → e ≤ length s → allb is_digit (take e s) ≡ true → end_of s ≡ e + end_of (drop e s)
unfolding allb end_of
end_behind s zero h d = omega arith
end_behind [] (suc e) h d = absurd (omega arith)
end_behind (c ∷ cs) (suc e) h d =
    let p = and_parts (is_digit c) (allb is_digit (take e cs)) d in
    rw (digit_no_end c p.0) (omega (arith, end_behind cs e (omega arith) p.1))

-- it is the end where it is 0A, and where there is none
pub end_found : (s : List ℕ) (e : ℕ) → e < length s → allb is_digit (take e s) ≡ true → get_or s e 0 ≡ line_end → e ≡ end_of s
end_found s e h d k = end_here s e h k ∙ sym (end_behind s e (omega arith) d)

pub end_none : (s : List ℕ) (e : ℕ) → e ≡ length s → allb is_digit (take e s) ≡ true → e ≡ end_of s
end_none s e h d = end_out s e (omega arith) ∙ sym (end_behind s e (omega arith) d)

-- any other byte stands before the end, so that not all before the end are digits
pub end_stray : (s : List ℕ) (e : ℕ) → e < length s → allb is_digit (take e s) ≡ true → (get_or s e 0 ≡ line_end → ⊥) → is_digit (get_or s e 0) ≡ false → allb is_digit (take (end_of s) s) ≡ false
end_stray s e h d k f = go (cases_Bool (allb is_digit (take (end_of s) s)))
  where
    before : e < end_of s
    before = omega (arith, end_behind s e (omega arith) d, end_more s e h k)

    go : (allb is_digit (take (end_of s) s) ≡ true) ⊎ (allb is_digit (take (end_of s) s) ≡ false) → allb is_digit (take (end_of s) s) ≡ false
    go (inl a) =
        let l : e < length (take (end_of s) s) = omega (arith, before, length-take (end_of s) s) in
        absurd (clash (sym (ap is_digit (get_or-take (end_of s) s e 0 before)) ∙ all-at is_digit (take (end_of s) s) e 0 l a) f)
    go (inr a) = a

-- ---- how long a line is

pub length_line : (f : List ℕ) → length (line_of f) ≡ 2 * length f + 1
unfolding line_of
length_line f = length-append (digits_of f) (line_end ∷ []) ∙ ap (λ (n : ℕ). n + 1) (length_digits f)
