-- HOW MANY LINES an input has, counted byte by byte: a line begins where the byte before ended one. Assumes nothing.
use mathlib.Core.Path.{◌≡◌, refl}
use mathlib.Core.Bool.{Bool, true, false, cond, not}
use mathlib.Core.List.{List, [], ◌∷◌}
use Prim.Native.Nat.{ℕ, suc, ◌+◌, ◌≤◌, ◌<◌}
use native.Mathlib.Omega.{arith}
use native.Mathlib.Numerals.{add-one}
use lib.Dec.{eqb}
use lib.ListN.{length, get_or, drop, drop_of_length-le}
use lib.Seq.{drop-cons}
use Rattle.notice.specs.Lines.{line_end, onto, lines_of}

-- the lines that begin among some bytes; `inside`: those before them have begun one and not ended it
unfoldable pub begun : Bool → List ℕ → ℕ
begun inside [] = 0
begun inside (b ∷ bs) = cond inside 0 1 + begun (not (eqb b line_end)) bs

onto_again : (c b : ℕ) (ls : List (List ℕ)) → length (onto c (onto b ls)) ≡ length (onto b ls)
unfolding onto
onto_again c b [] = refl
onto_again c b (l ∷ ls) = refl

count_both : (c : ℕ) (bs : List ℕ) → (length (lines_of bs) ≡ begun false bs) × (length (onto c (lines_of bs)) ≡ suc (begun true bs))
unfolding lines_of onto begun
count_both c [] = (refl, refl)
count_both c (b ∷ bs) = go (eqb b line_end) refl (count_both b bs)
  where
    go : (x : Bool) → eqb b line_end ≡ x → (length (lines_of bs) ≡ begun false bs) × (length (onto b (lines_of bs)) ≡ suc (begun true bs))
        → (length (lines_of (b ∷ bs)) ≡ begun false (b ∷ bs)) × (length (onto c (lines_of (b ∷ bs))) ≡ suc (begun true (b ∷ bs)))
    go true e ih = rw e (omega (arith, ih.0), omega (arith, ih.0))
    go false e ih = rw e (omega (arith, ih.1), omega (arith, onto_again c b (lines_of bs), ih.1))

-- ---- the loop: the lines are those counted and those that begin in what is left

pub record AreCounted (s : List ℕ) (i count : ℕ) (inside : Bool) : Type 0 where
  pub few : count ≤ i
  pub total : length (lines_of s) ≡ count + begun inside (drop i s)

pub counted_none : (s : List ℕ) → AreCounted s 0 0 false
counted_none s = record { few = omega arith; total = omega (arith, (count_both 0 s).0) }

pub begun_more : (inside : Bool) (s : List ℕ) (i : ℕ) → i < length s → begun inside (drop i s) ≡ cond inside 0 1 + begun (not (eqb (get_or s i 0) line_end)) (drop (i + 1) s)
unfolding begun
begun_more inside s i h = rw (add-one, drop-cons s i 0 h)

pub begun_none : (inside : Bool) (s : List ℕ) (i : ℕ) → length s ≤ i → begun inside (drop i s) ≡ 0
unfolding begun
begun_none inside s i h = rw (drop_of_length-le s h)

pub ruleset counted = (counted_none, begun_more, begun_none)
