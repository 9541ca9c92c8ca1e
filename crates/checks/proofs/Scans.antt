-- The scan of a table's set bits, over any test: rows outside, words inside, the set bits of a word from the least one on.
-- Each loop's invariant says what has passed; the scan ends with the whole table passed, or with one faulty bit. Assumes nothing.
use mathlib.Core.Path.{◌≡◌, refl, sym, ap, ◌∙◌, subst}
use mathlib.Core.Logic.{◌≢◌, ◌⊎◌, inl, inr}
use mathlib.Core.Bool.{Bool, true, false, not, ◌&&◌}
use mathlib.Core.List.{List}
use Prim.Native.Nat.{ℕ, ◌+◌, ◌-◌, ◌*◌, ◌≤◌, ◌<◌}
use native.Mathlib.Nat.{lt_irrefl}
use native.Mathlib.Omega.{arith}
use lib.Dec.{eqb}
use lib.ListN.{get_or}
use borrow.Author.Tests.{ne_eqb}
use Rattle.std.proofs.lemmas.Bool.{cases_lt, cases_eq, and_parts}
use Rattle.lists.proofs.Tests.{clash}
use Rattle.words.specs.Bits.{bit}
use Rattle.words.specs.Least.{IsLeast, WithoutLeast}
use Rattle.words.proofs.Bits.{bit_of_zero, bit-word_of}
use Rattle.rows.specs.Rows.{table_bit}
use Rattle.rows.proofs.Places.{row_fits}
use Rattle.rows.proofs.Written.{table_word}
use Rattle.checks.specs.Sound.{all_set}
use Rattle.checks.proofs.Sets.{all_set_intro, all_set_fault}

-- ---- the invariants

-- what is answered for codes below n is the test
abbrev pub Computes : ℕ → (ℕ → ℕ → Bool → Type 0) → (ℕ → ℕ → Bool) → Type 0
Computes n answers test = (u v : ℕ) (r : Bool) → u < n → v < n → answers u v r → r ≡ test u v

-- x₀ is word w of row u, x what is left of it: each set bit of x₀ is still in x, or passes
pub record BitsDone (test : ℕ → ℕ → Bool) (u w x₀ : ℕ) (f : Bool) (x : ℕ) : Type 0 where
  pub fine : f ≡ true
  pub inside : (b : ℕ) → b < 64 → bit x b ≡ true → bit x₀ b ≡ true
  pub passed : (b : ℕ) → b < 64 → bit x₀ b ≡ true → (bit x b ≡ true) ⊎ (test u (64 * w + b) ≡ true)

-- the set bits of the first w words of row u pass, and the row lies in the table
pub record WordsDone (W : ℕ) (t : List ℕ) (test : ℕ → ℕ → Bool) (u : ℕ) (f : Bool) (w : ℕ) : Type 0 where
  pub fine : f ≡ true
  pub within : w ≤ W
  pub fits : W * u + W ≤ W * (64 * W)
  pub passed : (v : ℕ) → v < 64 * w → table_bit W t u v ≡ true → test u v ≡ true

-- the set bits of the first u rows pass
pub record RowsDone (W : ℕ) (t : List ℕ) (test : ℕ → ℕ → Bool) (f : Bool) (u : ℕ) : Type 0 where
  pub fine : f ≡ true
  pub within : u ≤ 64 * W
  pub passed : (p v : ℕ) → p < u → v < 64 * W → table_bit W t p v ≡ true → test p v ≡ true

-- ---- the bits of a word

pub bits_start : {test : ℕ → ℕ → Bool} {u w x : ℕ} {f : Bool} → f ≡ true → BitsDone test u w x f x
bits_start h = record { fine = h; inside = λ b l e. e; passed = λ b l e. inl e }

-- the least bit passes, as the code's answer r says, and leaves
pub bits_next : {test : ℕ → ℕ → Bool} {u w x₀ x y b : ℕ} {f r : Bool} → BitsDone test u w x₀ f x → IsLeast x b → WithoutLeast x y
    → r ≡ test u (64 * w + b) → r ≡ true → BitsDone test u w x₀ f y
bits_next {test} {u} {w} {x₀} {x} {y} {b} i l d a ok = record {
  fine = i.fine;
  inside = λ k m h. i.inside k m (and_parts (bit x k) (not (eqb k b)) (sym (left k m) ∙ h)).0;
  passed = λ k m h. on k m (cases_eq k b) (i.passed k m h);
}
  where
    left : (k : ℕ) → k < 64 → bit y k ≡ (bit x k && not (eqb k b))
    left k m = ap (λ (r : ℕ). bit r k) (d.rest b l) ∙ bit-word_of 64 (λ k. bit x k && not (eqb k b)) k m

    on : (k : ℕ) → k < 64 → (k ≡ b) ⊎ (k ≢ b) → (bit x k ≡ true) ⊎ (test u (64 * w + k) ≡ true) → (bit y k ≡ true) ⊎ (test u (64 * w + k) ≡ true)
    on k m (inl e) p = inr (rw e (sym a ∙ ok))
    on k m (inr e) (inl p) = inl (left k m ∙ rw (p, ne_eqb k b e))
    on k m (inr e) (inr p) = inr p

-- ---- the words of a row

pub words_start : {W : ℕ} {t : List ℕ} {test : ℕ → ℕ → Bool} {u : ℕ} {f : Bool} → f ≡ true → u < 64 * W → WordsDone W t test u f 0
words_start {W} {u = u} h l = record {
  fine = h;
  within = omega arith;
  fits = row_fits W u (W * (64 * W)) l (omega arith);
  passed = λ v l e. absurd (lt_irrefl v (omega arith));
}

-- no bit of the next word is left
pub words_next : {W : ℕ} {t : List ℕ} {test : ℕ → ℕ → Bool} {u w x : ℕ} {f g : Bool} → WordsDone W t test u f w → BitsDone test u w (get_or t (W * u + w) 0) g x → x ≡ 0
    → u < 64 * W → w < W → WordsDone W t test u g (w + 1)
words_next {W} {t} {test} {u} {w} {x} i j z d h = record {
  fine = j.fine;
  within = omega arith;
  fits = i.fits;
  passed = λ v l e. go v e (cases_lt v (64 * w)) l;
}
  where
    here : (b : ℕ) → b < 64 → table_bit W t u (64 * w + b) ≡ true → test u (64 * w + b) ≡ true
    here b m e = on (j.passed b m (sym (table_word W t u w b d h m) ∙ e))
      where
        on : (bit x b ≡ true) ⊎ (test u (64 * w + b) ≡ true) → test u (64 * w + b) ≡ true
        on (inl p) = absurd (clash p (rw z (bit_of_zero b)))
        on (inr p) = p

    go : (v : ℕ) → table_bit W t u v ≡ true → (v < 64 * w) ⊎ (64 * w ≤ v) → v < 64 * (w + 1) → test u v ≡ true
    go v e (inl m) l = i.passed v m e
    go v e (inr m) l =
        let q : 64 * w + (v - 64 * w) ≡ v = omega arith in
        subst (λ (k : ℕ). test u k ≡ true) q (here (v - 64 * w) (omega arith) (subst (λ (k : ℕ). table_bit W t u k ≡ true) (sym q) e))

-- ---- the rows of the table

pub rows_start : {W : ℕ} {t : List ℕ} {test : ℕ → ℕ → Bool} → RowsDone W t test true 0
rows_start = record { fine = refl; within = omega arith; passed = λ p v l. absurd (lt_irrefl p (omega arith)) }

-- no word of the next row is left
pub rows_next : {W : ℕ} {t : List ℕ} {test : ℕ → ℕ → Bool} {u w : ℕ} {f g : Bool} → RowsDone W t test f u → WordsDone W t test u g w
    → W ≤ w → u < 64 * W → RowsDone W t test g (u + 1)
rows_next {W} {t} {test} {u} {w} i j z d = record { fine = j.fine; within = omega arith; passed = λ p v l m e. go p v m e (cases_lt p u) l }
  where
    go : (p v : ℕ) → v < 64 * W → table_bit W t p v ≡ true → (p < u) ⊎ (u ≤ p) → p < u + 1 → test p v ≡ true
    go p v m e (inl k) l = i.passed p v k m e
    go p v m e (inr k) l =
        let q : p ≡ u = omega arith in
        rw q (j.passed v (omega arith) (rw q at e))

-- ---- the two ends

-- no row is left
pub scan_whole : {W : ℕ} {t : List ℕ} {test : ℕ → ℕ → Bool} {u : ℕ} {f : Bool} → RowsDone W t test f u → 64 * W ≤ u → f ≡ all_set (64 * W) (table_bit W t) test
scan_whole {W} {t} {test} i z = i.fine ∙ sym (all_set_intro (64 * W) (table_bit W t) test (λ p v l m e. i.passed p v (omega arith) m e))

-- the least bit left does not pass, as the code's answer r says
pub scan_fault : (W : ℕ) (t : List ℕ) {test : ℕ → ℕ → Bool} {u w x b : ℕ} {f r : Bool} → BitsDone test u w (get_or t (W * u + w) 0) f x → IsLeast x b
    → r ≡ test u (64 * w + b) → r ≡ false → u < 64 * W → w < W → false ≡ all_set (64 * W) (table_bit W t) test
scan_fault W t {test} {u} {w} {x} {b} i l a e d h =
    sym
    (all_set_fault (64 * W) (table_bit W t) test u (64 * w + b) d (omega (arith, l.below))
    (table_word W t u w b d h l.below ∙ i.inside b l.below l.here) (sym a ∙ e))
