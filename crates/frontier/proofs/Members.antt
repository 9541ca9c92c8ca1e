-- The members of a word, one by one from the least, and those of a layer, word by word. Assumes nothing.
use mathlib.Core.Path.{◌≡◌, refl, sym, ap, ◌∙◌}
use mathlib.Core.Logic.{◌≢◌, ◌⊎◌, inl, inr}
use mathlib.Core.Bool.{Bool, true, false, not, ◌&&◌, ◌||◌, or-false}
use mathlib.Core.List.{List}
use Prim.Native.Nat.{ℕ, ◌+◌, ◌*◌, ◌/◌, ◌%◌, ◌≤◌, ◌<◌}
use native.Mathlib.Nat.{lt_irrefl}
use native.Mathlib.Omega.{arith}
use lib.Dec.{eqb, ltb}
use lib.ListN.{get_or}
use borrow.Author.Tests.{eqb-true, eqb-false, eq-eqb, ne_eqb, lt-ltb, le-ltb}
use Rattle.std.proofs.lemmas.Bool.{cases_Bool, and_parts, cases_lt, cases_eq}
use Rattle.lists.proofs.Tests.{clash}
use Rattle.words.specs.Bits.{bit}
use Rattle.words.specs.Least.{IsLeast, WithoutLeast}
use Rattle.words.proofs.Bits.{bit_of_zero, bit-word_of}
use Rattle.rows.specs.Rows.{row_bit, in_word}
use Rattle.rows.proofs.Written.{row_in}

-- ---- the set bits of a word

module _ (w word : ℕ) where
  -- the least bit b of what is left, x, leaves it
  module _ (x y b : ℕ) (l : IsLeast x b) (d : WithoutLeast x y) where
    left : (c : ℕ) → c < 64 → bit y c ≡ (bit x c && not (eqb c b))
    left c m = ap (λ (r : ℕ). bit r c) (d.rest b l) ∙ bit-word_of 64 (λ c. bit x c && not (eqb c b)) c m

    same_member : (u : ℕ) → eqb (u / 64) w ≡ true → eqb u (64 * w + b) ≡ eqb (u % 64) b
    same_member u e = go (eqb-true (u / 64) w e) (cases_eq (u % 64) b)
      where
        go : u / 64 ≡ w → (u % 64 ≡ b) ⊎ (u % 64 ≢ b) → eqb u (64 * w + b) ≡ eqb (u % 64) b
        go h (inl q) = eq-eqb u (64 * w + b) (omega arith) ∙ sym (eq-eqb (u % 64) b q)
        go h (inr q) = ne_eqb u (64 * w + b) (λ p. q (omega arith)) ∙ sym (ne_eqb (u % 64) b q)

    other_word : (u : ℕ) → eqb (u / 64) w ≡ false → eqb u (64 * w + b) ≡ false
    other_word u e = ne_eqb u (64 * w + b) (λ p. eqb-false (u / 64) w e (omega (arith, l.below)))

    module _ (inside : (c : ℕ) → c < 64 → bit x c ≡ true → bit word c ≡ true) where
      -- what is left was in the word
      pub bits_inside : (c : ℕ) → c < 64 → bit y c ≡ true → bit word c ≡ true
      bits_inside c n t = inside c n (and_parts (bit x c) (not (eqb c b)) (sym (left c n) ∙ t)).0

      -- the members that have left it are one more
      pub bits_one : (u : ℕ) → ((in_word w word u && not (in_word w x u)) || eqb u (64 * w + b)) ≡ (in_word w word u && not (in_word w y u))
      unfolding in_word
      bits_one u = go (cases_Bool (eqb (u / 64) w))
        where
          small : u % 64 < 64
          small = omega arith

          tests : (a p e : Bool) → (p ≡ true → a ≡ true) → (e ≡ true → p ≡ true) → ((a && not p) || e) ≡ (a && not (p && not e))
          tests true true true f g = refl
          tests true true false f g = refl
          tests true false true f g = refl
          tests true false false f g = refl
          tests false true e f g = absurd (clash refl (sym (f refl)))
          tests false false true f g = sym (g refl)
          tests false false false f g = refl

          go : (eqb (u / 64) w ≡ true) ⊎ (eqb (u / 64) w ≡ false)
              → ((in_word w word u && not (in_word w x u)) || eqb u (64 * w + b)) ≡ (in_word w word u && not (in_word w y u))
          go (inl e) =
              rw (e, same_member u e, left (u % 64) small)
              (tests (bit word (u % 64)) (bit x (u % 64)) (eqb (u % 64) b) (inside (u % 64) small) (λ q. rw (eqb-true (u % 64) b q) l.here))
          go (inr e) = rw (e, other_word u e)

  -- no bit is left
  pub bits_all : (x : ℕ) → x ≡ 0 → (u : ℕ) → (in_word w word u && not (in_word w x u)) ≡ in_word w word u
  unfolding in_word
  bits_all x z u = all (in_word w word u) (eqb (u / 64) w) (bit x (u % 64)) (rw z (bit_of_zero (u % 64)))
    where
      all : (a p q : Bool) → q ≡ false → (a && not (p && q)) ≡ a
      all true true q e = rw e
      all true false q e = refl
      all false p q e = refl

-- ---- the words of a layer

-- one word more
pub words_one : (layer : List ℕ) (W w : ℕ) → w < W → (u : ℕ) → u < 64 * W
    → ((ltb u (64 * w) && row_bit W layer u) || in_word w (get_or layer w 0) u) ≡ (ltb u (64 * (w + 1)) && row_bit W layer u)
unfolding in_word
words_one layer W w h u l = go (cases_lt u (64 * w)) (cases_lt u (64 * (w + 1)))
  where
    go : (u < 64 * w) ⊎ (64 * w ≤ u) → (u < 64 * (w + 1)) ⊎ (64 * (w + 1) ≤ u)
        → ((ltb u (64 * w) && row_bit W layer u) || in_word w (get_or layer w 0) u) ≡ (ltb u (64 * (w + 1)) && row_bit W layer u)
    go (inl a) c = rw (lt-ltb u (64 * w) a, lt-ltb u (64 * (w + 1)) (omega arith), ne_eqb (u / 64) w (λ q. lt_irrefl u (omega arith))) (or-false (row_bit W layer u))
    go (inr a) (inl c) =
        let q : u / 64 ≡ w = omega arith in
        rw (le-ltb u (64 * w) a, lt-ltb u (64 * (w + 1)) c, eq-eqb (u / 64) w q)
        (sym (row_in W layer u l ∙ ap (λ (i : ℕ). bit (get_or layer i 0) (u % 64)) q))
    go (inr a) (inr c) = rw (le-ltb u (64 * w) a, le-ltb u (64 * (w + 1)) c, ne_eqb (u / 64) w (λ q. lt_irrefl u (omega arith)))
