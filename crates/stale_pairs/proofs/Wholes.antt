-- A word of pairs sifted whole: its members that are nearer than the chain go, the others stay; and the loop of `greatest_way`. Assumes nothing.
use mathlib.Core.Path.{◌≡◌, refl, sym, ap, ◌∙◌}
use mathlib.Core.Logic.{◌≢◌, ◌⊎◌, inl, inr}
use mathlib.Core.Bool.{Bool, true, false, cond, not, ◌&&◌}
use Prim.Native.Nat.{ℕ, ◌+◌, ◌-◌, ◌*◌, ◌^◌, ◌≤◌, ◌<◌, min}
use native.Mathlib.Omega.{arith}
use lib.Bits.{bit_and}
use lib.Dec.{ltb}
use borrow.Author.Tests.{lt-ltb, ltb-true}
use Rattle.std.proofs.lemmas.Bool.{cases_Bool, cases_eq}
use Rattle.lists.specs.Lists.{range, countb, max_of}
use Rattle.lists.proofs.Members.{range_in, range_out}
use Rattle.lists.proofs.Counts.{max_ge, max_le_of}
use Rattle.lists.proofs.RangeCounts.{count_same}
use Rattle.lists.proofs.Ranges.{max_none}
use Rattle.words.specs.Bits.{bit, word_of}
use Rattle.words.proofs.Bits.{bit_of_zero, bit-word_of, bit_and_lem, word_of_lt, word_of_ext, word_of-none, word_minus}
use Rattle.stale_pairs.specs.Stale.{staying_bit, stale_bit, greatest_bit, sifted, sift_of}
use Rattle.stale_pairs.specs.Balls.{nearer}

module _ (far : ℕ → ℕ → ℕ) (D u j x : ℕ) where
  abbrev way_of : ℕ → ℕ
  way_of b = far u (64 * j + b)

  pub nearer_bit : (d b : ℕ) → b < 64 → bit (nearer far u d j) b ≡ ltb (way_of b) d
  unfolding nearer
  nearer_bit d b l = bit-word_of 64 (λ b. ltb (way_of b) d) b l

  pub nearer_fits : (d : ℕ) → nearer far u d j < 2 ^ 64
  unfolding nearer
  nearer_fits d = word_of_lt 64 (λ b. ltb (way_of b) d)

  -- ---- the greatest way: no member is farther than d

  pub record Within (d : ℕ) : Type 0 where
    pub most : d ≤ D
    pub all : (b : ℕ) → b < 64 → bit x b ≡ true → min D (way_of b) ≤ d

  pub within_start : Within D
  within_start = record { most = omega arith; all = λ b l h. omega arith }

  -- the members that are not nearer than d
  past : (d : ℕ) → x < 2 ^ 64 → bit_and x ((2 ^ 64 - 1) - nearer far u d j) ≡ word_of 64 (λ b. bit x b && not (ltb (way_of b) d))
  past d f =
      word_minus 64 x (nearer far u d j) f (nearer_fits d)
      ∙ word_of_ext 64 (λ b. bit x b && not (bit (nearer far u d j) b)) (λ b. bit x b && not (ltb (way_of b) d)) (λ b l. ap (λ (y : Bool). bit x b && not y) (nearer_bit d b l))

  pub within_less : {d r : ℕ} → Within d → 0 < d → r ≡ nearer far u d j → x < 2 ^ 64 → bit_and x ((2 ^ 64 - 1) - r) ≡ 0 → Within (d - 1)
  within_less {d} {r} i z e f n =
      record {
        most = omega (arith, i.most);
        all = λ b l h. (let c : way_of b < d = ltb-true (way_of b) d (less (bit x b) (ltb (way_of b) d) h (sym (bit-word_of 64 beyond b l) ∙ ap (λ (y : ℕ). bit y b) none ∙ bit_of_zero b)) in omega arith);
      }
    where
      beyond : ℕ → Bool
      beyond b = bit x b && not (ltb (way_of b) d)

      none : word_of 64 beyond ≡ 0
      none = sym (past d f) ∙ ap (λ (y : ℕ). bit_and x ((2 ^ 64 - 1) - y)) (sym e) ∙ n

      less : (a c : Bool) → a ≡ true → (a && not c) ≡ false → c ≡ true
      less true true p q = refl
      less true false p q = sym q
      less false true p q = refl
      less false false p q = p

  abbrev ways : ℕ → ℕ
  ways b = cond (bit x b) (min D (way_of b)) 0

  ways_few : (d : ℕ) → Within d → (b : ℕ) → b < 64 → ways b ≤ d
  ways_few d i b l = go (cases_Bool (bit x b))
    where
      go : (bit x b ≡ true) ⊎ (bit x b ≡ false) → ways b ≤ d
      go (inl h) = rw h (i.all b l h)
      go (inr h) = rw h (omega arith)

  -- and some member is as far
  pub within_met : {d r : ℕ} → Within d → r ≡ nearer far u d j → x < 2 ^ 64 → bit_and x ((2 ^ 64 - 1) - r) ≢ 0 → d ≡ greatest_bit far D u (64 * j) x
  unfolding greatest_bit
  within_met {d} {r} i e f n = go (cases_eq d (max_of ways (range 64)))
    where
      top : max_of ways (range 64) ≤ d
      top = max_le_of ways (range 64) d (λ b m. ways_few d i b (range_out 64 m))

      go : (d ≡ max_of ways (range 64)) ⊎ (d ≢ max_of ways (range 64)) → d ≡ max_of ways (range 64)
      go (inl c) = c
      go (inr c) = absurd (n (ap (λ (y : ℕ). bit_and x ((2 ^ 64 - 1) - y)) e ∙ past d f ∙ word_of_ext 64 (λ b. bit x b && not (ltb (way_of b) d)) (λ b. false) (λ b l. none b l (cases_Bool (bit x b))) ∙ word_of-none 64))
        where
          none : (b : ℕ) → b < 64 → (bit x b ≡ true) ⊎ (bit x b ≡ false) → (bit x b && not (ltb (way_of b) d)) ≡ false
          none b l (inr h) = rw h
          none b l (inl h) =
              let ge : ways b ≤ max_of ways (range 64) = max_ge ways (range 64) (range_in 64 l) in
              let here : ways b ≡ min D (way_of b) = rw h in
              rw (h, lt-ltb (way_of b) d (omega (arith, i.most, top)))

  -- no member has a way
  pub within_none : {d : ℕ} → Within d → d ≡ 0 → 0 ≡ greatest_bit far D u (64 * j) x
  unfolding greatest_bit
  within_none {d} i e = sym (max_none ways 64 (λ b l. omega (arith, ways_few d i b l)))

  -- ---- the whole word

  -- some member stays
  pub way_kept : {r : ℕ} → r ≡ nearer far u D j → x < 2 ^ 64 → bit_and x ((2 ^ 64 - 1) - r) ≢ 0 → D ≡ greatest_bit far D u (64 * j) x
  way_kept e f n = within_met within_start e f n

  pub whole_sifted : {r g k w : ℕ} → x < 2 ^ 64 → r ≡ nearer far u D j
      → g ≡ countb (bit (bit_and x r)) (range 64) → k ≡ countb (bit (bit_and x ((2 ^ 64 - 1) - r))) (range 64) → w ≡ greatest_bit far D u (64 * j) x
      → sifted (bit_and x ((2 ^ 64 - 1) - r)) g k w ≡ sift_of far D u (64 * j) x
  unfolding sift_of staying_bit stale_bit
  whole_sifted {r} {g} {k} {w} f e eg ek ew = rw (word, gone, kept, ew)
    where
      word : bit_and x ((2 ^ 64 - 1) - r) ≡ word_of 64 (λ b. bit x b && not (ltb (way_of b) D))
      word = ap (λ (y : ℕ). bit_and x ((2 ^ 64 - 1) - y)) e ∙ past D f

      gone : g ≡ countb (λ b. bit x b && ltb (way_of b) D) (range 64)
      gone =
          eg ∙ count_same 64 (bit (bit_and x r)) (λ b. bit x b && ltb (way_of b) D)
          (λ b l. bit_and_lem x r b ∙ ap (λ (s : Bool). bit x b && s) (ap (λ (s : ℕ). bit s b) e ∙ nearer_bit D b l))

      kept : k ≡ countb (λ b. bit x b && not (ltb (way_of b) D)) (range 64)
      kept =
          ek ∙ count_same 64 (bit (bit_and x ((2 ^ 64 - 1) - r))) (λ b. bit x b && not (ltb (way_of b) D))
          (λ b l. ap (λ (s : ℕ). bit s b) word ∙ bit-word_of 64 (λ b. bit x b && not (ltb (way_of b) D)) b l)
