-- One bit put: what it changes, what it leaves, and that it is the same as encoding the changed set. For any number of words per row. Assumes nothing.
use mathlib.Core.Path.{◌≡◌, refl, sym, ap, ap₂, ◌∙◌}
use mathlib.Core.Logic.{◌≢◌, ◌⊎◌, inl, inr}
use mathlib.Core.Bool.{Bool, true, false, cond, ◌&&◌, ◌||◌}
use mathlib.Core.List.{List}
use Prim.Native.Nat.{ℕ, ◌+◌, ◌*◌, ◌/◌, ◌%◌, ◌<◌}
use native.Mathlib.Nat.{mod-lt, zero-lt-suc}
use native.Mathlib.Omega.{arith}
use lib.Dec.{eqb}
use lib.ListN.{get_or, set}
use lib.Seq.{get_or-set_same, get_or-set_other}
use borrow.Author.Tests.{eq-eqb, ne_eqb}
use Rattle.std.proofs.lemmas.Bool.{cases_eq}
use Rattle.lists.specs.Lists.{overwrite}
use Rattle.words.specs.Bits.{bit, word_of}
use Rattle.words.proofs.Bits.{bit-word_of, word_of_ext}
use Rattle.rows.specs.Rows.{table_bit, encode_row, encode_table, put_bit, InTable}
use Rattle.lists.proofs.Buffers.{fill_put}
use Rattle.rows.proofs.Places.{place_lt, place_row, place_word, place_unique, place_is}
use Rattle.rows.proofs.Written.{table_in, table_agree, encode_row_word, encode_table_word}

-- ---- the word that is stored

-- as `with_bit` and `without_bit` make it
pub put_with : (w b : ℕ) → word_of 64 (λ k. eqb k b || bit w k) ≡ word_of 64 (λ k. cond (eqb k b) true (bit w k))
put_with w b = word_of_ext 64 (λ k. eqb k b || bit w k) (λ k. cond (eqb k b) true (bit w k)) (λ k l. go (eqb k b) (bit w k))
  where
    go : (x y : Bool) → (x || y) ≡ cond x true y
    go true y = refl
    go false y = refl

-- ---- what is read after it

module _ (W u v : ℕ) (x : Bool) (t : List ℕ) (i : InTable W t u v) where
  -- the words: that of the bit, and the others
  word_here : get_or (put_bit W u v x t) (W * u + v / 64) 0 ≡ word_of 64 (λ b. cond (eqb b (v % 64)) x (bit (get_or t (W * u + v / 64) 0) b))
  unfolding put_bit
  word_here = get_or-set_same t (W * u + v / 64) _ 0 (omega arith)

  word_rest : (k : ℕ) → k ≢ W * u + v / 64 → get_or (put_bit W u v x t) k 0 ≡ get_or t k 0
  unfolding put_bit
  word_rest k ne = get_or-set_other t (W * u + v / 64) k _ 0 ne

  bit_here : (b : ℕ) → b < 64 → bit (get_or (put_bit W u v x t) (W * u + v / 64) 0) b ≡ cond (eqb b (v % 64)) x (bit (get_or t (W * u + v / 64) 0) b)
  bit_here b l = ap (λ (w : ℕ). bit w b) word_here ∙ bit-word_of 64 (λ b. cond (eqb b (v % 64)) x (bit (get_or t (W * u + v / 64) 0) b)) b l

  pub put_here : table_bit W (put_bit W u v x t) u v ≡ x
  put_here =
      table_in W (put_bit W u v x t) u v i.below i.column
      ∙ bit_here (v % 64) (mod-lt v (zero-lt-suc 63))
      ∙ ap (λ (y : Bool). cond y x (bit (get_or t (W * u + v / 64) 0) (v % 64))) (eq-eqb (v % 64) (v % 64) refl)

  pub put_rest : (p q : ℕ) → ((p ≡ u) × (q ≡ v) → ⊥) → table_bit W (put_bit W u v x t) p q ≡ table_bit W t p q
  put_rest p q ne =
      table_agree W (put_bit W u v x t) t p q
      (λ l h. table_in W (put_bit W u v x t) p q l h ∙ go h (cases_eq (W * p + q / 64) (W * u + v / 64)) ∙ sym (table_in W t p q l h))
    where
      same : q < 64 * W → W * p + q / 64 ≡ W * u + v / 64 → q % 64 ≢ v % 64
      same h e d =
          let r : (p ≡ u) × (q / 64 ≡ v / 64) = place_unique W p (q / 64) u (v / 64) (omega arith) (omega (arith, i.column)) e in
          ne (r.0, omega arith)

      go : q < 64 * W → (W * p + q / 64 ≡ W * u + v / 64) ⊎ (W * p + q / 64 ≢ W * u + v / 64)
          → bit (get_or (put_bit W u v x t) (W * p + q / 64) 0) (q % 64) ≡ bit (get_or t (W * p + q / 64) 0) (q % 64)
      go h (inl e) =
          ap (λ (k : ℕ). bit (get_or (put_bit W u v x t) k 0) (q % 64)) e
          ∙ bit_here (q % 64) (mod-lt q (zero-lt-suc 63))
          ∙ ap (λ (y : Bool). cond y x (bit (get_or t (W * u + v / 64) 0) (q % 64))) (ne_eqb (q % 64) (v % 64) (same h e))
          ∙ ap (λ (k : ℕ). bit (get_or t k 0) (q % 64)) (sym e)
      go h (inr e) = ap (λ (w : ℕ). bit w (q % 64)) (word_rest (W * p + q / 64) e)

-- ---- a put into what is encoded

-- bit b of word v / 64 is number v where b is v % 64
number_is : (v b : ℕ) → b < 64 → eqb (64 * (v / 64) + b) v ≡ eqb b (v % 64)
number_is v b l = go (cases_eq b (v % 64))
  where
    go : (b ≡ v % 64) ⊎ (b ≢ v % 64) → eqb (64 * (v / 64) + b) v ≡ eqb b (v % 64)
    go (inl e) = eq-eqb (64 * (v / 64) + b) v (omega arith) ∙ sym (eq-eqb b (v % 64) e)
    go (inr e) = ne_eqb (64 * (v / 64) + b) v (λ q. e (omega arith)) ∙ sym (ne_eqb b (v % 64) e)

-- A BIT PUT INTO AN ENCODED ROW, which is row 0 of a table
pub put_row_lem : (W v : ℕ) (x : Bool) (f : ℕ → Bool) (r : List ℕ) → v < 64 * W
    → put_bit W 0 v x (overwrite (encode_row W f) r) ≡ overwrite (encode_row W (λ q. cond (eqb q v) x (f q))) r
unfolding put_bit encode_row
put_row_lem W v x f r h =
    let e : W * 0 + v / 64 ≡ v / 64 = omega arith in
    ap (λ (i : ℕ). set s i (word_of 64 (λ b. cond (eqb b (v % 64)) x (bit (get_or s i 0) b)))) e
    ∙ fill_put (λ w. word_of 64 (λ b. f (64 * w + b))) (λ w. word_of 64 (λ b. g (64 * w + b))) W r (v / 64) _ (omega arith) here rest
  where
    s : List ℕ
    s = overwrite (encode_row W f) r

    g : ℕ → Bool
    g q = cond (eqb q v) x (f q)

    here : word_of 64 (λ b. cond (eqb b (v % 64)) x (bit (get_or s (v / 64) 0) b)) ≡ word_of 64 (λ b. g (64 * (v / 64) + b))
    here =
        word_of_ext 64 (λ b. cond (eqb b (v % 64)) x (bit (get_or s (v / 64) 0) b)) (λ b. g (64 * (v / 64) + b))
        (λ b l. ap₂ (λ (y z : Bool). cond y x z) (sym (number_is v b l))
        (ap (λ (w : ℕ). bit w b) (encode_row_word W f r (v / 64) (omega arith)) ∙ bit-word_of 64 (λ b. f (64 * (v / 64) + b)) b l))

    rest : (k : ℕ) → k < W → k ≢ v / 64 → word_of 64 (λ b. f (64 * k + b)) ≡ word_of 64 (λ b. g (64 * k + b))
    rest k m ne =
        word_of_ext 64 (λ b. f (64 * k + b)) (λ b. g (64 * k + b))
        (λ b l. sym (ap (λ (y : Bool). cond y x (f (64 * k + b))) (ne_eqb (64 * k + b) v (λ q. ne (omega arith)))))

-- A BIT PUT INTO AN ENCODED TABLE
pub put_table : (W u v : ℕ) (x : Bool) (f : ℕ → ℕ → Bool) (t : List ℕ) → u < 64 * W → v < 64 * W
    → put_bit W u v x (overwrite (encode_table W f) t) ≡ overwrite (encode_table W (λ p q. cond (eqb p u && eqb q v) x (f p q))) t
unfolding put_bit encode_table
put_table W u v x f t d h =
    fill_put (λ k. word_of 64 (λ b. f (k / W) (64 * (k % W) + b))) (λ k. word_of 64 (λ b. g (k / W) (64 * (k % W) + b))) (W * (64 * W)) t i _ inside here rest
  where
    s : List ℕ
    s = overwrite (encode_table W f) t

    i : ℕ
    i = W * u + v / 64

    g : ℕ → ℕ → Bool
    g p q = cond (eqb p u && eqb q v) x (f p q)

    column : v / 64 < W
    column = omega arith

    inside : i < W * (64 * W)
    inside = place_lt W u (v / 64) d column

    here : word_of 64 (λ b. cond (eqb b (v % 64)) x (bit (get_or s i 0) b)) ≡ word_of 64 (λ b. g (i / W) (64 * (i % W) + b))
    here =
        word_of_ext 64 (λ b. cond (eqb b (v % 64)) x (bit (get_or s i 0) b)) (λ b. g u (64 * (v / 64) + b))
        (λ b l. ap₂ (λ (y z : Bool). cond y x z) (sym (ap₂ (λ (y z : Bool). y && z) (eq-eqb u u refl) (number_is v b l)))
        (ap (λ (w : ℕ). bit w b) (encode_table_word W f t i inside)
        ∙ bit-word_of 64 (λ b. f (i / W) (64 * (i % W) + b)) b l
        ∙ ap₂ (λ (p k : ℕ). f p (64 * k + b)) (place_row W u (v / 64) column) (place_word W u (v / 64) column)))
        ∙ sym (ap₂ (λ (p k : ℕ). word_of 64 (λ b. g p (64 * k + b))) (place_row W u (v / 64) column) (place_word W u (v / 64) column))

    out : (k : ℕ) → k < W * (64 * W) → k ≢ i → (b : ℕ) → b < 64 → (eqb (k / W) u && eqb (64 * (k % W) + b) v) ≡ false
    out k m ne b l = go (cases_eq (k / W) u) (cases_eq (64 * (k % W) + b) v)
      where
        go : (k / W ≡ u) ⊎ (k / W ≢ u) → (64 * (k % W) + b ≡ v) ⊎ (64 * (k % W) + b ≢ v) → (eqb (k / W) u && eqb (64 * (k % W) + b) v) ≡ false
        go (inl p) (inl q) =
            let w : k % W ≡ v / 64 = omega arith in
            absurd (ne (sym (place_is W k m) ∙ ap₂ (λ (a c : ℕ). W * a + c) p w))
        go (inl p) (inr q) = ap₂ (λ (y z : Bool). y && z) (eq-eqb (k / W) u p) (ne_eqb (64 * (k % W) + b) v q)
        go (inr p) q = ap (λ (y : Bool). y && eqb (64 * (k % W) + b) v) (ne_eqb (k / W) u p)

    rest : (k : ℕ) → k < W * (64 * W) → k ≢ i → word_of 64 (λ b. f (k / W) (64 * (k % W) + b)) ≡ word_of 64 (λ b. g (k / W) (64 * (k % W) + b))
    rest k m ne =
        word_of_ext 64 (λ b. f (k / W) (64 * (k % W) + b)) (λ b. g (k / W) (64 * (k % W) + b))
        (λ b l. sym (ap (λ (y : Bool). cond y x (f (k / W) (64 * (k % W) + b))) (out k m ne b l)))
