-- What is written is read: the bits of rows and tables, and of those encoded. For any number of words per row. Assumes nothing.
use mathlib.Core.Path.{◌≡◌, refl, sym, ap, ap₂, ◌∙◌}
use mathlib.Core.Logic.{◌⊎◌, inl, inr}
use mathlib.Core.Bool.{Bool, true, false, ◌&&◌}
use mathlib.Core.List.{List}
use Prim.Native.Nat.{ℕ, ◌+◌, ◌*◌, ◌/◌, ◌%◌, ◌≤◌, ◌<◌}
use native.Mathlib.Nat.{mod-lt, zero-lt-suc, div-add-mod}
use native.Mathlib.Omega.{arith}
use lib.Dec.{T, ltb}
use lib.ListN.{length, get_or, take, drop}
use lib.Seq.{get_or-take, get_or-drop}
use borrow.Author.Tests.{ltb-true, lt-ltb, le-ltb}
use Rattle.std.proofs.lemmas.Bool.{cases_Bool, and_from}
use Rattle.lists.specs.Lists.{overwrite}
use Rattle.lists.proofs.Tests.{true→t}
use Rattle.lists.proofs.Fills.{length_fill, fill_at}
use Rattle.words.specs.Bits.{bit, word_of}
use Rattle.words.proofs.Bits.{bit-word_of}
use Rattle.rows.specs.Rows.{row_bit, table_bit, encode_row, encode_table}
use Rattle.rows.proofs.Places.{place_lt, place_row, place_word}

-- ---- inside and past a row

pub row_in : (W : ℕ) (row : List ℕ) (v : ℕ) → v < 64 * W → row_bit W row v ≡ bit (get_or row (v / 64) 0) (v % 64)
unfolding row_bit
row_in W row v h = let e : ltb v (64 * W) ≡ true = lt-ltb v (64 * W) h in rw e

pub row_past : (W : ℕ) (row : List ℕ) (v : ℕ) → 64 * W ≤ v → row_bit W row v ≡ false
unfolding row_bit
row_past W row v h = let e : ltb v (64 * W) ≡ false = le-ltb v (64 * W) h in rw e

pub table_in : (W : ℕ) (t : List ℕ) (u v : ℕ) → u < 64 * W → v < 64 * W → table_bit W t u v ≡ bit (get_or t (W * u + v / 64) 0) (v % 64)
unfolding table_bit
table_in W t u v l h =
    let d : ltb u (64 * W) ≡ true = lt-ltb u (64 * W) l in
    let e : ltb v (64 * W) ≡ true = lt-ltb v (64 * W) h in
    rw (d, e)

-- two tables that agree wherever there is a bit
pub table_agree : (W : ℕ) (s t : List ℕ) (u v : ℕ) → (u < 64 * W → v < 64 * W → table_bit W s u v ≡ table_bit W t u v) → table_bit W s u v ≡ table_bit W t u v
unfolding table_bit
table_agree W s t u v h = go (cases_Bool (ltb u (64 * W))) (cases_Bool (ltb v (64 * W)))
  where
    go : (ltb u (64 * W) ≡ true) ⊎ (ltb u (64 * W) ≡ false) → (ltb v (64 * W) ≡ true) ⊎ (ltb v (64 * W) ≡ false) → table_bit W s u v ≡ table_bit W t u v
    go (inl d) (inl e) = h (ltb-true u (64 * W) d) (ltb-true v (64 * W) e)
    go (inl d) (inr e) = rw (d, e)
    go (inr d) e = rw d

-- ---- a word at a time

-- bit b of word j of a row, and of row u of a table
pub row_word : (W : ℕ) (row : List ℕ) (j b : ℕ) → j < W → b < 64 → row_bit W row (64 * j + b) ≡ bit (get_or row j 0) b
row_word W row j b h l =
    let q : (64 * j + b) / 64 ≡ j = omega arith in
    let r : (64 * j + b) % 64 ≡ b = omega arith in
    row_in W row (64 * j + b) (omega arith) ∙ ap₂ (λ (x y : ℕ). bit (get_or row x 0) y) q r

pub table_word : (W : ℕ) (t : List ℕ) (u j b : ℕ) → u < 64 * W → j < W → b < 64 → table_bit W t u (64 * j + b) ≡ bit (get_or t (W * u + j) 0) b
table_word W t u j b d h l =
    let q : (64 * j + b) / 64 ≡ j = omega arith in
    let r : (64 * j + b) % 64 ≡ b = omega arith in
    table_in W t u (64 * j + b) d (omega arith) ∙ ap₂ (λ (x y : ℕ). bit (get_or t (W * u + x) 0) y) q r

-- ---- a row of a table as a row

-- row 0 is the buffer's start, so a table's function serves a row that is lent by itself
pub table_zero : (W : ℕ) (t : List ℕ) (v : ℕ) → table_bit W t 0 v ≡ row_bit W t v
unfolding table_bit row_bit
table_zero W t v = go (cases_Bool (ltb v (64 * W)))
  where
    go : (ltb v (64 * W) ≡ true) ⊎ (ltb v (64 * W) ≡ false) → table_bit W t 0 v ≡ row_bit W t v
    go (inl e) =
        let h : v < 64 * W = ltb-true v (64 * W) e in
        let i : W * 0 + v / 64 ≡ v / 64 = omega arith in
        table_in W t 0 v (omega arith) h ∙ ap (λ (x : ℕ). bit (get_or t x 0) (v % 64)) i ∙ sym (row_in W t v h)
    go (inr e) = let d : (ltb 0 (64 * W) && false) ≡ false = none (ltb 0 (64 * W)) in rw (e, d)
      where
        none : (b : Bool) → (b && false) ≡ false
        none true = refl
        none false = refl

-- row u, lent as a part of the table
pub row_of_table : (W : ℕ) (t : List ℕ) (u v : ℕ) → u < 64 * W → row_bit W (take W (drop (W * u) t)) v ≡ table_bit W t u v
unfolding table_bit row_bit
row_of_table W t u v l = go (cases_Bool (ltb v (64 * W)))
  where
    go : (ltb v (64 * W) ≡ true) ⊎ (ltb v (64 * W) ≡ false) → row_bit W (take W (drop (W * u) t)) v ≡ table_bit W t u v
    go (inl e) =
        let h : v < 64 * W = ltb-true v (64 * W) e in
        row_in W (take W (drop (W * u) t)) v h
        ∙ ap (λ (x : ℕ). bit x (v % 64)) (get_or-take W (drop (W * u) t) (v / 64) 0 (omega arith) ∙ get_or-drop (W * u) t (v / 64) 0)
        ∙ sym (table_in W t u v l h)
    go (inr e) = let d : ltb u (64 * W) ≡ true = lt-ltb u (64 * W) l in rw (d, e)

-- ---- what is encoded

pub encode_row_length : (W : ℕ) (f : ℕ → Bool) → length (encode_row W f) ≡ W
unfolding encode_row
encode_row_length W f = length_fill (λ w. word_of 64 (λ b. f (64 * w + b))) W

pub encode_table_length : (W : ℕ) (f : ℕ → ℕ → Bool) → length (encode_table W f) ≡ W * (64 * W)
unfolding encode_table
encode_table_length W f = length_fill (λ i. word_of 64 (λ b. f (i / W) (64 * (i % W) + b))) (W * (64 * W))

-- its words, over any buffer
pub encode_row_word : (W : ℕ) (f : ℕ → Bool) (old : List ℕ) (j : ℕ) → j < W → get_or (overwrite (encode_row W f) old) j 0 ≡ word_of 64 (λ b. f (64 * j + b))
unfolding encode_row
encode_row_word W f old j h = fill_at (λ w. word_of 64 (λ b. f (64 * w + b))) old W j 0 h

pub encode_table_word : (W : ℕ) (f : ℕ → ℕ → Bool) (old : List ℕ) (i : ℕ) → i < W * (64 * W)
    → get_or (overwrite (encode_table W f) old) i 0 ≡ word_of 64 (λ b. f (i / W) (64 * (i % W) + b))
unfolding encode_table
encode_table_word W f old i h = fill_at (λ i. word_of 64 (λ b. f (i / W) (64 * (i % W) + b))) old (W * (64 * W)) i 0 h

-- ---- A ROW WRITTEN IS READ, whatever stands behind it

pub row_at : (W : ℕ) (f : ℕ → Bool) (old : List ℕ) (v : ℕ) → v < 64 * W → row_bit W (overwrite (encode_row W f) old) v ≡ f v
row_at W f old v h =
    row_in W (overwrite (encode_row W f) old) v h
    ∙ ap (λ (w : ℕ). bit w (v % 64)) (encode_row_word W f old (v / 64) (omega arith))
    ∙ bit-word_of 64 (λ b. f (64 * (v / 64) + b)) (v % 64) (mod-lt v (zero-lt-suc 63))
    ∙ ap f (div-add-mod v 64)

pub row_read : (W : ℕ) (f : ℕ → Bool) (old : List ℕ) (v : ℕ) → row_bit W (overwrite (encode_row W f) old) v ≡ (ltb v (64 * W) && f v)
unfolding row_bit
row_read W f old v = go (cases_Bool (ltb v (64 * W)))
  where
    go : (ltb v (64 * W) ≡ true) ⊎ (ltb v (64 * W) ≡ false) → row_bit W (overwrite (encode_row W f) old) v ≡ (ltb v (64 * W) && f v)
    go (inl e) = row_at W f old v (ltb-true v (64 * W) e) ∙ sym (ap (λ (b : Bool). b && f v) e)
    go (inr e) = rw e

-- ---- A TABLE WRITTEN IS READ, whatever stands behind it

pub table_at : (W : ℕ) (f : ℕ → ℕ → Bool) (old : List ℕ) (u v : ℕ) → u < 64 * W → v < 64 * W → table_bit W (overwrite (encode_table W f) old) u v ≡ f u v
table_at W f old u v l h =
    let j : v / 64 < W = omega arith in
    table_in W (overwrite (encode_table W f) old) u v l h
    ∙ ap (λ (w : ℕ). bit w (v % 64)) (encode_table_word W f old i (place_lt W u (v / 64) l j))
    ∙ bit-word_of 64 (λ b. f (i / W) (64 * (i % W) + b)) (v % 64) (mod-lt v (zero-lt-suc 63))
    ∙ ap₂ (λ (p k : ℕ). f p (64 * k + v % 64)) (place_row W u (v / 64) j) (place_word W u (v / 64) j)
    ∙ ap (f u) (div-add-mod v 64)
  where
    i : ℕ
    i = W * u + v / 64

pub table_read : (W : ℕ) (f : ℕ → ℕ → Bool) (old : List ℕ) (u v : ℕ) → table_bit W (overwrite (encode_table W f) old) u v ≡ (ltb u (64 * W) && ltb v (64 * W) && f u v)
unfolding table_bit
table_read W f old u v = go (cases_Bool (ltb u (64 * W))) (cases_Bool (ltb v (64 * W)))
  where
    go : (ltb u (64 * W) ≡ true) ⊎ (ltb u (64 * W) ≡ false) → (ltb v (64 * W) ≡ true) ⊎ (ltb v (64 * W) ≡ false)
        → table_bit W (overwrite (encode_table W f) old) u v ≡ (ltb u (64 * W) && ltb v (64 * W) && f u v)
    go (inl d) (inl e) = table_at W f old u v (ltb-true u (64 * W) d) (ltb-true v (64 * W) e) ∙ sym (ap₂ (λ (b c : Bool). b && c && f u v) d e)
    go (inl d) (inr e) = rw (d, e)
    go (inr d) e = rw d

-- ---- what lies within the places is read whole

-- a test that implies its guard needs none
unguarded : (g x : Bool) → (x ≡ true → g ≡ true) → (g && x) ≡ x
unguarded true x h = refl
unguarded false true h = h refl
unguarded false false h = refl

pub row_within : (W : ℕ) (f : ℕ → Bool) (old : List ℕ) → ((v : ℕ) → T (f v) → v < 64 * W) → (v : ℕ) → row_bit W (overwrite (encode_row W f) old) v ≡ f v
row_within W f old low v = row_read W f old v ∙ unguarded (ltb v (64 * W)) (f v) (λ e. lt-ltb v (64 * W) (low v (true→t e)))

pub table_within : (W : ℕ) (f : ℕ → ℕ → Bool) (old : List ℕ) → ((u v : ℕ) → T (f u v) → (u < 64 * W) × (v < 64 * W)) → (u v : ℕ)
    → table_bit W (overwrite (encode_table W f) old) u v ≡ f u v
table_within W f old low u v =
    table_read W f old u v
    ∙ unguarded (ltb u (64 * W) && ltb v (64 * W)) (f u v)
    (λ e. let l = low u v (true→t e) in and_from _ _ (lt-ltb u (64 * W) l.0) (lt-ltb v (64 * W) l.1))
