-- Rows and tables with the same bits are the same words, and each is what its bits encode. For any number of words per row. Assumes nothing.
use mathlib.Core.Path.{◌≡◌, sym, ap, ◌∙◌}
use mathlib.Core.Bool.{Bool}
use mathlib.Core.List.{List}
use Prim.Native.Nat.{ℕ, ◌+◌, ◌*◌, ◌/◌, ◌%◌, ◌^◌, ◌≤◌, ◌<◌}
use native.Mathlib.Omega.{arith}
use lib.ListN.{length, get_or}
use Rattle.lists.specs.Lists.{overwrite}
use Rattle.lists.proofs.Fills.{fill_ext, overwrite_twice}
use Rattle.words.specs.Bits.{bit, word_of}
use Rattle.words.proofs.Bits.{word_is, word_ext, word_of_ext}
use Rattle.rows.specs.Rows.{row_bit, table_bit, encode_row, encode_table}
use Rattle.lists.proofs.Buffers.{buffer_ext, fill_whole}
use Rattle.rows.proofs.Places.{row_lt, word_lt, place_is}
use Rattle.rows.proofs.Written.{row_word, table_word, encode_row_length}

-- ---- rows

-- a word of a row is the word of the row's bits there
pub row_word_is : (W : ℕ) (row : List ℕ) (j : ℕ) → j < W → get_or row j 0 < 2 ^ 64 → get_or row j 0 ≡ word_of 64 (λ b. row_bit W row (64 * j + b))
row_word_is W row j h fits = word_is 64 (get_or row j 0) (λ b. row_bit W row (64 * j + b)) fits (λ b l. sym (row_word W row j b h l))

-- a row is what its bits encode
pub row_whole : (W : ℕ) (l : List ℕ) → W ≤ length l → ((i : ℕ) → i < W → get_or l i 0 < 2 ^ 64) → l ≡ overwrite (encode_row W (row_bit W l)) l
unfolding encode_row
row_whole W l n fits = fill_whole (λ w. word_of 64 (λ b. row_bit W l (64 * w + b))) W l n (λ j h. row_word_is W l j h (fits j h))

pub encode_row_ext : (W : ℕ) (f g : ℕ → Bool) → ((v : ℕ) → v < 64 * W → f v ≡ g v) → encode_row W f ≡ encode_row W g
unfolding encode_row
encode_row_ext W f g h =
    fill_ext (λ w. word_of 64 (λ b. f (64 * w + b))) (λ w. word_of 64 (λ b. g (64 * w + b))) W
    (λ w l. word_of_ext 64 (λ b. f (64 * w + b)) (λ b. g (64 * w + b)) (λ b m. h (64 * w + b) (omega arith)))

-- a second row over the first, as a caller of two functions has it
pub row_over : (W : ℕ) (f g : ℕ → Bool) (l : List ℕ) → overwrite (encode_row W f) (overwrite (encode_row W g) l) ≡ overwrite (encode_row W f) l
row_over W f g l = overwrite_twice (encode_row W f) (encode_row W g) l (omega (arith, encode_row_length W f, encode_row_length W g))

-- ---- tables

-- bit b of place i
table_place : (W : ℕ) (t : List ℕ) (i : ℕ) → i < W * (64 * W) → (b : ℕ) → b < 64 → table_bit W t (i / W) (64 * (i % W) + b) ≡ bit (get_or t i 0) b
table_place W t i l b m = table_word W t (i / W) (i % W) b (row_lt W i l) (word_lt W i l) m ∙ ap (λ (k : ℕ). bit (get_or t k 0) b) (place_is W i l)

pub table_ext : (W : ℕ) (s t : List ℕ) → length s ≡ length t
    → ((i : ℕ) → i < W * (64 * W) → get_or s i 0 < 2 ^ 64) → ((i : ℕ) → i < W * (64 * W) → get_or t i 0 < 2 ^ 64)
    → ((u v : ℕ) → u < 64 * W → v < 64 * W → table_bit W s u v ≡ table_bit W t u v) → ((i : ℕ) → W * (64 * W) ≤ i → get_or s i 0 ≡ get_or t i 0) → s ≡ t
table_ext W s t e ws wt h rest =
    buffer_ext (W * (64 * W)) s t e
    (λ i l. word_ext 64 (get_or s i 0) (get_or t i 0) (ws i l) (wt i l)
    (λ b m. sym (table_place W s i l b m) ∙ h (i / W) (64 * (i % W) + b) (row_lt W i l) (omega (arith, word_lt W i l)) ∙ table_place W t i l b m))
    rest

-- a table is what its bits encode
pub table_whole : (W : ℕ) (l : List ℕ) → W * (64 * W) ≤ length l → ((i : ℕ) → i < W * (64 * W) → get_or l i 0 < 2 ^ 64) → l ≡ overwrite (encode_table W (table_bit W l)) l
unfolding encode_table
table_whole W l n fits =
    fill_whole (λ i. word_of 64 (λ b. table_bit W l (i / W) (64 * (i % W) + b))) (W * (64 * W)) l n
    (λ i h. word_is 64 (get_or l i 0) (λ b. table_bit W l (i / W) (64 * (i % W) + b)) (fits i h) (λ b m. sym (table_place W l i h b m)))

pub encode_table_ext : (W : ℕ) (f g : ℕ → ℕ → Bool) → ((u v : ℕ) → u < 64 * W → v < 64 * W → f u v ≡ g u v) → encode_table W f ≡ encode_table W g
unfolding encode_table
encode_table_ext W f g h =
    fill_ext (λ i. word_of 64 (λ b. f (i / W) (64 * (i % W) + b))) (λ i. word_of 64 (λ b. g (i / W) (64 * (i % W) + b))) (W * (64 * W))
    (λ i l. word_of_ext 64 (λ b. f (i / W) (64 * (i % W) + b)) (λ b. g (i / W) (64 * (i % W) + b))
    (λ b m. h (i / W) (64 * (i % W) + b) (row_lt W i l) (omega (arith, word_lt W i l))))
