-- What an emptying leaves: zeros, which have no bit, and a refusal's memory as it was. Assumes nothing.
use mathlib.Core.Path.{◌≡◌, refl, sym, ap, ◌∙◌}
use mathlib.Core.Logic.{◌⊎◌, inl, inr}
use mathlib.Core.Bool.{false, ◌&&◌, and-false}
use mathlib.Core.List.{List, [], ◌∷◌}
use Prim.Native.Nat.{ℕ, ◌*◌, ◌/◌, ◌%◌, ◌≤◌, ◌<◌}
use native.Mathlib.Omega.{arith}
use lib.Dec.{ltb}
use lib.ListN.{length}
use borrow.Author.Tests.{le-leb, lt-leb}
use Rattle.std.proofs.lemmas.Bool.{cases_lt}
use Rattle.lists.specs.Lists.{from, range, mapl, overwrite, first_of}
use Rattle.lists.proofs.Fills.{get_d_range, fill_ext}
use Rattle.words.specs.Bits.{bit, word_of}
use Rattle.words.proofs.Bits.{bit_of_zero, word_of-none}
use Rattle.rows.specs.Rows.{row_bit, table_bit, encode_row, encode_table}
use Rattle.rows.proofs.Written.{row_in, row_past, table_read}
use Rattle.map.specs.Memory.{Shape, table_words, base}
use Rattle.std.specs.Prelude.{Ok, Err}
use Rattle.outcome.specs.Answers.{numbered, leaves, unless}
use Rattle.map.specs.Empty.{zeros, empty_record, empty_refusal, empty_call}
use Rattle.map.specs.declared.Record.{Record}

-- ---- zeros

-- a row without members is zeros
pub none-zeros : (n : ℕ) → encode_row n (λ v. false) ≡ zeros n
unfolding encode_row zeros
none-zeros n = fill_ext (λ w. word_of 64 (λ b. false)) (λ i. 0) n (λ w l. word_of-none 64)

-- no bit of a row or table of zeros is set
pub row_zeros : (W v : ℕ) → row_bit W (zeros W) v ≡ false
unfolding zeros
row_zeros W v = go (cases_lt v (64 * W))
  where
    go : (v < 64 * W) ⊎ (64 * W ≤ v) → row_bit W (mapl (λ i. 0) (range W)) v ≡ false
    go (inl h) = row_in W (mapl (λ i. 0) (range W)) v h ∙ ap (λ (w : ℕ). bit w (v % 64)) (get_d_range (λ i. 0) W (v / 64) 0 (omega arith)) ∙ bit_of_zero (v % 64)
    go (inr h) = row_past W (mapl (λ i. 0) (range W)) v h

pub table_zeros : (W : ℕ) (old : List ℕ) (u v : ℕ) → table_bit W (overwrite (zeros (W * (64 * W))) old) u v ≡ false
unfolding zeros encode_table
table_zeros W old u v =
    ap (λ (new : List ℕ). table_bit W (overwrite new old) u v) (sym same)
    ∙ table_read W (λ p q. false) old u v
    ∙ and-false (ltb u (64 * W) && ltb v (64 * W))
  where
    same : encode_table W (λ p q. false) ≡ mapl (λ i. 0) (range (W * (64 * W)))
    same = fill_ext (λ i. word_of 64 (λ b. false)) (λ i. 0) (W * (64 * W)) (λ i l. word_of-none 64)

-- ---- what the code leaves

-- the record of zeros, as the code writes it
pub none_record : record { members = 0 ∷ 0 ∷ 0 ∷ 0 ∷ []; number = 0; chain = 0; count = 0; yards = 0 ∷ 0 ∷ 0 ∷ 0 ∷ [] } ≡ empty_record base.words
unfolding empty_record zeros mapl range from
none_record = refl

module _ (K : Shape) (links pairs : List ℕ) where
  pub short_links : length links < table_words K → leaves (Err 1) (links, pairs) ≡ empty_call K links pairs
  unfolding empty_call unless numbered empty_refusal first_of
  short_links h = simp (lt-leb (table_words K) (length links) h)

  pub short_pairs : length pairs < table_words K → leaves (Err 1) (links, pairs) ≡ empty_call K links pairs
  unfolding empty_call unless numbered empty_refusal first_of
  short_pairs h = simp (lt-leb (table_words K) (length pairs) h, and-false)

  pub both_cleared : {none : Record} {l p : List ℕ} → table_words K ≤ length links → table_words K ≤ length pairs → none ≡ empty_record K.words
      → l ≡ overwrite (encode_row (table_words K) (λ v. false)) links → p ≡ overwrite (encode_row (table_words K) (λ v. false)) pairs
      → leaves (Ok none) (l, p) ≡ empty_call K links pairs
  unfolding empty_call unless numbered empty_refusal first_of
  both_cleared h k n e f = rw (le-leb (table_words K) (length links) h, le-leb (table_words K) (length pairs) k, n, e, f, none-zeros (table_words K))

-- what the code answers: where the one or the other table is short, and where both are cleared
pub ruleset emptyings = (short_links, short_pairs, both_cleared)
