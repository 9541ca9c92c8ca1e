-- A PAIR TABLE AND THE NUMBER OF ITS PAIRS, over lists of words, for any number of words per row: what the code's steps do to them.
-- Assumes nothing.
use Rattle.std.specs.Prelude.{◌≡◌, cond, not, ◌&&◌, ◌||◌, List, ℕ, ◌*◌, ◌≤◌, ◌<◌, eqb, ltb, length}
use Rattle.lists.specs.Lists.{range, overwrite}
use Rattle.graph.specs.Chart.{Pairs, count_pairs}
use Rattle.rows.specs.Rows.{row_bit, table_bit, encode_table}

-- a pair table and the number of its pairs
pub record Tally : Type 0 where
  pub pairs : List ℕ
  pub count : ℕ

abbrev pub tally : List ℕ → ℕ → Tally
tally t n = record { pairs = t; count = n }

-- the pairs of r with each member of the row `last`, as u < v
unfoldable pub pairs_with : ℕ → List ℕ → ℕ → Pairs
pairs_with W last r u v = ltb u v && ((eqb u r && row_bit W last v) || (eqb v r && row_bit W last u))

-- the table with the pairs P, and their number
unfoldable pub tally_of : ℕ → Pairs → List ℕ → Tally
tally_of W P t = tally (overwrite (encode_table W P) t) (count_pairs (range (64 * W)) P)

-- the pairs after a search from r with the last layer `last` at distance e, c being the candidate: r's own alone if e is above c,
-- r's own added if e is c and not 0
unfoldable pub settle_of : ℕ → List ℕ → ℕ → ℕ → ℕ → Tally → Tally
settle_of W last r e c t =
    cond (ltb c e) (tally_of W (pairs_with W last r) t.pairs)
    (cond (eqb e c && not (eqb e 0)) (tally_of W (λ u v. table_bit W t.pairs u v || pairs_with W last r u v) t.pairs) t)

-- ---- what the functions ask

-- a whole table whose pairs are as many as the count
pub record Counted (W : ℕ) (pairs : List ℕ) (count : ℕ) : Type 0 where
  pub positive : 0 < W
  pub most : W < 513
  pub table : W * (64 * W) ≤ length pairs
  pub counted : count ≡ (count_pairs (range (64 * W)) (table_bit W pairs))
