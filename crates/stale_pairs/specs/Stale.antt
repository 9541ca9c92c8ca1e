-- STALE PAIRS, over lists of words, for any number of words per row: which stored pairs stay after
-- a search, and what the code's steps do to the table. Assumes nothing.
use Rattle.std.specs.Prelude.{◌≡◌, Bool, true, false, cond, not, ◌&&◌, List, ℕ, ◌+◌, ◌*◌, ◌^◌, ◌≤◌, ◌<◌, min, eqb, ltb, length, get_or}
use Rattle.lists.specs.Lists.{range, countb, sum_of, max_of, overwrite}
use Rattle.words.specs.Bits.{bit, word_of}
use Rattle.graph.specs.Chart.{Pairs, count_pairs}
use Rattle.graph.specs.Opening.{staying_pairs, shrunk_candidate}
use Rattle.rows.specs.Rows.{row_bit, table_bit, encode_table}
use Rattle.pairs.specs.Pairs.{Tally, tally, tally_of}
use Rattle.stale_pairs.specs.declared.sift.Sifted.{Sifted}
use Rattle.stale_pairs.specs.declared.Dropping.{Dropping}
use Rattle.stale_pairs.specs.RowsDone.{RowsDone}

-- the way by the hops of a search: from u to where it began, and on to v
abbrev pub way_by : List ℕ → ℕ → ℕ → ℕ
way_by hops u v = get_or hops u 0 + get_or hops v 0

-- the lesser of those by the hops of two searches
abbrev pub way_by_either : List ℕ → List ℕ → ℕ → ℕ → ℕ
way_by_either near far u v = min (way_by near u v) (way_by far u v)

-- what is answered for each bit b of one word of a row, which stands for the pair of u and first +
-- b, is the way from one to the other, and no more than D
abbrev pub TellsWord : ℕ → ℕ → ℕ → (ℕ → ℕ → ℕ → Type 0) → (ℕ → ℕ → ℕ) → Type 0
TellsWord u first D answers way = (b r : ℕ) → b < 64 → answers u (first + b) r → r ≡ min D (way u (first + b))

-- a table without its stale pairs, and the greatest way that was there, none above D
pub record Dropped : Type 0 where
  pub left : Tally
  pub way : ℕ

abbrev pub dropped : Tally → ℕ → Dropped
dropped t w = record { left = t; way = w }

unfoldable pub drop_of : ℕ → (ℕ → ℕ → ℕ) → ℕ → List ℕ → Dropped
drop_of W way D t = let P = table_bit W t in dropped (tally_of W (staying_pairs way D P) t) (shrunk_candidate (range (64 * W)) way D P)

-- ---- the same for some rows

-- rows done: the table after them with the number of their pairs that stay, their greatest way, and
-- how many of their pairs are gone
pub record RowsDropped : Type 0 where
  pub left : Dropped
  pub gone : ℕ

abbrev pub rows_dropped : List ℕ → ℕ → ℕ → ℕ → RowsDropped
rows_dropped t g n w = record { left = dropped (tally t n) w; gone = g }

-- the pairs that go: those that `staying_pairs` leaves out
unfoldable pub stale_pairs : (ℕ → ℕ → ℕ) → ℕ → Pairs → Pairs
stale_pairs way D P u v = P u v && ltb (way u v) D

-- the pairs when the rows that pass the test are done: those rows have their pairs that stay, the
-- others all of theirs
unfoldable pub pairs_after : (ℕ → Bool) → (ℕ → ℕ → ℕ) → ℕ → Pairs → Pairs
pairs_after done way D P u v = cond (done u) (staying_pairs way D P u v) (P u v)

-- of the rows that pass a test those below n
abbrev pub among : ℕ → (ℕ → Bool) → ℕ → Bool
among n test u = ltb u n && test u

-- a number of each row that passes the test, and 0 of any other
abbrev pub where_done : (ℕ → Bool) → (ℕ → ℕ) → ℕ → ℕ
where_done done f u = cond (done u) (f u) 0

module _ (W : ℕ) (way : ℕ → ℕ → ℕ) (D : ℕ) where
  -- of row u: how many pairs go, how many stay, and the greatest way
  unfoldable pub row_gone : Pairs → ℕ → ℕ
  row_gone P u = countb (stale_pairs way D P u) (range (64 * W))

  unfoldable pub row_stays : Pairs → ℕ → ℕ
  row_stays P u = countb (staying_pairs way D P u) (range (64 * W))

  unfoldable pub row_way : Pairs → ℕ → ℕ
  row_way P u = max_of (λ v. cond (P u v) (min D (way u v)) 0) (range (64 * W))

  -- the rows done that pass the test
  unfoldable pub drop_set_of : (ℕ → Bool) → List ℕ → RowsDropped
  drop_set_of done t =
      let P = table_bit W t in
      rows_dropped (overwrite (encode_table W (pairs_after done way D P)) t) (sum_of (where_done done (row_gone P)) (range (64 * W)))
      (sum_of (where_done done (row_stays P)) (range (64 * W))) (max_of (where_done done (row_way P)) (range (64 * W)))

-- one word of a row, whose bit b stands for the pair of u and first + b: its members that stay,
-- those that go, and the greatest way of its members
unfoldable pub staying_bit : (ℕ → ℕ → ℕ) → ℕ → ℕ → ℕ → ℕ → ℕ → Bool
staying_bit way D u first x b = bit x b && not (ltb (way u (first + b)) D)

unfoldable pub stale_bit : (ℕ → ℕ → ℕ) → ℕ → ℕ → ℕ → ℕ → ℕ → Bool
stale_bit way D u first x b = bit x b && ltb (way u (first + b)) D

unfoldable pub greatest_bit : (ℕ → ℕ → ℕ) → ℕ → ℕ → ℕ → ℕ → ℕ
greatest_bit way D u first x = max_of (λ b. cond (bit x b) (min D (way u (first + b))) 0) (range 64)

-- the word of those that stay, how many go and how many stay, and that way
pub record WordSifted : Type 0 where
  pub word : ℕ
  pub gone : ℕ
  pub kept : ℕ
  pub way : ℕ

abbrev pub sifted : ℕ → ℕ → ℕ → ℕ → WordSifted
sifted y g k w = record { word = y; gone = g; kept = k; way = w }

unfoldable pub sift_of : (ℕ → ℕ → ℕ) → ℕ → ℕ → ℕ → ℕ → WordSifted
sift_of way D u first x =
    sifted (word_of 64 (staying_bit way D u first x)) (countb (stale_bit way D u first x) (range 64))
    (countb (staying_bit way D u first x) (range 64)) (greatest_bit way D u first x)

-- what is answered for a word of a row is what sifting it leaves
abbrev pub Sifts : ℕ → ℕ → (ℕ → ℕ → ℕ → Sifted → Type 0) → (ℕ → ℕ → ℕ) → Type 0
Sifts W D answers way =
    (x u j : ℕ) (r : Sifted) → x < 2 ^ 64 → u < 64 * W → j < W → answers x u j r
    → sifted r.word r.gone r.kept r.way ≡ sift_of way D u (64 * j) x

-- a function that may be asked of each word of a table, and sifts it, whatever the way and the
-- chain are by which it does
abbrev pub IsSifter : ℕ → (ℕ → ℕ → ℕ → Type 0) → (ℕ → ℕ → ℕ → Sifted → Type 0) → Type 0
IsSifter W asked answers =
    ((x u j : ℕ) → x < 2 ^ 64 → u < 64 * W → j < W → asked x u j)
    × (way : ℕ → ℕ → ℕ) × (D : ℕ) × Sifts W D answers way

-- by whatever way and chain it sifts, the rows that pass the test are done by it
abbrev pub Drops : ℕ → (ℕ → ℕ → ℕ → Sifted → Type 0) → (ℕ → Bool) → List ℕ → List ℕ
    → Dropping → Type 0
Drops W answers done old new r =
    (way : ℕ → ℕ → ℕ) (D : ℕ) → Sifts W D answers way
    → (rows_dropped new r.gone r.count r.way ≡ drop_set_of W way D done old)
    × RowsDone W way D done old new r.gone

-- the rows from u to p have no pair, and stand among the first n
pub record Bare (W n : ℕ) (pairs : List ℕ) (u p : ℕ) : Type 0 where
  pub after : u ≤ p
  pub within : p ≤ n
  pub none : (q v : ℕ) → u ≤ q → q < p → v < 64 * W → table_bit W pairs q v ≡ false

-- p is the next member of a row from u on among the first n, and n where there is none
pub record NextLikely (W n : ℕ) (likely : List ℕ) (u p : ℕ) : Type 0 where
  pub after : u ≤ p
  pub within : p ≤ n
  pub none : (q : ℕ) → u ≤ q → q < p → row_bit W likely q ≡ false
  pub here : p < n → row_bit W likely p ≡ true

-- of the first n rows every one with a pair is a member of a row
abbrev pub Covers : ℕ → ℕ → List ℕ → List ℕ → Type 0
Covers W n pairs likely = (u v : ℕ) → u < n → v < 64 * W → row_bit W likely u ≡ false → table_bit W pairs u v ≡ false

-- the pairs that stand in the rows that pass the test, and in the rows below n
unfoldable pub pairs_in : ℕ → (ℕ → Bool) → List ℕ → ℕ
pairs_in W done t = sum_of (where_done done (λ u. countb (table_bit W t u) (range (64 * W)))) (range (64 * W))

unfoldable pub pairs_below : ℕ → ℕ → List ℕ → ℕ
pairs_below W n = pairs_in W (λ u. ltb u n)

-- ---- what the functions ask

-- a whole table, and a hop for each code
pub record HasHops (W : ℕ) (pairs hops : List ℕ) : Type 0 where
  pub positive : 0 < W
  pub most : W < 513
  pub table : W * (64 * W) ≤ length pairs
  pub hopped : 64 * W ≤ length hops
