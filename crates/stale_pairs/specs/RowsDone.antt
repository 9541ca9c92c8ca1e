-- WHAT HOLDS IN THE MIDST OF DROPPING, whichever rows are done, in whatever order and some of them
-- again: the rows done hold exactly their pairs that stay; the others hold the pairs that they
-- held; every word past the table is as it was; and those gone with those left are the pairs that
-- were there. A pair of u and v is stale where the way from u to v is below D. This is to be
-- believed by whoever asks what dropping a pair means: each loop that drops ensures it. Assumes
-- nothing.
use Rattle.std.specs.Prelude.{◌≡◌, Bool, true, false, not, ◌&&◌, List, ℕ, ◌+◌, ◌*◌, ◌≤◌, ◌<◌}
use Rattle.std.specs.Prelude.{ltb, length, get_or}
use Rattle.lists.specs.Lists.{range}
use Rattle.graph.specs.Chart.{count_pairs}
use Rattle.rows.specs.Rows.{table_bit}

-- a table of 64 W rows of W words, old and new, of which the rows that pass the test are done
pub record RowsDone (W : ℕ) (way : ℕ → ℕ → ℕ) (D : ℕ) (done : ℕ → Bool) (old new : List ℕ)
    (gone : ℕ) : Type 0 where
  pub size : length new ≡ length old
  pub stay : (u v : ℕ) → u < 64 * W → v < 64 * W → done u ≡ true
      → table_bit W new u v ≡ (table_bit W old u v && not (ltb (way u v) D))
  pub others : (u v : ℕ) → u < 64 * W → v < 64 * W → done u ≡ false
      → table_bit W new u v ≡ table_bit W old u v
  pub behind : (i : ℕ) → W * (64 * W) ≤ i → get_or new i 0 ≡ get_or old i 0
  pub counted : gone + count_pairs (range (64 * W)) (table_bit W new)
      ≡ count_pairs (range (64 * W)) (table_bit W old)
