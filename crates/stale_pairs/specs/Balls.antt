-- BALLS: the codes that a search finds nearer than so many handovers, and how whole words of them
-- say which pairs are stale. Nobody has to believe this file. Assumes nothing.
use Rattle.std.specs.Prelude.{⊤, ◌≡◌, Bool, ◌&&◌, List, ℕ, ◌+◌, ◌*◌, ◌^◌, ◌≤◌, ◌<◌, eqb, ltb, length, get_or}
use Rattle.words.specs.Bits.{word_of}
use Rattle.rows.specs.Rows.{table_bit}
use Rattle.stale_pairs.specs.declared.TheConstants.{SHORT}
use Rattle.stale_pairs.specs.declared.Choice.{Choice}
use Rattle.stale_pairs.specs.declared.Choice.TheVariants.{Members, ShortBalls, ManyBalls}

-- word j of the codes to which the way from u is below d
unfoldable pub nearer : (ℕ → ℕ → ℕ) → ℕ → ℕ → ℕ → ℕ
nearer way u d j = word_of 64 (λ b. ltb (way u (64 * j + b)) d)

-- what is answered for each way d of at most D is that word
abbrev pub TakesWord : ℕ → ℕ → ℕ → (ℕ → ℕ → ℕ → ℕ → Type 0) → (ℕ → ℕ → ℕ) → Type 0
TakesWord u j D answers way = (d r : ℕ) → d ≤ D → answers u d j r → r ≡ nearer way u d j

-- row k of the rings has the codes whose hop is k - 1, for each k up to `most`
unfoldable pub ring : List ℕ → ℕ → ℕ → ℕ → Bool
ring hops most k v = let h = get_or hops v 0 in ltb h most && eqb k (h + 1)

-- n words have rows of balls up to `most`, each for a number of handovers that a table has a row
-- for
pub record BallsFit (W most n : ℕ) : Type 0 where
  pub rows : W * most + W ≤ n
  pub within : most < 64 * W
  pub memory : n < 2 ^ 60

-- a table whose row k has the codes with a hop below k, for each k up to `most`
pub record AreBalls (W most : ℕ) (hops balls : List ℕ) : Type 0 where
  pub rows : W * most + W ≤ length balls
  pub within : most < 64 * W
  pub ball : (k v : ℕ) → k ≤ most → v < 64 * W → table_bit W balls k v ≡ ltb (get_or hops v 0) k

-- whole words are chosen only where the balls fit: into few words, or into n
abbrev pub ChoiceFits : ℕ → ℕ → ℕ → Choice → Type 0
ChoiceFits W most n Members = ⊤
ChoiceFits W most n ShortBalls = BallsFit W most SHORT
ChoiceFits W most n ManyBalls = BallsFit W most n
