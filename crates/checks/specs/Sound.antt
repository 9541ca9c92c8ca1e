-- WHEN LINKS AND FIGURES ARE SOUND (rule 1.8; refusal 2): as tests, and as what they mean.
-- `sound_links_iff` and `sound_figures_iff` (proofs/Theorems) say that they agree.
-- Assumes nothing.
use Rattle.std.specs.Prelude.{◌≡◌, Bool, not, ◌&&◌, ◌||◌, ℕ, ◌<◌, T, eqb, ltb}
use Rattle.lists.specs.Lists.{range, allb, countb}
use Rattle.graph.specs.Network.{Network, IsSound, delivers}
use Rattle.graph.specs.Chart.{Pairs, count_pairs}
use Rattle.map.specs.Bits.{sound_pair, sound_link, sound_yards}

-- every bit that is set passes the test: bits of n rows of n columns
unfoldable pub all_set : ℕ → (ℕ → ℕ → Bool) → (ℕ → ℕ → Bool) → Bool
all_set n bits test = allb (λ u. allb (λ v. not (bits u v) || test u v) (range n)) (range n)

-- n is the number of codes, open and closed: so many rows and columns a table has.
-- the links are sound: as many codes are open as the record says, every yard is open, and every bit of the link table may stand
unfoldable pub sound_links : ℕ → Network → ℕ → Bool
sound_links n G number = eqb number (countb G.is_open (range n)) && sound_yards n G && all_set n G.linked (sound_link G)

-- the figures are sound: every bit of the pair table may stand, they are as many as the record says, and the chain is below the number of codes
unfoldable pub sound_figures : ℕ → Network → Pairs → ℕ → ℕ → Bool
sound_figures n G P chain count =
    all_set n P (sound_pair G)
    && eqb count (count_pairs (range n) P)
    && ltb chain n

-- ---- the same, in words

pub record AreLinksSound (n : ℕ) (G : Network) (number : ℕ) : Type 0 where
  pub is_sound : IsSound G
  pub counted : number ≡ countb G.is_open (range n)

pub record AreFiguresSound (n : ℕ) (G : Network) (P : Pairs) (chain count : ℕ) : Type 0 where
  pub rising : (u v : ℕ) → u < n → v < n → T (P u v) → u < v
  pub ends : (u v : ℕ) → u < n → v < n → T (P u v) → T (delivers G u) × T (delivers G v)
  pub counted : count ≡ count_pairs (range n) P
  pub below : chain < n
