-- THE SAME NETWORK UNDER OTHER NAMES (rows for codes). Nothing looks at names: not distances, not
-- figures, not rounds, not an update. Proved: `relabelled_distances`, `relabelled_figures`,
-- `relabelled_reckoning`, `relabelled_true` (proofs/Relabelled), `relabelled_update`,
-- `relabelled_closing` (proofs/RelabelledUpdates), `lawful_by` (proofs/RowUpdates), `renamed_is`,
-- `renamed_only` (proofs/Naming), `move_keeps` (proofs/Moving).
-- Assumes nothing.
use Rattle.std.specs.Prelude.{◌≡◌, ◌⊎◌, ◌↔◌, cond, ◌&&◌, ◌||◌, List, [], ◌∷◌, ℕ, max, min, T, eqb}
use Rattle.lists.specs.Lists.{anyb, mapl, memb}
use Rattle.graph.specs.Network.{Network, IsDist}
use Rattle.graph.specs.Distance.{unreached, dist, connected}
use Rattle.graph.specs.Chart.{Chart, chart, ecc, diameter, Pairs, farthest, count_pairs}
use Rattle.graph.specs.Rounds.{Status, waiting, skipped, searched, State}
use Rattle.graph.specs.Opening.{add_depot, Opened, opening}
use Rattle.graph.specs.Linking.{add_link, linking}
use Rattle.graph.specs.Closing.{remove_depot, closing}
use Rattle.graph.specs.Correct.{IsNet, AreSound}
use Rattle.graph.specs.Updates.{Update, opens, joins, applied, steps, Owes}

-- no two open depots have one name
abbrev pub NamesDiffer : Network → (ℕ → ℕ) → Type 0
NamesDiffer G f = (u v : ℕ) → T (G.is_open u) → T (G.is_open v) → f u ≡ f v → u ≡ v

-- H is G with each open depot v named f v: one to one, links and yards kept, listed in the same order.
pub record IsRelabelled (G H : Network) (f : ℕ → ℕ) : Type 0 where
  pub depots : H.depots ≡ mapl f G.depots
  pub apart : NamesDiffer G f
  pub linked : (u v : ℕ) → T (G.is_open u) → T (G.is_open v) → H.linked (f u) (f v) ≡ G.linked u v
  pub yard : (v : ℕ) → T (G.is_open v) → H.is_yard (f v) ≡ G.is_yard v

-- the network G with each depot v named f v (`renamed_is`, and `renamed_only`: where names differ it is the one such network)
unfoldable pub renamed_to : (ℕ → ℕ) → Network → Network
unfolding anyb mapl memb
renamed_to f G =
    let vs = G.depots in
    record {
      depots = mapl f vs;
      is_open = λ c. memb c (mapl f vs);
      is_yard = λ c. anyb (λ v. eqb (f v) c && G.is_yard v) vs;
      linked = λ c d. anyb (λ u. eqb (f u) c && anyb (λ v. eqb (f v) d && G.linked u v) vs) vs;
    }

-- the row `last` moves into the gap that a closed row left; the others stay
unfoldable pub move_row : ℕ → ℕ → ℕ → ℕ
move_row gap last v = cond (eqb v last) gap v

-- a pair in either order: u < v may turn round under other names
abbrev pub either : Pairs → Pairs
either P u v = P u v || P v u

-- P tells the pairs of G that Q tells of H
abbrev pub SamePairs : Network → (ℕ → ℕ) → Pairs → Pairs → Type 0
SamePairs G f P Q = (u v : ℕ) → T (G.is_open u) → T (G.is_open v) → either Q (f u) (f v) ≡ either P u v

-- ---- distances and figures

pub record HaveSameDistances (G H : Network) (f : ℕ → ℕ) : Type 0 where
  pub distance : (u v : ℕ) → T (G.is_open u) → T (G.is_open v) → dist H (f u) (f v) ≡ dist G u v
  pub is_dist : (u v d : ℕ) → T (G.is_open u) → T (G.is_open v) → IsDist G u v d ↔ IsDist H (f u) (f v) d
  pub connected : connected H ≡ connected G

pub record HaveSameFigures (G H : Network) (f : ℕ → ℕ) : Type 0 where
  pub eccentricity : (u : ℕ) → T (G.is_open u) → ecc (chart H) (f u) ≡ ecc (chart G) u
  pub diameter : diameter H ≡ diameter G
  pub farthest : SamePairs G f (farthest G) (farthest H)

-- ---- the rounds

-- a depot stands alike: the same bound or eccentricity, and the reference renamed once there is one
abbrev pub Like : (ℕ → ℕ) → Status → Status → Type 0
Like f (waiting b g) (waiting b' g') = (b ≡ b') × ((b ≡ unreached) ⊎ (f g ≡ g'))
Like f (waiting b g) (skipped b' g') = ⊥
Like f (waiting b g) (searched e) = ⊥
Like f (skipped b g) (waiting b' g') = ⊥
Like f (skipped b g) (skipped b' g') = (b ≡ b') × (f g ≡ g')
Like f (skipped b g) (searched e) = ⊥
Like f (searched e) (waiting b g) = ⊥
Like f (searched e) (skipped b g) = ⊥
Like f (searched e) (searched e') = e ≡ e'

-- the states S of G and R of H: the same candidate and number of pairs, the references renamed in their order, statuses alike, the same pairs
pub record AreAlike (G H : Network) (f : ℕ → ℕ) (S R : State) : Type 0 where
  pub candidate : R.candidate ≡ S.candidate
  pub references : R.references ≡ mapl f S.references
  pub status : (v : ℕ) → T (G.is_open v) → Like f (S.status v) (R.status (f v))
  pub pairs : SamePairs G f S.pairs R.pairs
  pub count : count_pairs H.depots R.pairs ≡ count_pairs G.depots S.pairs

-- ---- an update, told by codes, of a network of rows: `code` gives an open row its code, and lists the rows; `row` finds the row of a code, and of a
-- code that opens the row that it takes. A closed row's code says nothing.

unfoldable pub applied_by : (ℕ → ℕ) → (ℕ → ℕ) → Network → Update → Network
unfolding add_depot add_link memb
applied_by code row G (opens o) = add_depot code G o.yard (row o.code) (λ v. G.is_open v && memb (code v) o.neighbours)
applied_by code row G (joins a b) = add_link G (row a) (row b)

-- of a link's two ends the one with the lower code is searched first, whichever its row
unfoldable pub steps_by : (ℕ → ℕ) → Chart → Update → ℕ → Pairs → Opened
unfolding opening linking
steps_by row C (opens o) D P = opening C (row o.code) D P
steps_by row C (joins a b) D P = linking C (row (min a b)) (row (max a b)) D P

-- the rows that it searches from first
unfoldable pub first_searches_by : (ℕ → ℕ) → Update → List ℕ
first_searches_by row (opens o) = row o.code ∷ []
first_searches_by row (joins a b) = row (min a b) ∷ row (max a b) ∷ []

-- the update told by codes owes on the rows what every update owes
abbrev pub IsLawfulBy : (ℕ → ℕ) → (ℕ → ℕ) → Network → Update → Type 0
IsLawfulBy code row G u = Owes G (applied_by code row G u) (first_searches_by row u) (λ D P. steps_by row (chart (applied_by code row G u)) u D P)

-- the rows that an update names have its codes, and the row that a code takes is free
abbrev pub IsFound : (ℕ → ℕ) → (ℕ → ℕ) → Network → ℕ → Type 0
IsFound code row G c = T (G.is_open (row c)) × (code (row c) ≡ c)

abbrev pub IsNamed : (ℕ → ℕ) → (ℕ → ℕ) → Network → Update → Type 0
IsNamed code row G (opens o) = (T (G.is_open (row o.code)) → ⊥) × (code (row o.code) ≡ o.code)
IsNamed code row G (joins a b) = IsFound code row G a × IsFound code row G b

-- what an update leaves on G and on H: the same letter, states alike
pub record AreOpenedAlike (G H : Network) (f : ℕ → ℕ) (o p : Opened) : Type 0 where
  pub change : p.change ≡ o.change
  pub final : AreAlike G H f o.final p.final

-- THE STEP of an update u of G by rows, and of H by codes: G becomes a network that a map can hold, the same up to names as what H becomes; and on
-- stored figures that are sound and the same up to names, what the two leave is the same up to names.
pub record IsSameStep (code row : ℕ → ℕ) (G H : Network) (u : Update) : Type 0 where
  pub net : IsNet (applied_by code row G u)
  pub relabelled : IsRelabelled (applied_by code row G u) (applied H u) code
  pub alike : (D : ℕ) (P Q : Pairs) → AreSound G unreached D P → AreSound H unreached D Q → SamePairs G code P Q
      → AreOpenedAlike (applied_by code row G u) (applied H u) code (steps_by row (chart (applied_by code row G u)) u D P) (steps (chart (applied H u)) u D Q)

-- THE SAME OF A CLOSING of the code c; the stored figures are not looked at but for the chain of the letter.
pub record IsSameClosing (code row : ℕ → ℕ) (G H : Network) (c : ℕ) : Type 0 where
  pub net : IsNet (remove_depot G (row c))
  pub relabelled : IsRelabelled (remove_depot G (row c)) (remove_depot H c) code
  pub alike : (D : ℕ) → AreOpenedAlike (remove_depot G (row c)) (remove_depot H c) code (closing (chart (remove_depot G (row c))) D) (closing (chart (remove_depot H c)) D)
