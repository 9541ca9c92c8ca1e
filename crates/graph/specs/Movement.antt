-- HOW FAR ONE NOTICE CAN MOVE THE DIAMETER, by the published words of Network alone. `opening_moves` and `linking_moves` (proofs/Movement) show it for
-- every sound, connected network G without yards; the depot that opens may be one.
-- Assumes nothing.
use Rattle.std.specs.Prelude.{◌≡◌, ℕ, ◌+◌, ◌*◌, ◌≤◌}
use Rattle.lists.specs.Lists.{first_of}
use Rattle.graph.specs.Network.{Network, HasNoYard, delivers, IsDiameter}
use Rattle.graph.specs.Opening.{Notice, with_depot, open_faults}
use Rattle.graph.specs.Linking.{add_link, link_faults}
use Rattle.graph.specs.Correct.{IsNet}

-- from G to H, an opening: the diameter rises by no more than 1
pub record RisesByOne (G H : Network) : Type 0 where
  pub most : (D E : ℕ) → IsDiameter G (delivers G) D → IsDiameter H (delivers H) E → E ≤ D + 1

-- from G to H, a link: the diameter does not rise, and falls to no less than half
pub record HalvesAtMost (G H : Network) : Type 0 where
  pub never : (D E : ℕ) → IsDiameter G (delivers G) D → IsDiameter H (delivers H) E → E ≤ D
  pub twice : (D E : ℕ) → IsDiameter G (delivers G) D → IsDiameter H (delivers H) E → D ≤ 2 * E

-- every opening that is not refused, of a depot or a yard
abbrev pub OpeningMoves : Type 0
OpeningMoves =
    (G : Network) → IsNet G → HasNoYard G → (o : Notice) → first_of (open_faults G o) ≡ 0
    → RisesByOne G (with_depot G o)

-- every link that is not refused
abbrev pub LinkingMoves : Type 0
LinkingMoves = (G : Network) → IsNet G → HasNoYard G → (a b : ℕ) → first_of (link_faults G a b) ≡ 0 → HalvesAtMost G (add_link G a b)
