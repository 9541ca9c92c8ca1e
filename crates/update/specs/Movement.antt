-- HOW FAR ONE UPDATE CAN MOVE THE CHAIN of a map without yards: of what record and link table mean, and of the chain that the record holds before and
-- after a call. `map_moves` and `call_moves` (proofs/Movement) show it, of `update_call` for every shape. The depot that opens may be a yard.
-- Assumes nothing.
use Rattle.std.specs.Prelude.{◌≡◌, List, ℕ, ◌+◌, ◌*◌, ◌≤◌}
use Rattle.lists.specs.Lists.{first_of}
use Rattle.graph.specs.Network.{IsSound, IsConnected, HasNoYard, delivers, IsDiameter, AreTrue}
use Rattle.graph.specs.Updates.{Update, opens, joins, update_faults}
use Rattle.rows.specs.Rows.{table_bit}
use Rattle.map.specs.Memory.{Shape, map_network}
use Rattle.map.specs.declared.Record.{Record}
use Rattle.map.specs.Room.{Lent}
use Rattle.update.specs.UpdateCall.{network_after, IsWithin, Step}

-- from D to E by the update: an opening raises by at most 1; a link never raises, and falls to no less than half
abbrev pub MovesBy : Update → ℕ → ℕ → Type 0
MovesBy (opens o) D E = E ≤ D + 1
MovesBy (joins a b) D E = (E ≤ D) × (D ≤ 2 * E)

-- whenever the links of a record and a link table are sound and connected and no depot is a yard: the diameters D before and E after an update that
-- is not refused
abbrev pub MapMoves : Shape → Type 0
MapMoves K =
    (rec : Record) (links : List ℕ) (u : Update)
    → let G = map_network K rec links in
    let H = network_after K rec links u in
    IsSound G → IsConnected G → HasNoYard G → first_of (update_faults G u) ≡ 0
    → (D E : ℕ) → IsDiameter G (delivers G) D → IsDiameter H (delivers H) E → MovesBy u D E

-- of a program whose update call is `step`: on true stored figures of a map without yards, the record's chain before and after any call, whatever it
-- answers (a refused one leaves the chain)
abbrev pub CallMoves : Shape → Step → Type 0
CallMoves K step =
    (rec : Record) (links : List ℕ) (B : Lent) (u : Update) → IsWithin K u
    → let G = map_network K rec links in
    HasNoYard G → AreTrue G (delivers G) rec.chain (table_bit K.words B.pairs)
    → MovesBy u rec.chain (step rec links B u).after.chain
