-- HOW FAR ONE UPDATE MOVES THE CHAIN of a map without yards, from what `graph` shows of networks. Assumes nothing.
use mathlib.Core.Path.{◌≡◌, refl, sym, subst}
use Prim.Native.Nat.{ℕ, zero, suc, ◌<◌}
use native.Mathlib.Omega.{arith}
use lib.ListN.{length}
use Rattle.lists.specs.Lists.{first_of}
use Rattle.graph.specs.Network.{Network, HasNoYard, delivers, IsDiameter}
use Rattle.graph.specs.Distance.{vertices, unreached}
use Rattle.graph.specs.Correct.{IsNet}
use Rattle.graph.specs.Updates.{Update, opens, joins, update_faults, applied}
use Rattle.graph.proofs.Movement.{opening_moves, linking_moves}
use Rattle.map.specs.Memory.{Shape, IsShape, base, map_network}
use Rattle.map.specs.Room.{sizes_of}
use Rattle.map.proofs.Theorems.{base_shape, network_most}
use Rattle.update.specs.UpdateCall.{update_refusal, network_after, update_given, update_call}
use Rattle.update.specs.Movement.{MovesBy, MapMoves, CallMoves}
use Rattle.update.proofs.Grants.{granted_net, granted_notice}
use Rattle.update.proofs.Theorems.{update_correct}

-- a network that a map can hold
pub update_moves : (G : Network) → IsNet G → HasNoYard G → (u : Update) → first_of (update_faults G u) ≡ 0
    → (D E : ℕ) → IsDiameter G (delivers G) D → IsDiameter (applied G u) (delivers (applied G u)) E → MovesBy u D E
unfolding update_faults applied
update_moves G net without (opens o) ok D E was is = (opening_moves G net without o ok).most D E was is
update_moves G net without (joins a b) ok D E was is = let m = linking_moves G net without a b ok in (m.never D E was is, m.twice D E was is)

-- the words of a map
pub map_moves : (K : Shape) → IsShape K → MapMoves K
unfolding network_after
map_moves K shape rec links u sound connected without ok D E was is =
    let few = network_most K.words rec.members links in
    update_moves (map_network K rec links) (record { sound = sound; connected = connected; small = omega (arith, few, shape.most) }) without u ok D E was is

-- a chain that stays
pub stays : (u : Update) (D : ℕ) → MovesBy u D D
stays (opens o) D = omega arith
stays (joins a b) D = (omega arith, omega arith)

-- the call
pub call_moves : (K : Shape) → IsShape K → CallMoves K (update_call K)
unfolding update_call update_given
call_moves K shape rec links B u within without were = go refusal refl
  where
    refusal : ℕ
    refusal = update_refusal K rec links B.pairs (sizes_of links B) u

    go : (k : ℕ) → refusal ≡ k → MovesBy u rec.chain (update_call K rec links B u).after.chain
    go zero ok =
        let net = granted_net K shape rec links B.pairs (sizes_of links B) u ok in
        map_moves K shape rec links u net.sound net.connected without (granted_notice K shape rec links B.pairs (sizes_of links B) u ok) rec.chain _ were.chain
        ((update_correct K shape).figures rec links B u ok within were).chain
    go (suc k) ko = subst (λ (j : ℕ). MovesBy u rec.chain (update_given j K rec links B u).after.chain) (sym ko) (stays u rec.chain)

-- ---- the rules' map

pub map_moves_base : MapMoves base
map_moves_base = map_moves base base_shape

pub call_moves_base : CallMoves base (update_call base)
call_moves_base = call_moves base base_shape
