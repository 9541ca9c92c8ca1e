-- A CLOSING ON ROWS, whose gap the last row takes, is the closing by code. Assumes nothing.
use mathlib.Core.Path.{◌≡◌, sym, ◌∙◌}
use Prim.Native.Nat.{ℕ, suc, ◌≤◌, ◌<◌}
use native.Mathlib.Nat.{lt_of_le_of_lt}
use native.Mathlib.Omega.{arith}
use lib.Dec.{T}
use lib.ListN.{length}
use borrow.Author.Tests.{lt-ltb}
use Rattle.lists.specs.Lists.{first_of}
use Rattle.lists.proofs.Tests.{true→t}
use Rattle.graph.specs.Network.{Network, IsSound}
use Rattle.graph.specs.Distance.{vertices, unreached}
use Rattle.graph.specs.Closing.{remove_depot, close_faults}
use Rattle.graph.specs.Correct.{IsNet}
use Rattle.graph.specs.Renaming.{IsRelabelled, move_row}
use Rattle.graph.specs.Arrivals.{AreArrived, closed_rows, AreClosedRows}
use Rattle.graph.proofs.Connected.{connected_of, connected_iff}
use Rattle.graph.proofs.Closed.{left_sound, left_few, closed_net}
use Rattle.graph.proofs.Relabelled.{renamed_net, relabelled_distances}
use Rattle.graph.proofs.RelabelledUpdates.{closing_same, relabelled_closed}
use Rattle.graph.proofs.Naming.{renamed_is}
use Rattle.graph.proofs.Moving.{moves_apart, moved_sound, move_keeps}
use Rattle.graph.proofs.Arrivals.{left_row, arrived_closes}

pub rows_closed : (code code' : ℕ → ℕ) (G H : Network) → IsNet G → IsSound H → IsRelabelled G H code → (gap last : ℕ) → gap ≤ last → AreArrived code (suc last) G
    → ((r : ℕ) → r < suc last → (r ≡ gap → ⊥) → code' (move_row gap last r) ≡ code r) → first_of (close_faults H (code gap)) ≡ 0
    → AreClosedRows code code' gap last G H
rows_closed code code' G H net sound' re gap last low arrived fits ok =
    let keeps = move_keeps G net.sound gap last H sound' code code' re open_gap told in
    record {
      net = after;
      arrived = arrived_closes code code' G net.sound last gap low arrived told;
      moved = relabelled_distances left M left_sound' (moved_sound G net.sound gap last) (move_row gap last) moved_by;
      relabelled = keeps;
      distances = relabelled_distances M K (moved_sound G net.sound gap last) by_code.sound code' keeps;
      alike = λ D. closing_same M K after by_code code' keeps D;
    }
  where
    left : Network
    left = remove_depot G gap

    M : Network
    M = closed_rows gap last G

    K : Network
    K = remove_depot H (code gap)

    open_gap : T (G.is_open gap)
    open_gap = true→t (arrived.first gap ∙ lt-ltb gap (suc last) (omega (arith, low)))

    told : (v : ℕ) → T (left.is_open v) → code' (move_row gap last v) ≡ code v
    told v o = let k = left_row code G last gap arrived v o in fits v k.0 k.1

    by_code : IsNet K
    by_code = closed_net H (renamed_net G H net.sound sound' code re net) (code gap) ok

    left_sound' : IsSound left
    left_sound' = left_sound G net.sound gap

    left_small : length (vertices left) < unreached
    left_small = lt_of_le_of_lt (left_few G net.sound gap) net.small

    left_net : IsNet left
    left_net = record {
      sound = left_sound';
      connected =
          connected_of left left_sound' left_small
          (sym (relabelled_distances left K left_sound' by_code.sound code (relabelled_closed G H net.sound sound' code re gap open_gap)).connected
          ∙ (connected_iff K by_code.sound by_code.small).1 by_code.connected);
      small = left_small;
    }

    moved_by : IsRelabelled left M (move_row gap last)
    moved_by = renamed_is left left_sound' (move_row gap last) (moves_apart G net.sound gap last)

    after : IsNet M
    after = renamed_net left M left_sound' (moved_sound G net.sound gap last) (move_row gap last) moved_by left_net
