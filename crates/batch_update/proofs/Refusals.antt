-- A BATCH IS REFUSED by the first condition that holds, and then changes nothing. Assumes nothing.
use mathlib.Core.Path.{◌≡◌, refl}
use mathlib.Core.Bool.{true, ◌&&◌}
use mathlib.Core.List.{List, ◌∷◌}
use Prim.Native.Nat.{ℕ, zero, suc}
use lib.Dec.{leb, ltb}
use lib.ListN.{length}
use borrow.Author.Tests.{ltb-true, lt-ltb}
use Rattle.lists.specs.Lists.{allb}
use Rattle.lists.proofs.Conditions.{decides_iff, decides_not, decides_fails, decides_short, Tells, refuses_by}
use Rattle.graph.specs.Network.{Network}
use Rattle.graph.specs.Distance.{vertices}
use Rattle.graph.proofs.Refusals.{AreListed, decides_some}
use Rattle.map.specs.Memory.{Shape, IsShape, map_network}
use Rattle.map.specs.Room.{rounds_buffers, sizes_of, long_enough}
use Rattle.map.proofs.Theorems.{network_listed}
use Rattle.map.proofs.Longs.{long_is}
use Rattle.lent_map.proofs.Refuses.{lent_tells}
use Rattle.notice.specs.Lines.{lines_of}
use Rattle.batch.specs.Lines.{batch_limit, is_opening, batch_faults}
use Rattle.batch_update.specs.BatchCall.{batch_refusal, batch_given, batch_call}
use Rattle.batch_update.specs.Refusals.{lines_conditions, batch_conditions, batch_number, BatchRefuses}

lines_tell : (G : Network) → AreListed G → (input : List ℕ) → Tells (batch_faults (length (vertices G)) input) (lines_conditions G input)
unfolding batch_faults
lines_tell G listed input = (
  refl,
  decides_iff (ltb-true batch_limit (length (lines_of input)), lt-ltb batch_limit (length (lines_of input))),
  λ f11. (refl, decides_not (ltb 0 (length (vertices G))) (decides_some G listed), λ f12. (refl, decides_fails is_opening (lines_of input), λ f9. tt)),
)

pub batch_refusals : (K : Shape) → IsShape K → BatchRefuses K (batch_call K)
unfolding batch_call batch_refusal batch_given batch_number allb
batch_refusals K shape rec links B places input =
    let G = map_network K rec links in
    refuses_by _ (batch_conditions K rec links B places input)
    (lent_tells K shape (leb batch_limit (length places) && long_enough K (sizes_of links B)) true ((batch_limit, length places) ∷ rounds_buffers K links B)
    (rw (← long_is K links B) at (decides_short ((batch_limit, length places) ∷ rounds_buffers K links B)))
    rec links B.pairs (batch_faults (length (vertices G)) input) (lines_conditions G input) (lines_tell G (network_listed K.words rec.members links) input))
    (λ k. batch_given k K rec links B places input) _ (λ l. batch_number l.answer) numbered (λ k. refl)
  where
    numbered : (k : ℕ) → batch_number (batch_given k K rec links B places input).answer ≡ k
    numbered zero = refl
    numbered (suc k) = refl
