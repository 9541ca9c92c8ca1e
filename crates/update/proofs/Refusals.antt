-- AN UPDATE IS REFUSED by the first condition of rule 8.1 that holds, and then changes nothing. Assumes nothing.
use mathlib.Core.Bool.{true}
use mathlib.Core.Path.{◌≡◌, refl}
use Prim.Native.Nat.{ℕ, zero, suc}
use Rattle.outcome.specs.declared.Outcome.TheVariants.{Accepted}
use Rattle.lists.proofs.Conditions.{decides_short, refuses_by}
use Rattle.outcome.specs.declared.Change.{Change}
use Rattle.graph.specs.Updates.{update_faults}
use Rattle.graph.specs.Refusals.{own_conditions}
use Rattle.graph.proofs.Refusals.{update_tells}
use Rattle.map.specs.Memory.{Shape, IsShape, map_network}
use Rattle.map.proofs.Theorems.{network_listed}
use Rattle.map.specs.Room.{rounds_buffers}
use Rattle.map.proofs.Longs.{long_is}
use Rattle.outcome.specs.Outcome.{refusal_of}
use Rattle.update.specs.UpdateCall.{updated_by, update_refusal, update_given, update_call}
use Rattle.update.specs.Refusals.{update_conditions, UpdateRefuses}
use Rattle.lent_map.proofs.Refuses.{lent_tells}
use Rattle.map.specs.Room.{sizes_of, long_enough}

-- an accepted call has no number
accepted_number : (c : Change) → refusal_of (Accepted c) ≡ 0
unfolding refusal_of
accepted_number c = refl

pub update_refusals : (K : Shape) → IsShape K → UpdateRefuses K (update_call K)
unfolding update_call update_refusal update_given refusal_of
update_refusals K shape rec links B o =
    let G = map_network K rec links in
    refuses_by _ (update_conditions K rec links B o)
    (lent_tells K shape (long_enough K (sizes_of links B)) true (rounds_buffers K links B) (rw (← long_is K links B) at (decides_short (rounds_buffers K links B)))
    rec links B.pairs (update_faults G o) (own_conditions G o) (update_tells G (network_listed K.words rec.members links) o))
    (λ k. update_given k K rec links B o) _ (λ l. refusal_of l.report.outcome) numbered (λ k. refl)
  where
    numbered : (k : ℕ) → refusal_of (update_given k K rec links B o).report.outcome ≡ k
    numbered zero = accepted_number (updated_by K rec links B.pairs o).change
    numbered (suc k) = refl
