-- EVERY UPDATE KEEPS ITS PROMISES. Assumes nothing.
use mathlib.Core.Path.{◌≡◌, ap₂}
use Prim.Native.Nat.{ℕ, suc, ◌<◌}
use native.Mathlib.Nat.{min_comm, max_comm}
use lib.ListN.{length}
use Rattle.lists.specs.Lists.{first_of}
use Rattle.graph.specs.Network.{Network}
use Rattle.graph.specs.Distance.{vertices, unreached}
use Rattle.graph.specs.Correct.{IsNet}
use Rattle.graph.specs.Updates.{Update, opens, joins, told_as, update_faults, applied, steps, first_searches, IsLawful}
use Rattle.graph.proofs.Updates.{opens_lawful}
use Rattle.graph.proofs.LinkTheorems.{linked_net, linking_correct, linking_covered, linking-says, linking_sound}

-- a link told in either order is one notice
pub told_either : (a b : ℕ) → told_as (joins a b) ≡ told_as (joins b a)
unfolding told_as
told_either a b = ap₂ joins (min_comm a b) (max_comm a b)

-- what it owes
joins_lawful : (G : Network) (net : IsNet G) (a b : ℕ) → first_of (update_faults G (joins a b)) ≡ 0 → IsLawful G (joins a b)
unfolding update_faults applied steps first_searches
joins_lawful G net a b ok = record {
  net = linked_net G net a b ok;
  correct = linking_correct G net a b ok;
  covered = linking_covered G net a b ok;
  settled = linking-says G net a b ok;
  sound = λ limit D P few s. linking_sound G net a b ok D P limit few s;
}

-- EVERY UPDATE THAT NO REFUSAL HITS, with room for one depot more
pub update_lawful : (G : Network) → IsNet G → (u : Update) → suc (length (vertices G)) < unreached → first_of (update_faults G u) ≡ 0 → IsLawful G u
unfolding update_faults
update_lawful G net (opens o) room ok = opens_lawful G net o room ok
update_lawful G net (joins a b) room ok = joins_lawful G net a b ok
