-- THE PATHS 0-1-..-(k - 1) are networks that a map can hold, their depots being codes of the map in rising order. Assumes nothing.
use mathlib.Core.Path.{◌≡◌, sym, ◌∙◌}
use Prim.Native.Nat.{ℕ, ◌≤◌}
use lib.Dec.{ltb}
use borrow.Author.Tests.{lt-ltb, le-ltb}
use Rattle.lists.specs.Lists.{range, filterb}
use Rattle.lists.proofs.Members.{filter-all, range_out}
use Rattle.lists.proofs.Filters.{filter_skip}
use Rattle.graph.specs.Cases.{path}
use Rattle.graph.proofs.Paths.{path_net}
use Rattle.map.specs.Memory.{base}
use Rattle.update.proofs.Memories.{IsHeld}

rising_is : (k : ℕ) → k ≤ 256 → (path k).depots ≡ filterb (path k).is_open (range 256)
unfolding path
rising_is k low =
    sym (
    filter_skip (λ c. ltb c k) k 256 low (λ u l m. le-ltb u k l)
    ∙ filter-all (λ c. ltb c k) (range k) (λ u m. lt-ltb u k (range_out k m))
    )

pub path_held : (k : ℕ) → k ≤ 256 → IsHeld base (path k)
path_held k low = record { net = path_net k low; depots = rising_is k low }
