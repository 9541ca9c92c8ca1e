-- THE DEPOTS IN RISING CODE, one after the other, as `next_open` answers and `OpenDepots` gives them. A caller goes by the list alone: how codes lie in rows
-- is no matter of its proof. Nobody has to believe this file.
-- Assumes nothing.
use Rattle.std.specs.Prelude.{◌≡◌, List, [], ◌∷◌, ℕ, suc, ◌≤◌, T, leb, Option, Some, None}
use Rattle.lists.specs.Lists.{filterb}
use Rattle.graph.specs.Network.{Network}
use Rattle.graph.specs.Distance.{vertices}
use Rattle.map.specs.Memory.{base, network_of}
use Rattle.map.specs.declared.OpenDepots.{OpenDepots}

-- the open depots whose code is at or past start, in their order
unfoldable pub depots_from : Network → ℕ → List ℕ
depots_from G start = filterb (λ v. leb start v) (vertices G)

-- The depot v is the first of them, and those past v are the others.
pub record IsNextOpen (G : Network) (start v : ℕ) : Type 0 where
  pub after : start ≤ v
  pub is_open : T (G.is_open v)
  pub first : depots_from G start ≡ v ∷ depots_from G (suc v)

-- The answer is the first of them, and None where there is none.
abbrev pub NextOpen : Network → ℕ → Option ℕ → Type 0
NextOpen G start (Some v) = IsNextOpen G start v
NextOpen G start None = depots_from G start ≡ []

-- the depots that an iterator has yet to give
unfoldable pub depots_left : OpenDepots → List ℕ
depots_left s = depots_from (network_of base.words s.members.now []) s.from
