-- THE STEPS OF THE CODE from the finished searches of both ends on, over lists of words and numbers. Nobody has to believe these: `relink` answers by
-- Relinked.antt.
-- Assumes nothing.
use Rattle.std.specs.Prelude.{◌≡◌, List, ℕ, ◌<◌, T, get_or}
use Rattle.graph.specs.Network.{Network}
use Rattle.graph.specs.Distance.{dist}
use Rattle.map.specs.Room.{Tables}
use Rattle.map.specs.Memory.{Shape, places}
use Rattle.targets.specs.Reach.{Reached}
use Rattle.pairs.specs.Pairs.{tally}
use Rattle.rounds.specs.Workspace.{Absorbed, absorbed, absorbing, holding, RoundsBegun, rounds_begin_of}
use Rattle.rounds.specs.Targets.{Spans}
use Rattle.insertion.specs.Steps.{StandsIn}

-- ---- the first references: lo with what its search says of it R and its hops near, hi with Q and far

-- the start of rounds, and lo taken in without skipping anybody
unfoldable pub low_taken : Shape → List ℕ → List ℕ → ℕ → Reached → ℕ → RoundsBegun → Absorbed
low_taken K members near lo R way B =
    let X = rounds_begin_of K.words K.other_mark members B in
    holding K.words K.searched_mark lo R near (absorbed (tally X.pairs 0) X.marked way)

-- then hi
unfoldable pub both_taken : Shape → List ℕ → List ℕ → List ℕ → ℕ → Reached → ℕ → Reached → ℕ → RoundsBegun → Absorbed
both_taken K members near far lo R hi Q way B = absorbing K.words K.searched_mark hi Q far (low_taken K members near lo R way B)

-- ---- what the functions ask

-- the hop table near is that of the search from lo, which says R of it; the tables far hold the search from hi, which says Q; and these differ
pub record StandBoth (K : Shape) (G : Network) (near : List ℕ) (far : Tables) (lo : ℕ) (R : Reached) (hi : ℕ) (Q : Reached) : Type 0 where
  pub present : T (G.is_open lo)
  pub spans : Spans K.words G lo R
  pub hops : (v : ℕ) → v < places K → get_or near v 0 ≡ dist G lo v
  pub higher : StandsIn K G far hi Q
  pub apart : lo ≡ hi → ⊥
