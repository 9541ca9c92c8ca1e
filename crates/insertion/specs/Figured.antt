-- THE FIGURES AFTER AN OPENING, once its links are in place: what the code's step from the search of the new depot to the last round leaves.
-- Assumes nothing.
use Rattle.std.specs.Prelude.{◌≡◌, List, ℕ, ◌<◌, T}
use Rattle.graph.specs.Network.{Network, delivers}
use Rattle.lists.specs.Lists.{range}
use Rattle.graph.specs.Chart.{chart, count_pairs}
use Rattle.graph.specs.Opening.{opening}
use Rattle.graph.specs.Correct.{IsNet}
use Rattle.rows.specs.Rows.{table_bit}
use Rattle.map.specs.Memory.{Shape, places}
use Rattle.map.specs.Room.{Lent}
use Rattle.rounds.specs.Leaves.{Ran, ran_by}
use Rattle.rounds.specs.Targets.{target_network, AreTargets}
use Rattle.outcome.specs.declared.Change.{Change}

pub record Figured : Type 0 where
  pub change : Change
  pub ran : Ran

abbrev pub figured : Change → Ran → Figured
figured c r = record { change = c; ran = r }

-- H is the network with the new depot a in place, D the stored chain, B the lent tables with the stored pairs
unfoldable pub figured_by : Shape → Network → ℕ → ℕ → Lent → Figured
figured_by K H a D B =
    let x = opening (chart H) a D (table_bit K.words B.pairs) in
    figured x.change (ran_by K H x.final B)

-- what the step asks beside long tables: the open set and its targets, a row each; a sound, connected network with the open depot a; stored pairs that
-- join targets, as many as the count
pub record IsFigurable (K : Shape) (members targets links : List ℕ) (B : Lent) (a D count : ℕ) : Type 0 where
  pub are : AreTargets K.words members targets
  pub net : IsNet (target_network K.words members targets links)
  pub present : T ((target_network K.words members targets links).is_open a)
  pub rising : (u v : ℕ) → T (table_bit K.words B.pairs u v) → u < v
  pub ends : (u v : ℕ) → T (table_bit K.words B.pairs u v)
      → T (delivers (target_network K.words members targets links) u) × T (delivers (target_network K.words members targets links) v)
  pub counted : count ≡ count_pairs (range (places K)) (table_bit K.words B.pairs)
  pub low : D < places K
