-- WHAT YARDS CHANGE IN THE STEPS. Proved in proofs/Yards: `yard_opened`, `yard_searched`; and of
-- a network without yards `no_yard_delivers`, every open depot delivers, and `no_yard_after`, an
-- update that opens no yard leaves none.
-- Assumes nothing.
use Rattle.std.specs.Prelude.{◌≡◌, ◌⊎◌, ◌↔◌, true, false, ℕ}
use Rattle.outcome.specs.declared.Change.TheVariants.{Grew, Kept}
use Rattle.graph.specs.Chart.{Chart, Pairs}
use Rattle.graph.specs.Rounds.{State, round}
use Rattle.graph.specs.Opening.{via, staying_pairs, any_pair, opening}
use Rattle.graph.specs.Updates.{Update, opens, joins}

-- The opening of the yard a, C being the chart with a in place: the chain does not grow; it is kept
-- exactly where it was 0 or a stored pair stays, and then the pairs are those that stay.
pub record IsYardOpened (C : Chart) (a D : ℕ) (P : Pairs) : Type 0 where
  pub never : (opening C a D P).change ≡ Grew → ⊥
  pub kept : ((opening C a D P).change ≡ Kept) ↔ ((D ≡ 0) ⊎ (any_pair C.depots (staying_pairs (via C a) D P) ≡ true))
  pub pairs : (opening C a D P).change ≡ Kept → (u v : ℕ) → (opening C a D P).final.pairs u v ≡ staying_pairs (via C a) D P u v

-- A round that searches from the yard r adds no pair and raises no candidate.
pub record IsYardSearched (C : Chart) (r : ℕ) (S : State) : Type 0 where
  pub candidate : (round C r S).candidate ≡ S.candidate
  pub pairs : (u v : ℕ) → (round C r S).pairs u v ≡ S.pairs u v

-- ---- without yards

-- the update opens no yard
abbrev pub OpensNoYard : Update → Type 0
OpensNoYard (opens o) = o.yard ≡ false
OpensNoYard (joins a b) = Unit {0}
