-- THE CLOSING OF A DEPOT, over the network itself: no word, no table. Proved in proofs/Closed:
-- `closed_net`, `cut_iff`, `closing_correct`, `closing_reckoned`, `closing_skipped`,
-- `closing_sound`.
-- Assumes nothing.
use Rattle.std.specs.Prelude.{Bool, cond, not, ◌&&◌, List, [], ◌∷◌, ℕ, T, eqb, ltb}
use Rattle.lists.specs.Lists.{filterb}
use Rattle.outcome.specs.Numbers.{absent_code, cut_map}
use Rattle.outcome.specs.declared.Change.{Change}
use Rattle.outcome.specs.declared.Change.TheVariants.{Grew, Kept, Shrank}
use Rattle.graph.specs.Network.{Network, Walk}
use Rattle.graph.specs.Distance.{connected}
use Rattle.graph.specs.Chart.{Chart}
use Rattle.graph.specs.Rounds.{reckon}
use Rattle.graph.specs.Opening.{Opened}

-- the network without the depot c and its links; the others keep their order
unfoldable pub remove_depot : Network → ℕ → Network
unfolding filterb
remove_depot G c = record {
  depots = filterb (λ v. not (eqb v c)) G.depots;
  is_open = λ v. G.is_open v && not (eqb v c);
  is_yard = λ v. G.is_yard v && not (eqb v c);
  linked = λ u v. G.linked u v && not (eqb u c) && not (eqb v c);
}

-- two open depots that no walk joins
pub record AreApart (G : Network) : Type 0 where
  pub first : ℕ
  pub is_first : T (G.is_open first)
  pub second : ℕ
  pub is_second : T (G.is_open second)
  pub no_walk : (k : ℕ) → Walk G k first second → ⊥

-- the conditions 4 and 17 as tests, each with its number: absent, and cut (`cut_iff`: exactly if two of those left open would lie apart)
unfoldable pub close_faults : Network → ℕ → List (Bool × ℕ)
unfolding remove_depot connected
close_faults G c = (not (G.is_open c), absent_code) ∷ (not (connected (remove_depot G c)), cut_map) ∷ []

-- how the chain moved from D to E
unfoldable pub change_from : ℕ → ℕ → Change
change_from D E = cond (ltb D E) Grew (cond (ltb E D) Shrank Kept)

-- Closing a depot: C is the chart without it. The figures are reckoned afresh, whatever was stored; the letter compares the stored chain D with the new one.
unfoldable pub closing : Chart → ℕ → Opened
unfolding reckon change_from
closing C D = let S = reckon C in record { change = change_from D S.candidate; final = S }
