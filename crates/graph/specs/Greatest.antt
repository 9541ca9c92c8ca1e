-- THE GREATEST FIGURES (rule 2.4), by the published words: those of depots in a path and of depots
-- all linked, and that no network of as many depots has greater ones. `greatest_figures`
-- (proofs/Greatest) shows it.
-- Assumes nothing.
use Rattle.std.specs.Prelude.{◌≡◌, false, not, ◌&&◌, ℕ, ◌-◌, ◌*◌, ◌/◌, ◌≤◌, ◌<◌, eqb, ltb, length}
use Rattle.lists.specs.Lists.{range}
use Rattle.graph.specs.Network.{Network, delivers, AreTrue}
use Rattle.graph.specs.Chart.{Pairs, count_pairs}
use Rattle.graph.specs.Correct.{IsNet}
use Rattle.graph.specs.Cases.{path}

-- the depots 0 to n - 1, each linked to every other
unfoldable pub complete : ℕ → Network
unfolding range
complete n = record {
  depots = range n;
  is_open = λ c. ltb c n;
  is_yard = λ c. false;
  linked = λ u v. ltb u n && ltb v n && not (eqb u v);
}

-- the diameter of G is D, and it has p farthest pairs
pub record HasFigures (G : Network) (D p : ℕ) : Type 0 where
  pub pairs : Pairs
  pub are_true : AreTrue G (delivers G) D pairs
  pub count : count_pairs G.depots pairs ≡ p

-- the path's one pair is its two ends; of the complete network every two depots are a pair
pub record GreatestFigures : Type 0 where
  pub nets : (n : ℕ) → n ≤ 256 → IsNet (path n) × IsNet (complete n)
  pub of_path : (n : ℕ) → 1 < n → HasFigures (path n) (n - 1) 1
  pub of_complete : (n : ℕ) → 1 < n → HasFigures (complete n) 1 (n * (n - 1) / 2)
  pub chain_most : (G : Network) → IsNet G → (D p : ℕ) → HasFigures G D p → D ≤ length G.depots - 1
  pub pairs_most :
      (G : Network) → IsNet G → (D p : ℕ) → HasFigures G D p
      → p ≤ length G.depots * (length G.depots - 1) / 2
  pub path_256 : HasFigures (path 256) 255 1
  pub complete_256 : HasFigures (complete 256) 1 32640
