-- THE LEIDEN METHOD IS CORRECT, by the published words: specs/Leiden.antt has what is said. Assumes nothing.
use mathlib.Core.Path.{◌≡◌, sym, ◌∙◌, subst}
use mathlib.Core.Bool.{true}
use Prim.Native.Nat.{ℕ}
use native.Mathlib.Nat.{le_trans, le_of_eq}
use lib.Dec.{T}
use lib.ListN.{length}
use Rattle.lists.specs.Lists.{countb, memb}
use Rattle.lists.proofs.Tests.{t→true}
use Rattle.lists.proofs.Counts.{count_le_length}
use Rattle.lists.proofs.Distinct.{counted_use}
use Rattle.graph.specs.Network.{Network, delivers, IsDiameter}
use Rattle.graph.specs.Distance.{vertices}
use Rattle.graph.specs.Chart.{chart, diameter}
use Rattle.graph.specs.Correct.{IsNet}
use Rattle.graph.specs.Leiden.{Bounds, chain_low, leiden, IsLeiden}
use Rattle.graph.proofs.Charts.{chart_metric, depot_out}
use Rattle.graph.proofs.Theorems.{diameter_is}
use Rattle.graph.proofs.Bounding.{AreBounds, leiden_bounds, leiden_met, leiden_chain, leiden-reckon}

module _ (G : Network) (net : IsNet G) where
  abbrev B : Bounds
  B = leiden (chart G)

  bounds : AreBounds (chart G) B
  bounds = leiden_bounds (chart G) (chart_metric G net)

  inside : (v : ℕ) → memb v B.references ≡ true → T (G.is_open v)
  inside v h = depot_out G net (bounds.inside v h)

  counted : length B.references ≡ countb (λ v. memb v B.references) (vertices G)
  counted =
      sym (counted_use B.references bounds.counted (vertices G) net.sound.once
      (λ v h. sym (net.sound.listed v) ∙ t→true (G.is_open v) (inside v h)))

  chain_is : chain_low (chart G) B ≡ diameter G
  unfolding diameter
  chain_is = leiden_chain (chart G) (chart_metric G net)

  pub leiden_correct : IsLeiden G (leiden (chart G))
  leiden_correct = record {
    chain = subst (λ (n : ℕ). IsDiameter G (delivers G) n) (sym chain_is) (diameter_is G net);
    same = leiden-reckon (chart G) (chart_metric G net);
    met = leiden_met (chart G) (chart_metric G net);
    inside = λ v t. inside v (t→true (memb v B.references) t);
    distinct = counted;
    few = le_trans (le_of_eq counted) (count_le_length (λ v. memb v B.references) (vertices G));
  }
