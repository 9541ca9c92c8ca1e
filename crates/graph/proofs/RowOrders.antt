-- TWO ORDERS OF ARRIVAL of the same codes leave maps that are equal by code. Assumes nothing.
use mathlib.Core.Path.{◌≡◌, sym, ap, ap₂, ◌∙◌}
use Prim.Native.Nat.{ℕ, ◌<◌}
use lib.Dec.{T}
use lib.ListN.{length}
use Rattle.lists.specs.Lists.{range}
use Rattle.lists.proofs.Tests.{true→t}
use Rattle.lists.proofs.Members.{length-range}
use Rattle.lists.proofs.Rising.{sort_length}
use Rattle.graph.specs.Network.{Network, delivers, AreTrue}
use Rattle.graph.specs.Distance.{vertices}
use Rattle.graph.specs.Chart.{diameter, Pairs, farthest, count_pairs}
use Rattle.graph.specs.Correct.{IsNet}
use Rattle.graph.specs.Renaming.{renamed_to, either, HaveSameFigures}
use Rattle.graph.specs.Arrivals.{AreRows, AreEqualByCode}
use Rattle.graph.proofs.Theorems.{true_chain, true_pairs, farthest_is}
use Rattle.graph.proofs.Relabelled.{same_count, renamed_net, relabelled_figures, count_renamed}
use Rattle.graph.proofs.Naming.{renamed_whole}

-- true figures of rows, by code
module _ (code : ℕ → ℕ) (n : ℕ) (G H : Network) (rows : AreRows code n G H) where
  net' : IsNet H
  net' = renamed_net G H rows.net.sound rows.sound code rows.relabelled rows.net

  figures : HaveSameFigures G H code
  figures = relabelled_figures G H rows.net.sound rows.sound code rows.relabelled rows.net

  rows_number : n ≡ length (vertices H)
  rows_number =
      sym (ap length rows.arrived.listed ∙ sort_length code (range n) ∙ length-range n)
      ∙ sym (same_count G H rows.net.sound rows.sound code rows.relabelled)

  by_code : renamed_to code G ≡ H
  by_code = renamed_whole G H rows.net.sound rows.sound code rows.relabelled

  module _ (D : ℕ) (P : Pairs) (were : AreTrue G (delivers G) D P) where
    rows_chain : D ≡ diameter H
    rows_chain = true_chain G rows.net D P were ∙ sym figures.diameter

    rows_pairs : (u v : ℕ) → T (G.is_open u) → T (G.is_open v) → either P u v ≡ either (farthest H) (code u) (code v)
    rows_pairs u v ou ov = ap (λ (Q : Pairs). either Q u v) (true_pairs G rows.net D P were) ∙ sym (figures.farthest u v ou ov)

    rising_pairs : (N : Network) → IsNet N → (u v : ℕ) → T (farthest N u v) → u < v
    rising_pairs N net u v t = ((farthest_is N net u v).0 t).before

    rows_count : count_pairs (vertices G) P ≡ count_pairs (vertices H) (farthest H)
    rows_count =
        ap (count_pairs (vertices G)) (true_pairs G rows.net D P were)
        ∙ sym (count_renamed G H rows.net.sound rows.sound code rows.relabelled rows.net (farthest G) (farthest H)
        (λ u v h. rising_pairs G rows.net u v (true→t h)) (λ u v h. rising_pairs H net' u v (true→t h)) figures.farthest)

pub rows_equal : (code code' : ℕ → ℕ) (n n' : ℕ) (G G' H : Network) → AreRows code n G H → AreRows code' n' G' H → AreEqualByCode code code' n n' G G'
rows_equal code code' n n' G G' H a b = record {
  number = rows_number code n G H a ∙ sym (rows_number code' n' G' H b);
  network = by_code code n G H a ∙ sym (by_code code' n' G' H b);
  chain = λ D D' P P' w w'. rows_chain code n G H a D P w ∙ sym (rows_chain code' n' G' H b D' P' w');
  count = λ D D' P P' w w'. rows_count code n G H a D P w ∙ sym (rows_count code' n' G' H b D' P' w');
  pairs = λ D D' P P' w w' u v x y ou ov ox oy e f.
      rows_pairs code n G H a D P w u v ou ov ∙ ap₂ (either (farthest H)) e f ∙ sym (rows_pairs code' n' G' H b D' P' w' x y ox oy);
}
