-- `layers::search_table` meets its contract. The loop's invariant is `AtLayer` (Searching.antt): layer k is not empty, and hops, rows and codes left are
-- those of k layers. Each layer adds a code, so k stays below the number of codes, which gives the measure.
use mathlib.Core.Path.{refl}
use Rattle.layers.proofs.Turning.{turn_on, at_loop, answered}
use Rattle.layers.proofs.search_table.Goals as goal

pub loop-hops-init : goal.loop-hops-init
loop-hops-init c = search at_loop

pub loop-hops-preserved : goal.loop-hops-preserved
loop-hops-preserved c =
    let e = c.loop-hops-test.ensures in
    turn_on _ _ _ c.requires.0.most _ c.requires.1 _ _ _ _ _ _ _ c.loop-hops.invariant _ _ _ _ e.turned (e.left refl)

pub returns-clause-left : goal.returns-clause-left
returns-clause-left c =
    answered _ _ _ _ _ _ _ _ _ _ c.begin.ensures.begun c.requires.0.most c.requires.1 _ _ _ _ _ c.loop-hops.invariant _ _ _ c.loop-hops-test.ensures.turned
