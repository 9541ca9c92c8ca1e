-- `stale_pairs::whole::greatest_way` meets its contract. The loop's invariant (Wholes.antt): no member is farther than d. The measure is d, which falls.
use native.Mathlib.Omega.{arith}
use Rattle.stale_pairs.proofs.Wholes.{within_start, within_less, within_met, within_none}
use Rattle.stale_pairs.proofs.whole.greatest_way.Goals as goal

pub loop-d-init : goal.loop-d-init
loop-d-init g c = λ way h. search within_start

pub returns-then-x-take-ne0 : goal.returns-then-x-take-ne0
returns-then-x-take-ne0 g c = λ way h. search (within_met, c.loop-d.invariant way h, h _ _ (omega (arith, (c.loop-d.invariant way h).most)) c.take.ensures)

pub loop-d-preserved : goal.loop-d-preserved
loop-d-preserved g c = λ way h. search (within_less, c.loop-d.invariant way h, h _ _ (omega (arith, (c.loop-d.invariant way h).most)) c.take.ensures)

pub returns : goal.returns
returns g c = λ way h. within_none _ _ _ _ _ (c.loop-d.invariant way h) (omega arith)
