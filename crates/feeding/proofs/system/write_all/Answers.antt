-- A first part of what is left is written.
use Rattle.feeding.proofs.Turns.{part_on}
use Rattle.feeding.proofs.system.write_all.Goals as goal

pub loop-rest-preserved : goal.loop-rest-preserved
loop-rest-preserved g c =
    let so = c.loop-rest.invariant in
    part_on _ _ _ so.0 _ _ _ so.1 so.2 c.in_ok-n.ensures.bytes
