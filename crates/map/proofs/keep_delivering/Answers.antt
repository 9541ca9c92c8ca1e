-- `map::keep_delivering` meets its contract: after j turns the first j words are without their yards.
use native.Mathlib.Omega.{arith}
use Rattle.map.proofs.Yards.{delivering_next}
use Rattle.map.proofs.keep_delivering.Goals as goal

pub loop-j-preserved : goal.loop-j-preserved
loop-j-preserved c =
    let l = c.loop-j in
    delivering_next _ _ _ _ _ l.invariant (omega arith) (omega arith) (c.slice_known-1.given l.j).fits
    (c.type_inv.yards l.j).fits
