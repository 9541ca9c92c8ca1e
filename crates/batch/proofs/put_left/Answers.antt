-- `batch::put_left` meets its contract. The invariant: the numbers left over of the lines looked at stand in the first places.
use native.Mathlib.Omega.{arith}
use Rattle.batch.proofs.Scans.{put_none, put_more, put_all}
use Rattle.batch.proofs.put_left.Goals as goal

pub loop-number-init : goal.loop-number-init
loop-number-init c = put_none _ _

pub loop-number-preserved : goal.loop-number-preserved
loop-number-preserved c = put_more c.loop-number.invariant (omega arith) c.put_number-n.ensures

pub returns : goal.returns
returns c = put_all c.loop-number.invariant (omega arith)
