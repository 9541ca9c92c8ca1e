-- `batch::put_left` meets its contract. The invariant: the numbers left over of the lines looked at stand in the first places.
use Rattle.batch.proofs.Scans.{ArePut}
use Rattle.batch.proofs.put_left.Given as goal

abbrev pub invariant-loop-number : goal.invariant-loop-number
invariant-loop-number l = ArePut l.taken l.number l.initial.left l.n l.left
