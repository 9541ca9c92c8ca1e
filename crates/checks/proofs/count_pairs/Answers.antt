-- `checks::count_pairs` meets its contract: after u rows the sum is the count of their ones.
use native.Mathlib.Omega.{arith}
use Rattle.checks.proofs.Sums.{counted_next}
use Rattle.checks.proofs.count_pairs.Goals as goal

pub overflow_add-sum : goal.overflow_add-sum
overflow_add-sum c =
    let next = counted_next c.loop-u.invariant c.requires.0 c.loop-u-test.true c.degree-sum.ensures in
    omega (arith, next.few)

pub loop-u-preserved : goal.loop-u-preserved
loop-u-preserved c = search counted_next
