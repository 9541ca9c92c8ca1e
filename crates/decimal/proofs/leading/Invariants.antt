-- `decimal::leading` meets its contract: what is left of the text reads on as the whole does, and the number stays within the limit. The measure is what
-- is left of the text.
use Rattle.std.proofs.Common.{◌≡◌, ◌≤◌, length}
use Rattle.decimal.specs.Strip.{strip_more, strip_decimal}
use Rattle.decimal.proofs.leading.Given as goal

abbrev pub invariant-loop-c : goal.invariant-loop-c
invariant-loop-c l = record {
  reads : strip_more l.limit l.n l.left ≡ strip_decimal l.limit l.fn.text;
  within : l.n ≤ l.limit;
}

abbrev pub decreases-loop-c : goal.decreases-loop-c
decreases-loop-c l = length l.left
