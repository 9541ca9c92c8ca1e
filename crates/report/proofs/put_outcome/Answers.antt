-- `report::put_outcome` meets its contract: the space and the letter, and the number behind them where the call was refused.
-- The number is a byte, so it has three digits at most.
use native.Mathlib.Omega.{arith}
use Rattle.decimal.proofs.Decimals.{decimal_byte}
use Rattle.report.proofs.Lines.{accepted_placed, refused_placed}
use borrow.Author.Rules.{rules}
use Rattle.report.proofs.put_outcome.Goals as goal

pub returns-in-Accepted : goal.returns-in-Accepted
returns-in-Accepted c = (
  accepted_placed _ _ _ c.in-Accepted.is c.letter.ensures (omega arith),
  search rules,
)

pub returns-in-Refused : goal.returns-in-Refused
returns-in-Refused c = (
  refused_placed _ _ _ c.in-Refused.is c.letter.ensures c.put_number.ensures (omega arith),
  omega (arith, decimal_byte c.in-Refused.n (search rules)),
)
