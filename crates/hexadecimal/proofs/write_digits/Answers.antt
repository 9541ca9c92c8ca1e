-- `hexadecimal::write_digits` meets its contract. The invariant: the digits of the first i bytes are written, and the rest is as it was.
use Rattle.hexadecimal.proofs.Spelling.{digits_more}
use borrow.Author.Rules.{rules}
use Rattle.hexadecimal.proofs.write_digits.Goals as goal

pub loop-i-preserved : goal.loop-i-preserved
loop-i-preserved c = search (digits_more, rules)
