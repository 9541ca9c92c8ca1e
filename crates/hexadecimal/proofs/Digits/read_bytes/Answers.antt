-- `hexadecimal::Digits::read_bytes` meets its contract. The invariant: the first i bytes spelt are written, and the rest is as it was.
use Rattle.hexadecimal.proofs.Spelling.{bytes_more}
use borrow.Author.Rules.{rules}
use Rattle.hexadecimal.proofs.Digits.read_bytes.Goals as goal

pub loop-i-preserved : goal.loop-i-preserved
loop-i-preserved c = search (bytes_more, rules)
