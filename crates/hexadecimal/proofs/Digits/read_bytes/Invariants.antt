-- `hexadecimal::Digits::read_bytes` meets its contract. The invariant: the first i bytes spelt are written, and the rest is as it was.
use Rattle.hexadecimal.specs.Hex.{bytes_of}
use Rattle.lists.proofs.Copies.{Copied}
use Rattle.hexadecimal.proofs.Digits.read_bytes.Given as goal

abbrev pub invariant-loop-i : goal.invariant-loop-i
invariant-loop-i l = Copied (bytes_of l.self.bytes.now) l.initial.frame l.frame l.i
