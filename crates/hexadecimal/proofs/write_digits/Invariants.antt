-- `hexadecimal::write_digits` meets its contract. The invariant: the digits of the first i bytes are written, and the rest is as it was.
use Prim.Native.Nat.{◌*◌}
use Rattle.hexadecimal.specs.Hex.{digits_of}
use Rattle.lists.proofs.Copies.{Copied}
use Rattle.hexadecimal.proofs.write_digits.Given as goal

abbrev pub invariant-loop-i : goal.invariant-loop-i
invariant-loop-i l = Copied (digits_of l.frame) l.initial.line l.line (2 * l.i)
