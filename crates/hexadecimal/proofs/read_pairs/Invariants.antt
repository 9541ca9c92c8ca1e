-- `hexadecimal::read_pairs` meets its contract. The invariant: the first i twos are digits, and the bytes that they spell are written.
use mathlib.Core.Path.{◌≡◌}
use mathlib.Core.Bool.{true}
use Prim.Native.Nat.{◌*◌}
use lib.ListN.{length, take}
use Rattle.lists.specs.Lists.{allb}
use Rattle.hexadecimal.specs.Hex.{is_digit, bytes_of}
use Rattle.hexadecimal.proofs.read_pairs.Given as goal

abbrev pub invariant-loop-i : goal.invariant-loop-i
invariant-loop-i l =
    (allb is_digit (take (2 * l.i) l.text) ≡ true)
    × (take l.i l.buffer ≡ take l.i (bytes_of l.text))
    × (length l.buffer ≡ length l.initial.buffer)
