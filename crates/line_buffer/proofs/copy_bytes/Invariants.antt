-- `line_buffer::copy_bytes` meets its contract. The invariant: the first i bytes are copied, and the rest is as it was.
use Rattle.lists.proofs.Copies.{Copied}
use Rattle.line_buffer.proofs.copy_bytes.Given as goal

abbrev pub invariant-loop-i : goal.invariant-loop-i
invariant-loop-i l = Copied l.text l.initial.to l.to l.i
