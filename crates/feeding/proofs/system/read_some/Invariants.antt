-- The buffer keeps its length, and a read that was interrupted consumes nothing.
use Rattle.std.proofs.Common.{◌≡◌, length}
use Rattle.std.specs.Io.KnownBytes.{Keeps}
use Rattle.feeding.proofs.system.read_some.Given as goal

abbrev pub invariant-loop : goal.invariant-loop
invariant-loop g l = (length l.input ≡ length l.initial.input) × Keeps (g.R.Read.remaining l.initial.from) (g.R.Read.remaining l.from)
