-- `feeding::tell_input` begins the stream on zeros of the named sizes.
use Rattle.std.proofs.Common.{arith}
use Rattle.stream.proofs.Theorems.{begun_stands}
use Rattle.feeding.proofs.tell_input.Goals as goal

pub tell_all-requires-clause-begun : goal.tell_all-requires-clause-begun
tell_all-requires-clause-begun g c =
    begun_stands _ _ c.begin-begun.ensures
    (omega arith) (omega arith) (omega arith) (omega arith) (omega arith) (omega arith) (omega arith) (omega arith)
