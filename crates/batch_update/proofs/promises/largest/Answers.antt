-- `batch_update::promises::largest` is the theorem `batch_most`.
use Rattle.map.specs.Memory.{base}
use Rattle.map.proofs.Theorems.{base_shape}
use Rattle.batch_update.proofs.Theorems.{batch_most}
use Rattle.batch_update.proofs.promises.largest.Goals as goal

pub returns : goal.returns
returns c = batch_most base base_shape
