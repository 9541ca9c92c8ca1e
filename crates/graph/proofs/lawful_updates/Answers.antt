-- `graph::lawful_updates` is the theorem `update_lawful`.
use Rattle.graph.proofs.Lawful.{update_lawful}
use Rattle.graph.proofs.lawful_updates.Goals as goal

pub returns : goal.returns
returns c = update_lawful
