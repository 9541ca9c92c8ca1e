-- WHAT A CALL ASKS FOR, of the value that the code hands on: the update of its notice, or of its link. Assumes nothing.
use Rattle.graph.specs.Updates.{Update, joins}
use Rattle.opening.specs.Asked.{asked}
use Rattle.step.specs.declared.Asked.{Asked}
use Rattle.step.specs.declared.Asked.TheVariants.{Opening, Link}

abbrev pub update_of : Asked → Update
update_of (Opening n) = asked n
update_of (Link l) = joins l.first l.second
