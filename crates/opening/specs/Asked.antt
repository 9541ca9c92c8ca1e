-- WHAT A NOTICE ASKS FOR, of the struct that the code hands on. Assumes nothing.
use Rattle.graph.specs.Opening.{notice_of}
use Rattle.graph.specs.Updates.{Update, opens}
use Rattle.opening.specs.declared.Notice.{Notice}

abbrev pub asked : Notice → Update
asked n = opens (notice_of n.yard n.code n.neighbours.now)
