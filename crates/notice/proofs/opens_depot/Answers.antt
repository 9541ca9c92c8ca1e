-- `notice::opens_depot` meets its contract: by the byte's kind, and none opens one that has none.
use Rattle.notice.proofs.Bytes.{opens_by}
use Rattle.notice.proofs.opens_depot.Goals as goal

pub returns : goal.returns
returns c = opens_by _ _ c.of.ensures c.is_some_and.ensures
