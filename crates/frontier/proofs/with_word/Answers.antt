-- `frontier::with_word` meets its contract: past the row no bit is set.
use Rattle.frontier.proofs.Links.{with_none}
use Rattle.frontier.proofs.with_word.Goals as goal

pub returns-then-words-j : goal.returns-then-words-j
returns-then-words-j c = with_none _ _ _ _ _ c.ranges.x.fits c.if-words-j.true
