-- `pairs::lower_part` meets its contract: a word that begins at `high` or past it has no member below it, one that ends before it has all.
use Rattle.pairs.proofs.WordPairs.{part_none, part_all}
use Rattle.pairs.proofs.lower_part.Goals as goal

pub returns-then-high-first : goal.returns-then-high-first
returns-then-high-first c = part_none _ _ _ c.if-high-first.true

pub returns-then-first-high : goal.returns-then-first-high
returns-then-first-high c = part_all _ _ _ c.ranges.x.fits c.if-first-high.true
