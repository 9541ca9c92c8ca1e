-- `pairs::put_upper` meets its contract: the word of row `low` takes the members of x, and those that it did not have are counted.
use borrow.Author.Rules.{rules}
use Rattle.pairs.proofs.Tallies.{holds_whole}
use Rattle.pairs.proofs.WordPairs.{put_upper_lem, put_nothing}
use Rattle.pairs.proofs.put_upper.Goals as goal

pub returns-then-x-eq0 : goal.returns-then-x-eq0
returns-then-x-eq0 c =
    put_nothing (holds_whole c.requires.0 (λ i l. search rules)) _ _ _ c.requires.1 c.requires.2 c.if-x-eq0.true

pub returns : goal.returns
returns c =
    put_upper_lem (holds_whole c.requires.0 (λ i l. search rules)) _ _ _ c.requires.1 c.requires.2 c.ranges.x.fits (search rules) c.count.ensures
