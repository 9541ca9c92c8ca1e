-- `stale_pairs::whole::sift_whole_by_either` meets its contract: its balls say what is taken.
use borrow.Author.Rules.{rules}
use Rattle.stale_pairs.specs.Stale.{way_by_either}
use Rattle.stale_pairs.proofs.whole.sift_whole_by_either.Goals as goal

pub sift_whole-requires-clause-told : goal.sift_whole-requires-clause-told
sift_whole-requires-clause-told c = (way_by_either c.args.near.now c.args.far.now, λ d r l h. search rules)

pub returns : goal.returns
returns c = c.sift_whole.ensures (way_by_either c.args.near.now c.args.far.now) (λ d r l h. search rules)
