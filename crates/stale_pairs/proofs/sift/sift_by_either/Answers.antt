-- `stale_pairs::sift::sift_by_either` meets its contract, by the way that it tells.
use borrow.Author.Rules.{rules}
use Rattle.stale_pairs.specs.Stale.{way_by_either}
use Rattle.stale_pairs.proofs.sift.sift_by_either.Goals as goal

pub sift-requires-clause-told : goal.sift-requires-clause-told
sift-requires-clause-told c = (way_by_either c.args.near.now c.args.far.now, λ b r m h. search rules)

pub returns : goal.returns
returns c = c.sift.ensures (way_by_either c.args.near.now c.args.far.now) (λ b r m h. search rules)
