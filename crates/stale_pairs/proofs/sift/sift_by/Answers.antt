-- `stale_pairs::sift::sift_by` meets its contract, by the way that it tells.
use borrow.Author.Rules.{rules}
use Rattle.stale_pairs.specs.Stale.{way_by}
use Rattle.stale_pairs.proofs.sift.sift_by.Goals as goal

pub sift-requires-clause-told : goal.sift-requires-clause-told
sift-requires-clause-told c = (way_by c.args.hops.now, λ b r m h. search rules)

pub returns : goal.returns
returns c = c.sift.ensures (way_by c.args.hops.now) (λ b r m h. search rules)
