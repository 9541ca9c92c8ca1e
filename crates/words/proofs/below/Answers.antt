-- `words::below` meets its contract: `&` with 1 at the b places below b alone keeps those bits.
use Rattle.words.proofs.Digits.{shl_one}
use Rattle.words.proofs.Bits.{word_below}
use Rattle.words.proofs.below.Goals as goal

pub returns : goal.returns
returns c = rw (shl_one 64 c.args.b c.requires) (word_below 64 c.args.w c.args.b c.ranges.w.fits)
