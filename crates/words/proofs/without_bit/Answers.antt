-- `words::without_bit` meets its contract: `&` with 0 at place b alone clears bit b and keeps the others.
use Rattle.words.proofs.Digits.{shl_one}
use Rattle.words.proofs.Bits.{word_without}
use Rattle.words.proofs.without_bit.Goals as goal

pub returns : goal.returns
returns c = rw (shl_one 64 c.args.b c.requires) (word_without 64 c.args.w c.args.b c.ranges.w.fits c.requires)
