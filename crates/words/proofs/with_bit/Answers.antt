-- `words::with_bit` meets its contract: `|` with 1 at place b sets bit b and keeps the others.
use Rattle.words.proofs.Digits.{shl_one}
use Rattle.words.proofs.Bits.{word_with}
use Rattle.words.proofs.with_bit.Goals as goal

pub returns : goal.returns
returns c = rw (shl_one 64 c.args.b c.requires) (word_with 64 c.args.w c.args.b c.ranges.w.fits c.requires)
