-- `line_buffer::skip_part` meets its contract. The invariant: from here the part ends where it ends from the start, whatever the buffer has.
use native.Mathlib.Omega.{arith}
use borrow.Author.Rules.{rules}
use Rattle.line_buffer.proofs.Holding.{part_out, past_here, past_on}
use Rattle.line_buffer.proofs.skip_part.Goals as goal

pub returns-then-piece-at-eq10 : goal.returns-then-piece-at-eq10
returns-then-piece-at-eq10 c line =
    past_here _ line _ _ (c.loop-at.invariant.0 line) (c.requires (omega (arith, c.loop-at.invariant, c.loop-at-test.true))) (search rules) (search rules)

pub loop-at-preserved : goal.loop-at-preserved
loop-at-preserved c = (
  (λ line. past_on _ line _ _ (c.loop-at.invariant.0 line) (c.requires (omega (arith, c.loop-at.invariant, c.loop-at-test.true)))
      (search rules) (search rules)),
  search rules,
  search rules,
)

pub returns : goal.returns
returns c line =
    part_out _ _ _ (c.loop-at.invariant.0 line) (search rules) (search rules)
