-- `stream::feed` meets its contract. The loop's invariant is `AtTurn` (Feeds.antt): from here the bytes end where they end from the start, and
-- nothing refuses the map. The measure is what is left of the piece.
use borrow.Author.Tests.{not-false}
use mathlib.Core.Path.{sym, ◌∙◌}
use native.Mathlib.Omega.{arith}
use borrow.Author.Rules.{rules}
use Rattle.stream.proofs.Feeds.{parts, turn_next}
use Rattle.stream.proofs.feed.Goals as goal

pub loop-now-preserved : goal.loop-now-preserved
loop-now-preserved g c = (
  turn_next _ _ _ (sym c.is_stopped.ensures ∙ c.if-is_stopped.false) c.loop-now.invariant.0 c.take_part-taken.ensures.part
      (not-false _ c.if-not-taken.false)
      (c.take_line.ensures.left _ (c.frame_read-read.ensures.read _ (c.take_part-taken.ensures.read (not-false _ c.if-not-taken.false)))),
  search rules,
  grind (arith, parts),
  c.take_line.ensures.written,
)
