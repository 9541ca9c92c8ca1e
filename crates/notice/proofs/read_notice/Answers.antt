-- `notice::read_notice` meets its contract: each way out is one case of `read_call`. The frame buffer is written only on the last,
-- when the digits are known to spell a frame.
use mathlib.Core.Path.{sym, ◌∙◌}
use borrow.Author.Tests.{not-false}
use Rattle.notice.proofs.Answers.{digits_fit, read_done}
use borrow.Author.Rules.{rules}
use Rattle.notice.proofs.read_notice.Goals as goal

pub returns : goal.returns
returns c =
    read_done _ c.first_part-head.ensures c.leading-digits.result.are_digits c.leading-digits.ensures _ c.read_bytes.ensures
    c.if-end-head.false c.if-head-end-ne10.false (sym c.spells_frame.ensures ∙ not-false _ c.if-not-spells_frame.false-raw) c.if-frame-lt-FRAME_LIMIT.false

pub read_bytes-requires : goal.read_bytes-requires
read_bytes-requires c = search (digits_fit, rules)
