-- `line_buffer::copy_bytes` meets its contract: what stands in the way of the check's own search.
use mathlib.Core.Path.{refl, sym, ◌∙◌}
use native.Mathlib.Omega.{arith}
use Rattle.lists.proofs.Copies.{copied_more, copied_all}
use Rattle.lists.proofs.Buffers.{overwrite_all}
use Rattle.line_buffer.proofs.copy_bytes.Goals as goal

pub loop-i-preserved : goal.loop-i-preserved
loop-i-preserved c = copied_more c.loop-i.invariant refl c.loop-i-test.true (omega (arith, c.requires))

pub returns : goal.returns
returns c =
    copied_all c.loop-i.invariant (omega (arith, c.loop-i.auto.i-end, c.loop-i-test.false))
    ∙ overwrite_all c.args.text.now c.args.to.now (sym c.requires)
