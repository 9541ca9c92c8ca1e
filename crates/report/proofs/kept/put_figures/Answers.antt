-- `report::kept::put_figures` meets its contract: the four fields, each behind the one before it.
use native.Mathlib.Omega.{arith}
use Rattle.decimal.proofs.Places.{placed_join}
use Rattle.report.specs.Line.{figures_text}
use Rattle.report.proofs.kept.put_figures.Goals as goal

pub returns : goal.returns
unfolding figures_text
returns c =
    placed_join (placed_join (placed_join c.put_field-a.ensures c.put_field-b.ensures (omega arith))
    c.put_field-c.ensures (omega arith)) c.put_field.ensures (omega arith)
