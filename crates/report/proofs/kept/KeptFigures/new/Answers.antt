-- `report::kept::KeptFigures::new` meets its contract: the text is that of four zeros.
use mathlib.Core.Path.{refl}
use Rattle.decimal.specs.Decimal.{decimal, field}
use Rattle.report.specs.Line.{figures_text}
use Rattle.report.proofs.kept.KeptFigures.new.Goals as goal

pub invariant_of-result-clause-stands : goal.invariant_of-result-clause-stands
unfolding figures_text decimal field
invariant_of-result-clause-stands c = refl
