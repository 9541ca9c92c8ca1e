-- `report::kept::KeptTens::new` meets its contract: the text is that of 1,000.
use mathlib.Core.Path.{refl}
use Rattle.decimal.specs.Decimal.{spell, decimal}
use Rattle.report.proofs.kept.KeptTens.new.Goals as goal

pub invariant_of-result-clause-stands : goal.invariant_of-result-clause-stands
unfolding decimal spell
invariant_of-result-clause-stands c = refl
