-- `report::kept::keep_figures` meets its contract: the first bytes of the copy are the text.
use lib.ListN.{length}
use lib.Seq.{length-take-le}
use Prim.Native.Nat.{◌≤◌}
use Rattle.report.proofs.Texts.{figures_least, text_kept}
use Rattle.report.proofs.kept.keep_figures.Goals as goal
use Rattle.report.proofs.kept.keep_figures.Goals.{Start}

text_least : (c : Start) → 8 ≤ length c.args.text.now
text_least c = figures_least c.args.report c.requires.0

pub copy_ends-requires : goal.copy_ends-requires
copy_ends-requires c = (length-take-le _ _ c.requires.1, text_least (goal.at.copy_ends-requires c).Start, c.requires.1)

pub invariant_of-result-clause-in_range : goal.invariant_of-result-clause-in_range
invariant_of-result-clause-in_range c = (text_least (goal.at.invariant_of-result-clause-in_range c).Start, c.requires.1)

pub invariant_of-result-clause-stands : goal.invariant_of-result-clause-stands
invariant_of-result-clause-stands c = text_kept _ c.copy_ends.ensures c.requires.0
