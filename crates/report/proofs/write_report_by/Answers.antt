-- `report::write_report_by` meets its contract: number, outcome, figures and ending are put one behind another, and 45 bytes hold them all.
use native.Mathlib.Omega.{arith}
use lib.ListN.{length}
use Prim.Native.Nat.{◌≤◌}
use Rattle.decimal.specs.Decimal.{decimal}
use Rattle.decimal.proofs.Decimals.{decimal_word}
use Rattle.report.specs.Line.{figures_text}
use Rattle.report.proofs.Texts.{figures_most}
use Rattle.report.proofs.Lines.{report_done_lem, line_placed}
use borrow.Author.Rules.{rules}
use Rattle.report.proofs.write_report_by.Goals as goal
use Rattle.report.proofs.write_report_by.Goals.{Start}

-- the fields of the report have their widths, so number and figures take at most 10 and 29 bytes
number_fits : (c : Start) → length (decimal c.args.report.number) ≤ 10
number_fits c = decimal_word c.args.report.number (search rules)

figures-fit : (c : Start) → length (figures_text c.args.report) ≤ 29
figures-fit c = figures_most c.args.report (search rules) (search rules) (search rules) (search rules)

pub returns : goal.returns
returns c =
    report_done_lem _ (line_placed _ c.put-a.ensures c.put_outcome-b.ensures.0
    c.put-end.ensures (omega (arith, number_fits (goal.at.returns c).Start, figures-fit (goal.at.returns c).Start))) (omega arith)
