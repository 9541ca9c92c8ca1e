-- `report::kept::KeptTens::put` meets its contract: what is kept of the number is its text without the last digit.
use native.Mathlib.Omega.{arith}
use Prim.Native.Nat.{◌-◌}
use lib.ListN.{drop, length-take, length-drop}
use Rattle.decimal.proofs.Places.{placed_size}
use Rattle.report.proofs.Texts.{tens_stand}
use Rattle.report.proofs.kept.KeptTens.put.Goals as goal

pub keep_tens-requires : goal.keep_tens-requires
keep_tens-requires c =
    let size = placed_size c.put_number-end.ensures c.requires in
    let k = c.put_number-end.result - 1 - c.args.at in
    let rest = drop c.args.at c.put_number-end.new.line in
    let long = length-take k rest in
    let far = length-drop c.args.at c.put_number-end.new.line in (
      tens_stand _ c.put_number-end.ensures c.requires (omega arith),
      omega (arith, long, far, size, c.put_number-end.ensures.behind),
      omega (arith, long, far, size, c.put_number-end.ensures.behind),
    )
