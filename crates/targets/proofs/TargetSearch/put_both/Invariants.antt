-- `targets::TargetSearch::put_both` meets its contract. The loop's invariant (Partners.antt): the first w words are put.
use mathlib.Core.Bool.{◌&&◌}
use Rattle.rows.specs.Rows.{row_bit}
use Rattle.targets.proofs.Partners.{IsPut}
use Rattle.targets.proofs.TargetSearch.put_both.Given as goal

abbrev pub invariant-loop-w : goal.invariant-loop-w
invariant-loop-w l =
    let S = l.self.seen in
    IsPut (λ v. row_bit S.words S.targets.now v && row_bit S.words l.self.last.now v) S.words l.initial.row l.row l.w
