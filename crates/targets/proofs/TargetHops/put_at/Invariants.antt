-- `targets::TargetHops::put_at` meets its contract. The loop's invariant (Partners.antt): the first w words are put.
use mathlib.Core.Bool.{◌&&◌}
use lib.Dec.{eqb}
use lib.ListN.{get_or}
use Rattle.rows.specs.Rows.{row_bit}
use Rattle.targets.proofs.Partners.{IsPut}
use Rattle.targets.proofs.TargetHops.put_at.Given as goal

abbrev pub invariant-loop-w : goal.invariant-loop-w
invariant-loop-w l = IsPut (λ v. row_bit l.self.words l.self.targets.now v && eqb (get_or l.self.hops.now v 0) l.e) l.self.words l.initial.row l.row l.w
