-- `rows::clear_table` meets its contract: after g turns the first g groups are 0, the last on either way.
use mathlib.Core.Path.{sym, ◌∙◌}
use Prim.Native.Nat.{◌+◌, ◌-◌, ◌*◌}
use native.Mathlib.Omega.{arith}
use borrow.Author.Rules.{rules}
use Rattle.rows.proofs.Zeros.{zeros_are, zeros_more}
use Rattle.rows.proofs.clear_table.Goals as goal
use Rattle.rows.proofs.clear_table.Goals.{then-not-all_zero, else-not-all_zero}

pub loop-g-preserved : goal.loop-g-preserved
loop-g-preserved c =
    let k = 64 * c.loop-g.g in
    let e = 64 * (c.loop-g.g + 1) in
    elim c.if-not-all_zero.branch [
      | then-not-all_zero w ↦ zeros_more k (k + 64 - k) e c.args.t.now w.t-is (w.fill.ensures.after (λ y q. search rules))
          (omega arith) c.loop-g.invariant (omega arith) (omega arith)
      | else-not-all_zero w ↦ zeros_more k (k + 64 - k) e c.args.t.now w.t-is (zeros_are _ (sym w.if-not-all_zero.false ∙ c.all_zero.ensures))
          (omega arith) c.loop-g.invariant (omega arith) (omega arith)
    ]
