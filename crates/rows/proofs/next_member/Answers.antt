-- `rows::next_member` meets its contract: no number from `from` on, below the word that is next, is a member.
use native.Mathlib.Omega.{arith}
use borrow.Author.Rules.{rules}
use Rattle.rows.proofs.Scan.{passed_more, passed_next, shifted_zero, shifted_next}
use Rattle.rows.proofs.next_member.Goals as goal

pub returns-then-w-ne0 : goal.returns-then-w-ne0
returns-then-w-ne0 c =
    let a = c.args in
    shifted_next a.words a.row.now a.from (omega arith) (search rules) c.least.result c.least.ensures

pub loop-j-init : goal.loop-j-init
loop-j-init c =
    let a = c.args in (
      search rules,
      search rules,
      shifted_zero a.words a.row.now a.from (omega arith) (search rules) c.if-w-ne0.false,
    )

pub returns-then-x-ne0 : goal.returns-then-x-ne0
returns-then-x-ne0 c = search passed_next

pub loop-j-preserved : goal.loop-j-preserved
loop-j-preserved c = search (passed_more, rules)
