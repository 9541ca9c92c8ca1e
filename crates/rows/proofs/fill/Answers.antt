-- `rows::fill` meets its contract: the first n places are filled.
use mathlib.Core.Path.{◌≡◌}
use lib.ListN.{replicate}
use borrow.Author.Rules.{rules}
use Rattle.rows.proofs.Filled.{filled}
use Rattle.rows.proofs.fill.Goals as goal

pub returns : goal.returns
returns c =
    let e : c.fill.new.self ≡ replicate c.args.n c.args.x = search rules in
    filled _ _ _ _ e
