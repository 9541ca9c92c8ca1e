-- `rows::is_empty` meets its contract: no word has a member.
use mathlib.Core.Path.{◌≡◌}
use borrow.Author.Rules.{rules}
use borrow.Author.Tests.{tests}
use lib.ListN.{take}
use Rattle.std.proofs.lemmas.Iterator.{cases_from_all, YieldsList-from_slice}
use Rattle.rows.proofs.Scan.{none_by_words}
use Rattle.rows.proofs.is_empty.Goals as goal

pub returns : goal.returns
returns c =
    none_by_words _ _ c.requires (λ i. (c.type_inv.row i).fits) _
    (cases_from_all _ _ _ (λ x. x ≡ 0) (λ x. x ≡ 0 → ⊥) c.all.ensures.ran (YieldsList-from_slice (take c.args.words c.args.row.now) cc)
    (λ x q k. search (rules, tests)) (λ x q k. search (rules, tests)))
