-- `lent_map::all_reached` meets its contract: each code is tried, as `is_reached` answers.
use mathlib.Core.Path.{refl, ◌∙◌}
use mathlib.Core.Bool.{Bool, not, ◌||◌}
use Prim.Native.Nat.{ℕ, ◌*◌}
use native.Mathlib.Omega.{arith}
use borrow.Author.Rules.{rules}
use borrow.Author.Tests.{tests}
use lib.Dec.{ltb}
use lib.ListN.{get_or}
use Rattle.std.proofs.lemmas.Iterator.{YieldsList-from_range}
use Rattle.std.proofs.lemmas.Iterator.Search.{all_from_yields_List}
use Rattle.graph.specs.Distance.{unreached}
use Rattle.rows.specs.Rows.{row_bit}
use Rattle.map.proofs.Yards.{all_range}
use Rattle.lent_map.proofs.all_reached.Goals as goal

pub returns : goal.returns
returns c =
    let a = c.args in
    let test : ℕ → Bool = λ v. not (row_bit a.words a.members.now v) || ltb (get_or a.hops.now v 0) unreached in
    let road = YieldsList-from_range 0 (64 * a.words) (64 * a.words) refl (omega arith) in
    all_from_yields_List test _ _ _ c.all.ensures.ran road (λ x b q k. search (rules, tests)) ∙ all_range test (64 * a.words)
