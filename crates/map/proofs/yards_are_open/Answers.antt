-- `map::yards_are_open` meets its contract: each word is tried.
use mathlib.Core.Path.{refl, ◌∙◌}
use mathlib.Core.Bool.{Bool}
use Prim.Native.Nat.{ℕ, ◌-◌, ◌^◌}
use native.Mathlib.Omega.{arith}
use borrow.Author.Rules.{rules}
use borrow.Author.Tests.{tests}
use lib.Bits.{bit_and}
use lib.Dec.{eqb}
use lib.ListN.{get_or}
use Rattle.std.proofs.lemmas.Iterator.{YieldsList-from_range}
use Rattle.std.proofs.lemmas.Iterator.Search.{all_from_yields_List}
use Rattle.map.proofs.Yards.{yards_by_words}
use Rattle.map.proofs.yards_are_open.Goals as goal

pub returns : goal.returns
returns c =
    let a = c.args in
    let test : ℕ → Bool = λ j. eqb (bit_and (get_or a.yards.now j 0) ((2 ^ 64 - 1) - get_or a.members.now j 0)) 0 in
    let road = YieldsList-from_range 0 a.words a.words refl (omega arith) in
    all_from_yields_List test _ _ _ c.all.ensures.ran road (λ x b q k. search (rules, tests))
    ∙ yards_by_words a.words a.members.now a.yards.now (λ j. (c.type_inv.yards j).fits) (λ j. (c.type_inv.members j).fits)
