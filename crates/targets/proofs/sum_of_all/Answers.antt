-- `targets::sum_of_all` meets its contract: 64 hops are added.
use mathlib.Core.Path.{◌≡◌, refl, ◌∙◌}
use Prim.Native.Nat.{◌+◌, ◌*◌}
use native.Mathlib.Omega.{arith}
use borrow.Author.Rules.{rules}
use borrow.Author.Tests.{tests}
use Rattle.std.proofs.lemmas.Iterator.{YieldsList-from_slice}
use Rattle.std.proofs.lemmas.Iterator.Adapters.{fits_from_length, at_most_from_yields_List}
use Rattle.std.proofs.lemmas.Iterator.Consumers.{YieldsList-at}
use Rattle.std.specs.List.{sum, between}
use Rattle.targets.proofs.Words.{all_sum}
use Rattle.targets.proofs.sum_of_all.Goals as goal

pub sum-requires-clause-fits : goal.sum-requires-clause-fits
sum-requires-clause-fits c =
    let road = YieldsList-at c.map.ensures.source (YieldsList-from_slice c.iter.result.rest.now refl) in
    fits_from_length _ _ 64 _ (at_most_from_yields_List road (omega arith)) c.map.ensures.closure (omega arith)
    (λ x r q k. search (rules, tests))

pub returns : goal.returns
returns c =
    let a = c.args in
    let e : c.sum.result ≡ sum (between (64 * a.w) (64 * a.w + 64) a.hops.now) = search rules in
    e ∙ all_sum a.hops.now a.w c.requires.0
