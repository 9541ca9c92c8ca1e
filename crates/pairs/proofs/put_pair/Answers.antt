-- `pairs::put_pair` meets its contract: a pair that is there leaves table and count, a new one is put and counted.
use mathlib.Core.Path.{sym, ap, ◌∙◌}
use mathlib.Core.List.{List}
use Prim.Native.Nat.{ℕ, ◌+◌}
use borrow.Author.Rules.{rules}
use Rattle.pairs.specs.Pairs.{tally}
use Rattle.pairs.proofs.Tallies.{holds_whole, put_old, put_new}
use Rattle.pairs.proofs.put_pair.Goals as goal

pub returns-then-row_test : goal.returns-then-row_test
returns-then-row_test c =
    (put_old _ _ (holds_whole c.requires.0 (λ i l. search rules)) (sym c.row_test.ensures ∙ c.if-row_test.true)).is

pub returns : goal.returns
returns c =
    let out = sym c.row_test.ensures ∙ c.if-row_test.false in
    ap (λ (t : List ℕ). tally t (c.args.count + 1)) c.row_set.ensures
    ∙ (put_new _ _ (holds_whole c.requires.0 (λ i l. search rules)) out c.requires.1 c.requires.2).is
