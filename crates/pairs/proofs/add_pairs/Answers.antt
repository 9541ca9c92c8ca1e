-- `pairs::add_pairs` meets its contract. The loop's invariant (Adding.antt): the pairs of r with the members in the words passed are in the table,
-- and the sum counts them all.
use native.Mathlib.Omega.{arith}
use borrow.Author.Rules.{rules}
use Rattle.pairs.proofs.Tallies.{holds_whole, holds_counted}
use Rattle.pairs.proofs.Adding.{add_start, add_upper, add_word, lower_bits, upper_bits, add_end}
use Rattle.pairs.proofs.add_pairs.Goals as goal

pub loop-j-init : goal.loop-j-init
loop-j-init c = add_start _ _ (holds_whole c.requires.0 (λ i l. search rules))

pub put_upper-sum-requires : goal.put_upper-sum-requires
put_upper-sum-requires c = search holds_counted

pub put_lower-sum-requires : goal.put_lower-sum-requires
put_lower-sum-requires c =
    let pre = c.requires.0 in
    let upper = add_upper c.loop-j.invariant c.loop-j-test.true _ c.put_upper-sum.ensures in
    (holds_counted upper pre.positive pre.most pre.table, c.requires.2, c.loop-j-test.true)

pub loop-j-preserved : goal.loop-j-preserved
loop-j-preserved c =
    add_word c.loop-j.invariant c.loop-j-test.true _ c.put_upper-sum.ensures _
    c.put_lower-sum.ensures
    (upper_bits _ _ _ (search rules) c.lower_part-up_to.ensures)
    (lower_bits _ _ _ c.lower_part-below.ensures)

pub returns : goal.returns
returns c = add_end c.loop-j.invariant (omega arith)
