-- `frontier::take_left` meets its contract. The loop's invariant (Passes.antt): the first j words are taken, and their or tells whether a code is.
use native.Mathlib.Omega.{arith}
use Rattle.frontier.proofs.Passes.{take_start, take_next}
use Rattle.frontier.proofs.take_left.Goals as goal

pub loop-j-init : goal.loop-j-init
loop-j-init c = take_start _ _ _

pub loop-j-preserved : goal.loop-j-preserved
loop-j-preserved c =
    let l = c.loop-j in
    take_next _ _ _ _ _ _ _ l.invariant (omega arith) (omega arith) (omega arith) (c.slice_known-1.given l.j).fits (c.slice_known-in-loop-j-1.given l.j).fits
