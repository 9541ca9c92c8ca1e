-- `targets::TargetHops::put_at` meets its contract. The loop's invariant (Partners.antt): the first w words are put.
use native.Mathlib.Omega.{arith}
use Rattle.targets.proofs.Partners.{put_none, put_more, at_word}
use Rattle.targets.proofs.TargetHops.put_at.Goals as goal

pub loop-w-preserved : goal.loop-w-preserved
loop-w-preserved c =
    put_more _ _ _ _ _ _ c.loop-w.invariant (omega arith) (omega arith)
    (at_word _ c.args.self.now.targets.now c.args.self.now.hops.now _ c.args.e _ (omega arith) c.word_at.ensures)

pub loop-w-init : goal.loop-w-init
loop-w-init c = search put_none
