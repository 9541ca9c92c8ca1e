-- `stale_pairs::sift::sift` meets its contract. The loop's invariant (Sifting.antt): the members that are not left are taken out where they are stale, and
-- their greatest way is known. The measure is the word that is left, which falls.
use native.Mathlib.Omega.{arith}
use Rattle.stale_pairs.proofs.Sifting.{sift_start, sift_few, sift_drop, sift_keep}
use Rattle.stale_pairs.proofs.sift.sift.Goals as goal

pub overflow_add-gone : goal.overflow_add-gone
overflow_add-gone g c = let told = c.requires.told in omega (arith, sift_few _ _ _ _ _ (c.loop-left.invariant told.0 told.1))

pub overflow_add-kept : goal.overflow_add-kept
overflow_add-kept g c = let told = c.requires.told in omega (arith, sift_few _ _ _ _ _ (c.loop-left.invariant told.0 told.1))

pub loop-left-init : goal.loop-left-init
loop-left-init g c = λ way h. search sift_start

pub loop-left-preserved-then-d-chain : goal.loop-left-preserved-then-d-chain
loop-left-preserved-then-d-chain g c = λ way h. search (sift_drop, c.loop-left.invariant way h, h _ _ c.least-b.ensures.below c.tell-d.ensures)

pub loop-left-preserved : goal.loop-left-preserved
loop-left-preserved g c = λ way h. search (sift_keep, c.loop-left.invariant way h, h _ _ c.least-b.ensures.below c.tell-d.ensures)
