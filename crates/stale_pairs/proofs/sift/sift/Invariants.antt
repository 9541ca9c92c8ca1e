-- `stale_pairs::sift::sift` meets its contract. The loop's invariant (Sifting.antt): the members that are not left are taken out where they are stale, and
-- their greatest way is known. The measure is the word that is left, which falls.
use Prim.Native.Nat.{ℕ}
use Rattle.stale_pairs.specs.Stale.{TellsWord}
use Rattle.stale_pairs.proofs.Sifting.{Sifting}
use Rattle.stale_pairs.proofs.sift.sift.Given as goal

abbrev pub invariant-loop-left : goal.invariant-loop-left
invariant-loop-left g l =
    (way : ℕ → ℕ → ℕ) → TellsWord l.u l.first l.chain (goal.F-post g l.tell) way → Sifting way l.chain l.u l.first l.x l.word l.gone l.kept l.way l.left

abbrev pub decreases-loop-left : goal.decreases-loop-left
decreases-loop-left g l = l.left
