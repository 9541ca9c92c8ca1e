-- `stale_pairs::whole::sift_whole` meets its contract (Wholes.antt): the greatest way is the chain where a member stays.
use mathlib.Core.Path.{◌∙◌}
use native.Mathlib.Omega.{arith}
use Rattle.stale_pairs.proofs.Wholes.{way_kept, whole_sifted}
use Rattle.stale_pairs.proofs.whole.sift_whole.Goals as goal
use Rattle.stale_pairs.proofs.whole.sift_whole.Goals.{then-word-eq0, else-word-eq0}

pub returns : goal.returns
returns g c =
    λ way h.
    let near = h _ _ (omega arith) c.take-near.ensures in
    whole_sifted _ _ _ _ _ c.ranges.x.fits near c.count.ensures c.count-2.ensures (elim c.if-word-eq0.branch [
      | then-word-eq0 w ↦ w.way'-is ∙ w.greatest_way-way.ensures way h
      | else-word-eq0 w ↦ w.way'-is ∙ way_kept _ _ _ _ _ near c.ranges.x.fits w.if-word-eq0.false
    ])
