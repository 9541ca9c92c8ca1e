-- `sentences::put_figures` meets its contract: the four figures, each behind the one before it, and the full stop.
use native.Mathlib.Omega.{arith}
use Rattle.decimal.proofs.Places.{placed_join}
use Rattle.sentences.specs.Sentence.{figures_of}
use Rattle.sentences.proofs.put_figures.Goals as goal

pub returns : goal.returns
unfolding figures_of
returns c =
    let a = placed_join c.put_part-a.ensures c.put_part-b.ensures (omega arith) in
    let b = placed_join a c.put_part-c.ensures (omega arith) in
    placed_join (placed_join b c.put_part-d.ensures (omega arith)) c.put_text.ensures (omega arith)
