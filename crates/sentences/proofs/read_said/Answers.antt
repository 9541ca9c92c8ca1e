-- `sentences::read_said` meets its contract: each part behind the one before it, up to the full stop.
use Rattle.sentences.specs.Reading.{read_said}
use Rattle.sentences.proofs.read_said.Goals as goal

pub returns-in_err-rest : goal.returns-in_err-rest
unfolding read_said
returns-in_err-rest c =
    rw (
      c.from_residual-in_err-rest.ensures,
      ← c.in_ok-event.ensures,
      ← c.in_ok-outcome.ensures,
      ← c.in_ok-depots.ensures,
      ← c.in_ok-chain.ensures,
      ← c.in_ok-pairs.ensures,
      ← c.in_ok-searches.ensures,
      ← c.in_err-rest.ensures,
    )

pub returns : goal.returns
unfolding read_said
returns c =
    rw (
      ← c.in_ok-event.ensures,
      ← c.in_ok-outcome.ensures,
      ← c.in_ok-depots.ensures,
      ← c.in_ok-chain.ensures,
      ← c.in_ok-pairs.ensures,
      ← c.in_ok-searches.ensures,
      ← c.in_ok-rest.ensures,
    )
