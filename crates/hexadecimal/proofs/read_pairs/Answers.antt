-- `hexadecimal::read_pairs` meets its contract. The invariant: the first i twos are digits, and the bytes that they spell are written.
use mathlib.Core.Path.{refl, sym, ◌∙◌}
use borrow.Author.Rules.{rules}
use Rattle.lists.specs.Lists.{allb}
use Rattle.hexadecimal.proofs.Pairs.{digits_two, bytes_two, bytes_taken}
use Rattle.hexadecimal.proofs.read_pairs.Goals as goal

pub loop-i-init : goal.loop-i-init
unfolding allb
loop-i-init c = (refl, refl, refl)

pub returns-in-None-clause-bytes : goal.returns-in-None-clause-bytes
returns-in-None-clause-bytes c = bytes_taken _ _ _ c.loop-i.invariant.1 refl (search rules)

pub loop-i-preserved : goal.loop-i-preserved
loop-i-preserved c = (
  digits_two _ _ c.loop-i.invariant.0 (sym c.byte_spelt.ensures ∙ c.in-Some.is) (search rules),
  bytes_two _ _ _ c.loop-i.invariant.1 (sym c.byte_spelt.ensures ∙ c.in-Some.is) (search rules) (search rules),
  search rules,
)

pub returns-clause-bytes : goal.returns-clause-bytes
returns-clause-bytes c = bytes_taken _ _ _ c.loop-i.invariant.1 (search rules) (search rules)
