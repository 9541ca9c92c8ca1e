-- `hexadecimal::Digits::leading` meets its contract: `position` of the first byte that is no digit.
use mathlib.Core.Path.{refl}
use native.Mathlib.Omega.{arith}
use lib.ListN.{take}
use Rattle.std.proofs.lemmas.Grind.{common_steps}
use Rattle.std.proofs.lemmas.List.Recursion.{and_from_places}
use Rattle.lists.specs.Lists.{allb}
use Rattle.hexadecimal.specs.Hex.{is_digit}
use Rattle.hexadecimal.proofs.Digits.leading.Goals as goal

pub invariant_of-result : goal.invariant_of-result
unfolding allb
invariant_of-result c = record {
  are_digits = and_from_places (allb is_digit) is_digit refl (λ _ _. refl) (take c.unwrap_or-end.result c.args.s.now) 0 (λ i l. grind (arith, common_steps));
}
