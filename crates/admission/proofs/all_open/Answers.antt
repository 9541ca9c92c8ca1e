-- `admission::all_open` meets its contract: `all` over the codes.
use mathlib.Core.Path.{refl}
use native.Mathlib.Omega.{arith}
use Rattle.std.proofs.lemmas.Grind.{common_steps}
use Rattle.std.proofs.lemmas.List.Recursion.{and_is}
use Rattle.lists.specs.Lists.{allb}
use Rattle.rows.specs.Rows.{row_bit}
use Rattle.admission.proofs.all_open.Goals as goal

pub returns : goal.returns
unfolding allb
returns c =
    let is_open = row_bit c.args.words c.args.members.now in
    and_is (allb is_open) is_open refl (λ _ _. refl) c.args.neighbours.now 0 _ (grind (arith, common_steps)) (grind (arith, common_steps))
