-- THE SECOND TABLE holds of the opening call on lent memory, carried over from the network. Assumes nothing.
use mathlib.Core.Path.{◌≡◌, refl, ◌∙◌}
use mathlib.Core.Bool.{true}
use mathlib.Core.List.{map}
use Rattle.lists.specs.Lists.{allb}
use Rattle.graph.specs.Cases.{follow_all, no_depot}
use Rattle.map.specs.Memory.{base}
use Rattle.update.specs.UpdateCall.{update_call}
use Rattle.cases.specs.Rules.{shrink_lines, shrink_answers, RuleCases}
use Rattle.cases.proofs.Lines.{row}
use Rattle.cases.proofs.Theorems.{opens_bytes, opened_lines}

shrink_bytes : allb opens_bytes shrink_lines ≡ true
unfolding allb opens_bytes
shrink_bytes = refl

shrink_followed : map row (follow_all no_depot shrink_lines) ≡ shrink_answers
unfolding follow_all no_depot
shrink_followed = refl

pub rule_cases_hold : RuleCases (update_call base)
rule_cases_hold = record { shrunk = λ cs e lent. opened_lines shrink_lines shrink_bytes cs e lent ∙ shrink_followed }
