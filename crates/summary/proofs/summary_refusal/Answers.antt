-- `summary::summary_refusal` meets its contract: short counts come first, then what refuses the lent map, then the number of the depots that deliver.
use mathlib.Core.Path.{refl, sym, ◌∙◌}
use Rattle.lists.proofs.Tests.{clash}
use Rattle.map.specs.Memory.{base}
use Rattle.map.proofs.Longs.{are_long_lem}
use Rattle.summary.proofs.summary_refusal.Goals as goal

pub map_refusal-requires : goal.map_refusal-requires
map_refusal-requires c =
    (λ h. (are_long_lem base _ (sym c.is_long.ensures ∙ h)).links, λ h f. absurd (clash f refl))
