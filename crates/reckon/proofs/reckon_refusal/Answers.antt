-- `reckon::reckon_refusal` meets its contract: it is what refuses the lent map.
use mathlib.Core.Path.{refl, sym, ◌∙◌}
use Rattle.lists.proofs.Tests.{clash}
use Rattle.map.specs.Memory.{base}
use Rattle.map.proofs.Longs.{are_long_lem}
use Rattle.reckon.proofs.Reckons.{refused_map}
use Rattle.reckon.proofs.reckon_refusal.Goals as goal

pub map_refusal-requires : goal.map_refusal-requires
map_refusal-requires c =
    (λ h. (are_long_lem base _ (sym c.is_long.ensures ∙ h)).links, λ h f. absurd (clash f refl))

pub returns : goal.returns
returns c =
    refused_map base _ _ _ _ c.is_long.ensures c.map_refusal.ensures
