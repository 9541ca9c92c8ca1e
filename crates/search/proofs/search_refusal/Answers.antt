-- `search::search_refusal` meets its contract: what refuses the lent map comes first, then the code.
use mathlib.Core.Path.{refl, sym, ◌∙◌}
use Rattle.lists.proofs.Tests.{clash, test_failed, test_passed}
use Rattle.map.specs.Memory.{base, network_of}
use Rattle.map.proofs.Longs.{are_long_lem}
use Rattle.search.proofs.Accepts.{refused_map, refused_absent, refused_never}
use Rattle.std.proofs.lemmas.Result.{err_from_is_err_and}
use Rattle.search.proofs.search_refusal.Goals as goal

pub map_refusal-requires : goal.map_refusal-requires
map_refusal-requires c =
    (λ h. (are_long_lem base _ (sym c.are_long.ensures ∙ h)).links, λ h f. absurd (clash f refl))

pub returns-in_err-map_refusal : goal.returns-in_err-map_refusal
returns-in_err-map_refusal c =
    let p = err_from_is_err_and c.from_residual.result c.from_residual.ensures.1 in
    rw (p.1, p.2) (refused_map base _ _ _ _ _ _ _ c.are_long.ensures c.in_err-map_refusal.ensures)

pub returns-then-not-is_open : goal.returns-then-not-is_open
unfolding network_of
returns-then-not-is_open c =
    refused_absent base _ _ _ _ _ _ c.are_long.ensures c.in_ok-map_refusal.ensures refl
    (test_failed c.is_open.ensures c.if-not-is_open.true-raw)

pub returns : goal.returns
unfolding network_of
returns c =
    refused_never base _ _ _ _ _ _ c.are_long.ensures c.in_ok-map_refusal.ensures refl
    (test_passed c.is_open.ensures c.if-not-is_open.false-raw)
