-- `nearby::within` meets its contract: short places come first, then what refuses a search; without a refusal the hop table has the distances.
use mathlib.Core.Path.{sym, ◌∙◌}
use native.Mathlib.Omega.{arith}
use Rattle.std.proofs.lemmas.Result.{err_from_is_err_and}
use Rattle.map.specs.Memory.{base}
use Rattle.map.proofs.Theorems.{base_shape}
use Rattle.layers.proofs.Ends.{yards_hold_ends}
use Rattle.search.proofs.Accepts.{granted}
use Rattle.nearby.proofs.Accepts.{within_short, within_as_search, within_refused, within_accepted}
use Rattle.nearby.proofs.within.Goals as goal

pub returns-then-codes-lt-PLACES-clause-left : goal.returns-then-codes-lt-PLACES-clause-left
returns-then-codes-lt-PLACES-clause-left c =
    within_refused base _ _ _ _ _ _ (within_short base _ _ _ _ _ c.if-codes-lt-PLACES.true)

pub returns-in_err-search_refusal-clause-left : goal.returns-in_err-search_refusal-clause-left
returns-in_err-search_refusal-clause-left c =
    let p = err_from_is_err_and c.from_residual.result c.from_residual.ensures.1 in
    rw (p.1, p.2)
    (within_refused base _ _ _ _ _ _ (c.in_err-search_refusal.ensures ∙ within_as_search base _ _ _ _ _ (omega arith)))

pub search_sound-requires : goal.search_sound-requires
search_sound-requires c =
    let g = granted base _ _ _ _ _ _ base_shape c.in_ok-search_refusal.ensures in
    (g.long, yards_hold_ends 4 _ _ (omega arith) _ g.net.sound, omega (arith, c.ranges.code.fits))

pub list_within-requires : goal.list_within-requires
list_within-requires c =
    let g = granted base _ _ _ _ _ _ base_shape c.in_ok-search_refusal.ensures in
    (omega (arith, c.search_sound.ensures.same.hops.long, g.long.hops), omega arith)

pub returns-clause-left : goal.returns-clause-left
returns-clause-left c =
    within_accepted base base_shape _ _ _ _ c.in_ok-search_refusal.ensures c.search_sound.ensures.left
    _ _ (omega arith) c.list_within.ensures
