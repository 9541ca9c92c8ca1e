-- `nearby::nearest` meets its contract: what refuses a search comes first, then a list without an open depot; without a refusal the hop table has the
-- distances.
use mathlib.Core.Path.{◌≡◌, sym, ◌∙◌, subst}
use mathlib.Core.List.{List, ◌∷◌}
use Prim.Native.Nat.{ℕ}
use native.Mathlib.Omega.{arith}
use Rattle.std.proofs.lemmas.Result.{err_from_is_err_and}
use Rattle.lists.specs.Lists.{filterb}
use Rattle.rows.specs.Rows.{row_bit}
use Rattle.map.specs.Memory.{base, network_of}
use Rattle.map.proofs.Theorems.{base_shape}
use Rattle.layers.proofs.Ends.{yards_hold_ends}
use Rattle.search.proofs.Accepts.{granted}
use Rattle.nearby.specs.Steps.{FirstListed}
use Rattle.nearby.proofs.Accepts.{listed_below, nobody_listed, nearest_as_search, nearest_nobody, nearest_refused, nearest_accepted}
use Rattle.nearby.proofs.nearest.Goals as goal
use Rattle.nearby.proofs.nearest.Goals.{In_ok-first}

pub returns-in_err-search_refusal-clause-left : goal.returns-in_err-search_refusal-clause-left
returns-in_err-search_refusal-clause-left c =
    let p = err_from_is_err_and c.from_residual.result c.from_residual.ensures.1 in
    rw (p.1, p.2) (nearest_refused base _ _ _ _ _ (nearest_as_search base _ _ _ _ _ c.in_err-search_refusal.ensures))

pub returns-in_err-first-clause-left : goal.returns-in_err-first-clause-left
unfolding network_of
returns-in_err-first-clause-left c =
    let p = err_from_is_err_and c.from_residual-in_err-first.result c.from_residual-in_err-first.ensures.1 in
    let n = nobody_listed _ _ c.in_err-first.ensures.value c.first_listed.ensures in
    rw (p.1, p.2) (nearest_refused base _ _ _ _ _ (n.0 ∙ nearest_nobody base _ _ _ _ _ c.in_ok-search_refusal.ensures n.1))

pub search_sound-distance-requires : goal.search_sound-distance-requires
search_sound-distance-requires c =
    let g = granted base _ _ _ _ _ _ base_shape c.in_ok-search_refusal.ensures in
    (g.long, yards_hold_ends 4 _ _ (omega arith) _ g.net.sound, omega (arith, c.ranges.code.fits))

-- the first listed code that is open
is-first : (c : In_ok-first) → (rest : List ℕ) × (filterb (row_bit 4 c.args.rec.members) c.args.listed.now ≡ c.in_ok-first.first ∷ rest)
is-first c =
    subst (FirstListed _) c.in_ok-first.ensures.ok_part c.first_listed.ensures

pub nearest_listed-found-requires : goal.nearest_listed-found-requires
nearest_listed-found-requires c =
    let f = is-first (goal.at.nearest_listed-found-requires c).In_ok-first in
    let g = granted base _ _ _ _ _ _ base_shape c.in_ok-search_refusal.ensures in
    (omega (arith, c.search_sound-distance.ensures.same.hops.long, g.long.hops), listed_below 4 _ _ _ f.0 f.1)

pub bounds-scratch-found : goal.bounds-scratch-found
bounds-scratch-found c =
    let g = granted base _ _ _ _ _ _ base_shape c.in_ok-search_refusal.ensures in
    omega (arith, c.nearest_listed-found.ensures.1, c.search_sound-distance.ensures.same.hops.long, g.long.hops)

pub returns-clause-left : goal.returns-clause-left
returns-clause-left c =
    let f = is-first (goal.at.returns-clause-left c).In_ok-first in
    nearest_accepted base base_shape _ _ _ _ c.in_ok-search_refusal.ensures c.search_sound-distance.ensures.left
    _ f.0 f.1 c.nearest_listed-found.ensures.0 c.nearest_listed-found.ensures.1
